-- The report is laid behind the head, and the trace file behind both.
use Rattle.std.proofs.Common.{◌≡◌, ℕ, ◌+◌, ◌-◌, ◌≤◌, List, ◌++◌, length, ap, ◌∙◌, sym, refl, arith}
use Rattle.std.proofs.lemmas.List.{length-append, length-drop}
use borrow.Rule.Slice.PartMut.{mid_of, put_mid}
use Rattle.model.specs.Load.{Traced}
use Rattle.output.specs.Writes.{laid}
use Rattle.pool.specs.Contents.{meant}
use Rattle.report.specs.Report.{report_bytes}
use Rattle.runner.specs.Views.{records}
use Rattle.script.specs.Scripts.{meaning}
use Rattle.trace_write.specs.Saves.{to_save}
use Rattle.boundary.specs.Accounts.{head, after_length, trace_part}
use Rattle.boundary.proofs.Accounting.{head_size}
use Rattle.boundary.proofs.Parts.{behind_rest, laid_length, rest_is}
use Rattle.boundary.proofs.accounts.write_account.Goals as goal

-- three pieces, each laid behind those before it
module _ (t : Traced) (h x out one two part rest : List ℕ) (at : ℕ) (long : length h ≡ 134) (size : at ≡ 134 + length x) (fits : 134 + length x ≤ length out)
    (one_is : one ≡ laid 0 h out) (part_is : part ≡ laid 0 x (mid_of 134 (length one - 134) one)) (two_is : two ≡ put_mid 134 (length one - 134) one part) where
  front_is : two ≡ laid 0 (h ++ x) out
  front_is = two_is ∙ behind_rest 134 h x out one part one_is (sym long) (omega arith) part_is

  at_is : at ≡ length (h ++ x)
  at_is = omega (arith, length-append h x)

  room_is : length (mid_of at (length two - at) two) - 4 ≡ length out - (length (h ++ x) + 4)
  room_is =
      let whole : length two ≡ length out = ap length front_is ∙ laid_length (h ++ x) out (omega (arith, at_is)) in
      let left : length (mid_of at (length two - at) two) ≡ length two - at = ap length (rest_is at two) ∙ length-drop at two in
      omega (arith, at_is)

  bytes_are : rest ≡ laid 0 (trace_part (length (mid_of at (length two - at) two) - 4) t) (mid_of at (length two - at) two) →
      put_mid at (length two - at) two rest ≡ laid 0 ((h ++ x) ++ trace_part (length out - (length (h ++ x) + 4)) t) out
  bytes_are is =
      behind_rest at (h ++ x) (trace_part (length (mid_of at (length two - at) two) - 4) t) out two rest front_is at_is (omega (arith, at_is)) is
      ∙ ap (λ n. laid 0 ((h ++ x) ++ trace_part n t) out) room_is

  length_is : (n : ℕ) → n ≡ length (trace_part (length (mid_of at (length two - at) two) - 4) t) → at + n ≡ length ((h ++ x) ++ trace_part (length out - (length (h ++ x) + 4)) t)
  length_is n is =
      let z = trace_part (length out - (length (h ++ x) + 4)) t in
      let e : n ≡ length z = is ∙ ap (λ k. length (trace_part k t)) room_is in
      omega (arith, at_is, length-append (h ++ x) z)

pub returns-clause-value : goal.returns-clause-value
returns-clause-value g c =
    let fs = g.F.FileStore.map c.args.files.now in
    let x = after_length (report_bytes c.args.outcome (meaning c.args.script.now).labels (meant c.args.pool.now) fs) in
    let one = c.write_head.new.out in
    length_is (to_save (meant c.args.pool.now) (records c.args.book.now)) (head c.args.outcome fs) x c.args.out.now
    one (put_mid 134 (length one - 134) one c.write_report-at.new.out) c.write_report-at.new.out c.write_trace.new.out (134 + c.write_report-at.result)
    (head_size c.args.outcome fs (g.met.F.FileStore.long c.args.files.now)) (omega (arith, c.write_report-at.ensures.value)) (omega (arith, c.write_report-at.ensures.value))
    c.write_head.ensures c.write_report-at.ensures.bytes refl c.write_trace.result c.write_trace.ensures.value

pub returns-clause-bytes : goal.returns-clause-bytes
returns-clause-bytes g c =
    let fs = g.F.FileStore.map c.args.files.now in
    let x = after_length (report_bytes c.args.outcome (meaning c.args.script.now).labels (meant c.args.pool.now) fs) in
    let one = c.write_head.new.out in
    bytes_are (to_save (meant c.args.pool.now) (records c.args.book.now)) (head c.args.outcome fs) x c.args.out.now
    one (put_mid 134 (length one - 134) one c.write_report-at.new.out) c.write_report-at.new.out c.write_trace.new.out (134 + c.write_report-at.result)
    (head_size c.args.outcome fs (g.met.F.FileStore.long c.args.files.now)) (omega (arith, c.write_report-at.ensures.value)) (omega (arith, c.write_report-at.ensures.value))
    c.write_head.ensures c.write_report-at.ensures.bytes refl c.write_trace.ensures.bytes
