-- The report is laid behind its length.
use Rattle.std.proofs.Common.{◌≡◌, ◌-◌, false, length, nat_lt, ap, ◌∙◌, refl, arith}
use Rattle.std.proofs.lemmas.Bool.{le-ltb}
use Rattle.std.proofs.lemmas.List.{length-drop}
use borrow.Rule.Slice.PartMut.{mid_of, put_mid}
use Rattle.output.specs.Writes.{laid}
use Rattle.pool.specs.Contents.{meant}
use Rattle.report.specs.Report.{report_bytes}
use Rattle.script.specs.Scripts.{meaning}
use Rattle.trace.specs.Reads.{two_bytes}
use Rattle.boundary.proofs.Parts.{rest_is, into_rest, in_front}
use Rattle.boundary.proofs.accounts.write_report.Goals as goal

pub returns-clause-bytes : goal.returns-clause-bytes
returns-clause-bytes g c =
    let text = report_bytes c.args.outcome (meaning c.args.script.now).labels (meant c.args.pool.now) (g.F.FileStore.map c.args.files.now) in
    let out = c.args.out.now in
    let part = mid_of 2 (length out - 2) out in
    let size : length part ≡ length out - 2 = ap length (rest_is 2 out) ∙ length-drop 2 out in
    let long : nat_lt (length part) 2048 ≡ false = le-ltb (length part) 2048 (omega arith) in
    let bytes : c.report.new.out ≡ laid 0 text part = rw long at c.report.ensures.bytes in
    let answer = rw long at c.report.ensures.answer in
    let is = c.unwrap-len.ensures in
    let len : c.unwrap-len.result ≡ length text = cc in
    c.write_two.ensures
    ∙ ap (λ n. laid 0 (two_bytes n) (put_mid 2 (length out - 2) out c.report.new.out)) len
    ∙ ap (laid 0 (two_bytes (length text))) (into_rest 2 text out c.report.new.out bytes)
    ∙ in_front 2 (two_bytes (length text)) text out refl (omega arith)
