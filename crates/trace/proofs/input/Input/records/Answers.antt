-- The loop over the records gives the highest index in them.
use Rattle.std.proofs.Common.{◌+◌, ap, sym, subst, ◌∙◌}
use Rattle.trace.proofs.Breaks.{break_told}
use Rattle.trace.proofs.Entries.{Rest, rest_more, rest_stop}
use Rattle.trace.proofs.input.Input.records.Goals as goal
use Rattle.trace.specs.Format.{all_records, a_record}
use Rattle.trace.specs.Told.{left, gathered, high_of, shown, met}

pub returns-in_err-next : goal.returns-in_err-next
returns-in_err-next c =
    let l = c.loop in
    let m = c.args.contents in
    let n = c.args.count in
    let e = c.in_err-next.field-0.0 in
    let answer = gathered high_of (all_records m n (left c.args.self.now)) in
    let same = ap (λ es. a_record m (met es l.high) (left l.self)) c.as_slice.ensures.value in
    break_told (λ x. x) _ _ e _ c.from_residual.ensures.1
    (rest_stop answer m n l.commands.items l.high l.counter (left l.self) l.invariant c.loop-test.true e (c.in_err-next.ensures.value ∙ same))

pub loop-preserved : goal.loop-preserved
loop-preserved c =
    let l = c.loop in
    let m = c.args.contents in
    let n = c.args.count in
    let next = c.in_ok-next.next in
    let bs = left c.args.self.now in
    let answer = gathered high_of (all_records m n bs) in
    let same = ap (λ es. a_record m (met es l.high) (left l.self)) c.as_slice.ensures.value in
    let more = rest_more answer m n l.commands.items l.high l.counter (left l.self) l.invariant c.loop-test.true
    (shown next) (left c.record.new.self) next.high c.in_ok-next.ensures.high (c.in_ok-next.ensures.value ∙ same) in
    subst (λ es. Rest answer m n es next.high (l.counter + 1) (left c.record.new.self)) (sym c.push.ensures.items) more
