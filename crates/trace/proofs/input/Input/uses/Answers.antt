-- The reads are taken one after the other.
use Rattle.std.proofs.Common.{arith}
use Rattle.trace.proofs.Breaks.{break_told}
use Rattle.trace.proofs.Highs.{rest_more, rest_stop}
use Rattle.trace.proofs.input.Input.uses.Goals as goal
use Rattle.trace.specs.Reads.{many}
use Rattle.trace.specs.Told.{left, used}
use Rattle.trace.specs.Format.{a_use, higher}

pub returns-in_err-u-clause-value : goal.returns-in_err-u-clause-value
returns-in_err-u-clause-value c =
    let l = c.loop-i in
    let m = c.args.contents in
    let n = c.args.count in
    let h = c.args.high in
    let answer = many (a_use m) higher n h (left c.args.self.now) in
    let e = c.in_err-u.field-0.0 in
    break_told used _ _ e answer c.from_residual.ensures.1
    (rest_stop answer m n h l.list l.top l.i (left l.self) l.invariant c.loop-i-test.true e c.in_err-u.ensures)

pub loop-i-preserved : goal.loop-i-preserved
loop-i-preserved c =
    let l = c.loop-i in
    let m = c.args.contents in
    let n = c.args.count in
    let h = c.args.high in
    let answer = many (a_use m) higher n h (left c.args.self.now) in
    let long = l.invariant.long in
    rest_more answer m n h l.list l.top l.i (left l.self) l.invariant c.loop-i-test.true
    c.in_ok-u.u (left c.one_use.new.self) c.max-top.result (omega arith) c.max-top.ensures c.in_ok-u.ensures
