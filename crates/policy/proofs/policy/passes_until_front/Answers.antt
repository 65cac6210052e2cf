-- The bound is the model's, on the asks that were made.
use Rattle.std.proofs.Common.{refl, ◌∙◌, arith}
use Rattle.policy.specs.Lines.{has}
use Rattle.policy.proofs.Asking.{passing_none, passing_few, passing_more, passing_ends}
use Rattle.policy.proofs.policy.passes_until_front.Goals as goal

pub loop-passed-init : goal.loop-passed-init
loop-passed-init g c = (passing_none, refl, omega arith)

pub returns-then-ask-front-clause-asks : goal.returns-then-ask-front-clause-asks
returns-then-ask-front-clause-asks g c =
    let inv = c.loop-passed.invariant in
    passing_ends _ _ _ _ _ c.loop-passed.passed (has c.args.among.now) c.ask.result _ inv.0 inv.1 c.ask.ensures.answers c.if-ask-front.true

pub loop-passed-preserved : goal.loop-passed-preserved
loop-passed-preserved g c =
    let inv = c.loop-passed.invariant in
    let a = c.ask.ensures in
    let more = passing_more _ _ _ _ _ c.loop-passed.passed (has c.args.among.now) c.ask.result _ inv.0 inv.1 a.answers c.if-ask-front.false in
    (more, a.same ∙ inv.1, passing_few _ _ _ _ _ more)
