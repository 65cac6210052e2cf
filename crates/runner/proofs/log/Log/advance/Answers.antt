-- The policy is asked of the lines that are left, and the line that it answers is worked on; before that the step can be refused.
use Rattle.std.proofs.Common.{◌≡◌, Some, None, Err, sym, refl, rules}
use Rattle.model.specs.declared.answers.StepRefusal.TheVariants.{By}
use Rattle.model.specs.declared.refusal.Refusal.TheVariants.{LinesEnded}
use Rattle.policy.specs.Lines.{has, Lowest}
use Rattle.runner.proofs.Asks.{refused_by, blank, shut, stopped, over, worked}
use Rattle.runner.proofs.log.Log.advance.Goals as goal

pub returns-in-Some-clause-promise : goal.returns-in-Some-clause-promise
returns-in-Some-clause-promise g c = refused_by _ _ _ _ (blank _ _ c.in-Some.refusal (sym c.in-Some.ensures)) refl

pub returns-then-not-is_open-clause-promise : goal.returns-then-not-is_open-clause-promise
returns-then-not-is_open-clause-promise g c = refused_by _ _ _ _ (shut _ _ (sym c.in_default.ensures) (sym c.if-not-is_open.ensures)) refl

pub returns-in-Some-stop-clause-promise : goal.returns-in-Some-stop-clause-promise
returns-in-Some-stop-clause-promise g c =
    refused_by _ _ _ _ (stopped _ _ (sym c.in_default.ensures) (sym c.if-not-is_open.ensures) c.in-Some-stop.stop (sym c.in-Some-stop.ensures)) refl

pub returns-in_err-front-clause-promise : goal.returns-in_err-front-clause-promise
returns-in_err-front-clause-promise g c =
    let told : c.from_residual.result ≡ Err (By LinesEnded) = search rules in
    let none : Lowest (has c.left-left.result) None = search rules in
    rw told (refused_by _ _ _ _ (over _ _ (sym c.in_default.ensures) (sym c.if-not-is_open.ensures) (sym c.in_default-stop.ensures) (has c.left-left.result) c.left-left.ensures none) refl)

pub returns-clause-promise : goal.returns-clause-promise
returns-clause-promise g c =
    let lowest : Lowest (has c.left-left.result) (Some c.in_ok-front.front) = search rules in
    worked _ _ (sym c.in_default.ensures) (sym c.if-not-is_open.ensures) (sym c.in_default-stop.ensures) (has c.left-left.result) c.left-left.ensures
    _ c.in_ok-front.front c.ask-line.result c.work.result _ lowest c.ask-line.ensures.answers c.work.ensures.line c.work.ensures.skipped c.work.ensures.stop c.work.ensures.world
