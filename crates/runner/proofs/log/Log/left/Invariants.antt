-- The lines below the count, without the ended ones among those that the loop has passed.
use Rattle.runner.proofs.Left.{Sofar}
use Rattle.runner.proofs.log.Log.left.Given as goal

abbrev pub invariant-loop-line : goal.invariant-loop-line
invariant-loop-line l = Sofar l.run.lines l.run.states l.line l.set
