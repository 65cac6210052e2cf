-- The lines before have given their records.
use Rattle.runner.proofs.Gives.{Given}
use Rattle.runner.proofs.log.Log.give_records.Given as goal

abbrev pub invariant-loop-line : goal.invariant-loop-line
invariant-loop-line l = Given l.commands l.entries l.initial.book l.book l.line
