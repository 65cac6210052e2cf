-- The records before the next place are judged.
use Rattle.std.proofs.Common.{◌≡◌}
use Rattle.model.specs.Audit.{judged}
use Rattle.pool.specs.Contents.{meant}
use Rattle.runner.specs.Views.{records}
use Rattle.boundary.proofs.Judging.{upto}
use Rattle.boundary.proofs.retraces.audit_all.Given as goal

abbrev pub invariant-loop-at : goal.invariant-loop-at
invariant-loop-at l = records l.book ≡ upto (judged (meant l.pool)) l.at (records l.initial.book)
