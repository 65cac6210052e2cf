-- The steps since the begin, with their counts; and how far the run has yet to go.
use Rattle.lists.specs.Held.{held}
use Rattle.pool.specs.Contents.{meant}
use Rattle.runner.specs.Views.{world}
use Rattle.runner.proofs.Going.{Going, to_go}
use Rattle.runner.proofs.log.Log.run_to_end.Given as goal

abbrev pub invariant-loop-stepped : goal.invariant-loop-stepped
invariant-loop-stepped g l =
    Going (g.P.Policy.patience l.initial.policy) (g.P.Policy.passes l.initial.policy) (world (g.F.FileStore.map l.initial.files) (meant l.initial.pool) l.initial.self l.book)
    (g.P.Policy.patience l.policy) (g.P.Policy.passes l.policy) (world (g.F.FileStore.map l.files) (meant l.pool) l.self l.book)
    l.counts.executed l.counts.skipped

abbrev pub decreases-loop-stepped : goal.decreases-loop-stepped
decreases-loop-stepped g l = to_go (held l.self.inner.entries) l.self.inner.run.stop
