-- The second text was released so often; and the script is that of the text that was released last.
use Rattle.std.proofs.Common.{◌≡◌}
use Rattle.model.specs.Past.{Past}
use Rattle.pool.specs.Contents.{meant}
use Rattle.runner.specs.Views.{world}
use Rattle.script.specs.Scripts.{meaning}
use Rattle.script.specs.Text.{reading}
use Rattle.boundary.specs.Rounds.{Rounds, labels_by, last_text}
use Rattle.boundary.specs.Wishes.{patience_by}
use Rattle.boundary.proofs.rounds.release_all.Given as goal

abbrev pub invariant-loop : goal.invariant-loop
invariant-loop g l = record {
  labels : (meaning l.script).labels ≡ labels_by (reading (last_text l.first l.second l.counter));
  past : Past (world (g.F.FileStore.map l.initial.files) (meant l.initial.pool) l.initial.log l.initial.book) → Past (world (g.F.FileStore.map l.files) (meant l.pool) l.log l.book);
  rounds :
      Past (world (g.F.FileStore.map l.initial.files) (meant l.initial.pool) l.initial.log l.initial.book) →
      Rounds (patience_by l.setting.policy l.setting.patience l.wishes) l.second l.initial.outcome (world (g.F.FileStore.map l.initial.files) (meant l.initial.pool) l.initial.log l.initial.book)
      l.counter l.outcome (world (g.F.FileStore.map l.files) (meant l.pool) l.log l.book);
}
