-- Each turn is one release more.
use Rattle.std.proofs.Common.{◌≡◌, ℕ, suc, ◌+◌, sym, ap, ◌∙◌, subst, arith}
use Rattle.pool.specs.Contents.{meant}
use Rattle.runner.specs.Views.{world}
use Rattle.script.specs.Text.{reading}
use Rattle.boundary.specs.Rounds.{Rounds, none, more, labels_by}
use Rattle.boundary.specs.Wishes.{patience_by}
use Rattle.boundary.proofs.Releasing.{again_last}
use Rattle.boundary.proofs.rounds.release_all.Goals as goal

pub loop-init : goal.loop-init
loop-init g c = record { labels = c.release_text-outcome.ensures.labels; past = λ p. p; rounds = λ p. none }

pub loop-preserved : goal.loop-preserved
loop-preserved g c =
    let map = g.F.FileStore.map in
    let turn = c.release_text-outcome-in-loop in
    let before = c.loop.invariant in
    let i = c.loop.counter in
    let first = c.release_text-outcome in
    let m = patience_by c.args.setting.now.policy c.args.setting.now.patience c.args.wishes.now in
    let u = world (map first.new.files) (meant first.new.pool) first.new.log first.new.book in
    let v = world (map turn.new.files) (meant turn.new.pool) turn.new.log turn.new.book in
    let up : suc i ≡ i + 1 = omega arith in
    let P : ℕ → Type 0 = λ k. Rounds m c.args.second.now first.result u k turn.result v in
    record {
      labels = turn.ensures.labels ∙ ap (λ t. labels_by (reading t)) (sym (again_last c.args.first.now c.args.second.now i));
      past = λ p. turn.ensures.past (before.past p);
      rounds = λ p. subst P up (more (before.rounds p) (turn.ensures.released (before.past p)));
    }
