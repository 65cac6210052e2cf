-- Each step that is accepted counts, and brings the run nearer to its end.
use Rattle.model.specs.Calls.{Did, on_step}
use Rattle.pool.specs.Contents.{meant}
use Rattle.std.proofs.Common.{None, Ok}
use Rattle.runner.specs.Views.{world}
use Rattle.runner.proofs.Going.{going_none, counted_few, going_more, few_entries, on_line, falls, was_waiting}
use Rattle.runner.proofs.log.Log.run_to_end.Goals as goal

pub loop-stepped-init : goal.loop-stepped-init
loop-stepped-init g c = going_none _ _ _ c.requires.begun

pub count-requires : goal.count-requires
count-requires g c = counted_few _ _ _ _ _ c.loop-stepped.counts.executed c.loop-stepped.counts.skipped c.requires.begun c.loop-stepped.invariant.counted

pub loop-stepped-smaller : goal.loop-stepped-smaller
loop-stepped-smaller g c = falls _ c.in-Ok.stepped _ _ (rw c.requires.live at c.in-Ok.ensures.promise.call.did) (few_entries c.advance.new.self)

pub loop-stepped-preserved : goal.loop-stepped-preserved
loop-stepped-preserved g c =
    let policy = g.P.Policy in
    let map = g.F.FileStore.map in
    let u = world (map c.args.files.now) (meant c.args.pool.now) c.args.self.now c.args.book.now in
    let v = world (map c.loop-stepped.files) (meant c.loop-stepped.pool) c.loop-stepped.self c.args.book.now in
    let w = world (map c.advance.new.files) (meant c.advance.new.pool) c.advance.new.self c.args.book.now in
    let p = policy.patience c.loop-stepped.policy in
    let k = policy.passes c.loop-stepped.policy in
    let j = policy.passes c.advance.new.policy in
    let t = c.in-Ok.stepped in
    let did : Did (on_step None (record { patience = p; before = k; after = j }) (Ok t)) v w = rw c.requires.live at c.in-Ok.ensures.promise.call.did in
    let before = was_waiting c.loop-stepped.self t.line _ (on_line (record { patience = p; before = k; after = j }) t v w did).0 in
    going_more (policy.patience c.args.policy.now) (policy.passes c.args.policy.now) u p k v c.loop-stepped.counts.executed c.loop-stepped.counts.skipped c.loop-stepped.invariant
    j w t did (policy.patience c.advance.new.policy) c.count.new.self.executed c.count.new.self.skipped _ c.in-Ok.ensures.same before c.count.ensures.executed c.count.ensures.skipped
