-- The files found so far, and 0 behind them.
use Rattle.std.proofs.Common.{map}
use Rattle.script.proofs.Labels.{filled_more}
use Rattle.script.proofs.label.files_of.Goals as goal

pub loop-i-preserved : goal.loop-i-preserved
loop-i-preserved c =
    filled_more (map (λ x. x.now) c.args.labels.now) c.args.args.now c.loop-i.files c.loop-i.i c.loop-i.invariant _ c.in_ok-files.field-0 c.loop-i-test.true c.requires c.in_ok-files.ensures
