-- The files found so far, and 0 behind them.
use Rattle.std.proofs.Common.{map}
use Rattle.script.proofs.Labels.{Filled}
use Rattle.script.proofs.label.files_of.Given as goal

abbrev pub invariant-loop-i : goal.invariant-loop-i
invariant-loop-i l = Filled (map (λ x. x.now) l.labels) l.args l.files l.i
