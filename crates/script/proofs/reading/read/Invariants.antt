-- What is left of the text gives the answer.
use Rattle.std.proofs.Common.{length}
use Rattle.script.proofs.Turns.{Left}
use Rattle.script.proofs.reading.read.Given as goal
use Rattle.script.specs.Views.{held}

abbrev pub invariant-loop-i : goal.invariant-loop-i
invariant-loop-i l = Left l.text (held l.tables) (length l.yielded)
