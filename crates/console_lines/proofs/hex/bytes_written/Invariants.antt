-- The bytes so far, and those that the rest writes, are those of the word.
use Rattle.std.proofs.Common.{◌≡◌, length}
use Rattle.console_lines.specs.Hex.{pairs, after}
use Rattle.console_lines.proofs.hex.bytes_written.Given as goal

abbrev pub invariant-loop-rest : goal.invariant-loop-rest
invariant-loop-rest l = after l.bytes.items (pairs l.rest) ≡ pairs l.fn.word

abbrev pub decreases-loop-rest : goal.decreases-loop-rest
decreases-loop-rest l = length l.rest
