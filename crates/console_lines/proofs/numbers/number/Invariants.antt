-- The digits so far and those that are left give the number of the word; so many digits write less than that power of 10.
use Rattle.std.proofs.Common.{◌≡◌, ◌<◌, ◌^◌, drop}
use Rattle.console_lines.specs.Numbers.{value_from}
use Rattle.console_lines.proofs.numbers.number.Given as goal

abbrev pub invariant-loop-b : goal.invariant-loop-b
invariant-loop-b l = (value_from l.value (drop l.b-index l.word) ≡ value_from 0 l.word) × (l.value < 10 ^ l.b-index)
