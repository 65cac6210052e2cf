-- The words taken so far and those that are left are all the words.
use Rattle.std.proofs.Common.{◌≡◌, ◌-◌, ◌++◌, map, length, drop}
use Rattle.console_lines.proofs.words.words_of.Given as goal
use Rattle.script.specs.Text.{words}

abbrev pub invariant-loop-at : goal.invariant-loop-at
invariant-loop-at l = map (λ x. x.now) l.words.items ++ words (drop l.at l.line) ≡ words l.line

abbrev pub decreases-loop-at : goal.decreases-loop-at
decreases-loop-at l = 7 - length l.words.items
