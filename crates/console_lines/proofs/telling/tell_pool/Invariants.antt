-- The lines so far, and those of the contents that are left, are all the lines.
use Rattle.std.proofs.Common.{◌≡◌, ◌+◌, ◌++◌, drop}
use Rattle.pool.specs.Contents.{meant}
use Rattle.console_lines.specs.Answered.{content_lines}
use Rattle.console_lines.proofs.telling.tell_pool.Given as goal

abbrev pub invariant-loop-at : goal.invariant-loop-at
invariant-loop-at l = l.out.items ++ content_lines (l.at + 1) (drop l.at (meant l.pool).contents) ≡ l.fn.out.items ++ content_lines 1 (meant l.pool).contents
