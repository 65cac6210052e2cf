-- The lines so far, the piece that has begun and the bytes after it give what the word lists.
use Rattle.std.proofs.Common.{◌≡◌, ◌≤◌, [], Some, drop}
use Rattle.std.specs.List.{slice_range}
use Rattle.console_lines.specs.Lists.{lines_from}
use Rattle.console_lines.proofs.wishes.Wishes.lines_of.Given as goal

abbrev pub invariant-loop-i : goal.invariant-loop-i
invariant-loop-i l = (lines_from (Some l.lines.items) (slice_range l.word l.start l.i) (drop l.i l.word) ≡ lines_from (Some []) [] l.word) × (l.start ≤ l.i)
