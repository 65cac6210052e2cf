-- The lines so far, and those of the entries that are left, are all the lines.
use Rattle.std.proofs.Common.{◌≡◌, ◌++◌, drop}
use Rattle.console_lines.specs.Answered.{entry_lines}
use Rattle.console_lines.proofs.telling.tell_log.Given as goal

abbrev pub invariant-loop-entry : goal.invariant-loop-entry
invariant-loop-entry l = l.out.items ++ entry_lines (drop l.entry-index l.entries) ≡ l.fn.out.items ++ entry_lines l.entries
