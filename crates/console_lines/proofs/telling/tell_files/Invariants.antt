-- The lines so far, and those of the files that are left, are all the lines.
use Rattle.std.proofs.Common.{◌≡◌, ◌++◌, drop}
use Rattle.console_lines.specs.Answered.{file_lines}
use Rattle.console_lines.proofs.telling.tell_files.Given as goal

abbrev pub invariant-loop-file : goal.invariant-loop-file
invariant-loop-file g l = l.out.items ++ file_lines l.file (drop l.file (g.F.FileStore.map l.files)) ≡ l.fn.out.items ++ file_lines 0 (g.F.FileStore.map l.files)
