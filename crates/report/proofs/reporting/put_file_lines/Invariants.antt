-- The lines of the files so far are written.
use Rattle.std.proofs.Common.{◌+◌, ◌*◌, ◌≤◌, take}
use Rattle.output.specs.Writes.{written, Writes}
use Rattle.pool.specs.Contents.{meant}
use Rattle.script.specs.Scripts.{meaning}
use Rattle.report.specs.Report.{file_lines}
use Rattle.report.proofs.reporting.put_file_lines.Given as goal

abbrev pub invariant-loop-file : goal.invariant-loop-file
invariant-loop-file g l =
    Writes (file_lines (meaning l.script).labels (meant l.pool) 0 (take l.file (g.F.FileStore.map l.files))) l.initial.out l.out
    × (written l.out ≤ written l.initial.out + 25 * l.file)
