-- A turn writes the line of its file; after 64 of them all are written.
use Rattle.std.proofs.Common.{◌+◌, take, arith}
use Rattle.output.proofs.Steps.{then, as_bytes}
use Rattle.pool.specs.Contents.{meant}
use Rattle.script.specs.Scripts.{meaning}
use Rattle.report.specs.Report.{file_lines}
use Rattle.report.proofs.Lines.{lines_more}
use Rattle.report.proofs.reporting.put_file_lines.Goals as goal

pub loop-file-preserved : goal.loop-file-preserved
loop-file-preserved g c =
    let labels = (meaning c.args.script.now).labels in
    let pool = meant c.args.pool.now in
    let numbers = g.F.FileStore.map c.args.files.now in
    let long = g.met.F.FileStore.long c.args.files.now in
    let file = c.loop-file.file in
    let inv = c.loop-file.invariant in (
      as_bytes (file_lines labels pool 0 (take (file + 1) numbers)) (lines_more labels pool numbers file (omega arith)) (then inv.0 c.put_file_line.ensures.written),
      omega arith,
    )
