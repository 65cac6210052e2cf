-- The first line, then the files.
use Rattle.output.proofs.Steps.{then}
use Rattle.report.proofs.reporting.put_report.Goals as goal

pub returns-clause-written : goal.returns-clause-written
returns-clause-written g c = then c.put_first.ensures.written c.put_file_lines.ensures.written
