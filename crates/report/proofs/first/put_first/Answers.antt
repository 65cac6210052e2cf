-- The words, then the end of the line.
use Rattle.output.proofs.Steps.{then}
use Rattle.report.proofs.first.put_first.Goals as goal

pub returns-clause-written : goal.returns-clause-written
returns-clause-written c = then c.put_outcome.ensures.written c.put_byte.ensures
