-- Two parts, one after the other; the number of a refusal takes at most three digits.
use Rattle.std.proofs.Common.{ap}
use Rattle.model.specs.Numbers.{number_of}
use Rattle.output.proofs.Steps.{then, as_bytes}
use Rattle.report.specs.Report.{then_number}
use Rattle.report.proofs.first.put_refused.Goals as goal

pub returns-clause-written : goal.returns-clause-written
returns-clause-written c = then c.put.ensures (as_bytes (then_number (number_of c.args.refusal)) (ap then_number c.number.ensures) c.put_number.ensures)
