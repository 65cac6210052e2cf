-- Four parts, one after the other; each number takes at most three digits.
use Rattle.output.proofs.Steps.{then}
use Rattle.report.proofs.first.put_kept.Goals as goal

pub returns-clause-written : goal.returns-clause-written
returns-clause-written c = then (then (then c.put.ensures c.put_number.ensures) c.put-2.ensures) c.put_number-2.ensures
