-- Five parts, one after the other; a label has at most 16 bytes, a length at most four digits.
use Rattle.output.proofs.Steps.{then}
use Rattle.report.proofs.held.put_held.Goals as goal

pub returns-clause-written : goal.returns-clause-written
returns-clause-written c =
    then (then c.put_file.ensures (then c.put_byte.ensures (then c.put_label.ensures.written c.put_number.ensures))) c.put_byte-2.ensures
