-- Six parts, one after the other; the name has at most 22 bytes, each line at most three digits.
use Rattle.output.proofs.Steps.{then, as_bytes}
use Rattle.report.specs.Report.{kind_word}
use Rattle.report.proofs.first.put_hazard.Goals as goal

pub returns-clause-written : goal.returns-clause-written
returns-clause-written c =
    let word = as_bytes (kind_word c.args.hazard.kind) c.word_of.ensures.word c.put.ensures in
    then (then (then (then c.put_byte.ensures word) (then c.put_byte-2.ensures c.put_file.ensures)) c.put_number.ensures) c.put_number-2.ensures
