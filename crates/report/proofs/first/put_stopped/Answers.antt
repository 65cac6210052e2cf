-- Three parts; the number of a stop takes at most three digits.
use Rattle.std.proofs.Common.{ap, ◌∙◌}
use Rattle.model.specs.Answers.{fault_refusal}
use Rattle.model.specs.Numbers.{number_of}
use Rattle.output.proofs.Steps.{then, as_bytes}
use Rattle.report.specs.Report.{then_number}
use Rattle.report.proofs.first.put_stopped.Goals as goal

pub returns-clause-written : goal.returns-clause-written
returns-clause-written c =
    let told = c.number.ensures ∙ ap number_of c.refusal.ensures in
    let number = as_bytes (then_number (number_of (fault_refusal c.args.stop.fault))) (ap then_number told) c.put_number.ensures in
    then c.put.ensures (then number c.put_where.ensures.written)
