-- What the first record with the command says is the first of what the records say.
use Rattle.std.proofs.Common.{ap, ◌∙◌}
use Rattle.std.specs.Option.{option_map}
use Rattle.model.specs.Book.{same_command}
use Rattle.model.specs.Records.{said}
use Rattle.model.proofs.Lists.{find_map}
use Rattle.model.proofs.record.record_of.Goals as goal

pub returns : goal.returns
returns c = ap (option_map said) c.first_with.ensures ∙ find_map said (λ r. same_command c.args.command r.command) c.args.records.now
