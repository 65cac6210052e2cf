-- The commands of the records are searched where they stand.
use Rattle.std.proofs.Common.{map, ◌∙◌, rules, tests}
use Rattle.std.proofs.lemmas.Iterator.{YieldsList-from_slice}
use Rattle.std.proofs.lemmas.Iterator.Search.{any_from_yields_List}
use Rattle.model.specs.Book.{same_command}
use Rattle.model.specs.Records.{said}
use Rattle.trace.proofs.Anys.{any_map}
use Rattle.trace.proofs.recorded.has_command.Goals as goal

pub returns : goal.returns
returns c =
    let x = c.args.command in
    let rs = c.args.list.now in
    any_from_yields_List (λ r. same_command x r.command) _ _ _ c.any.ensures.ran (YieldsList-from_slice rs cc) (λ r b q k. search (rules, tests))
    ∙ any_map said (λ r. same_command x r.command) rs
    ∙ any_map (λ r. r.command) (same_command x) (map said rs)
