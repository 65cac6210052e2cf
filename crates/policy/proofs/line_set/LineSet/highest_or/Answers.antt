-- The highest line is the first that is found from above.
use Rattle.std.proofs.Common.{◌∙◌, rules}
use Rattle.std.proofs.lemmas.Iterator.Search.{find_from_yields_List}
use borrow.Author.Tests.{tests}
use Rattle.policy.specs.Lines.{has}
use Rattle.policy.proofs.Above.{highest_found, from_above}
use Rattle.policy.proofs.line_set.LineSet.highest_or.Goals as goal

pub returns : goal.returns
returns c =
    let test = has c.args.self.now in
    c.unwrap_or.ensures
    ∙ highest_found test 64 c.args.default c.find.result
    (find_from_yields_List test _ _ c.find.result c.find.ensures.ran (from_above 64 c.rev.result c.rev.ensures.source) (λ x b q k. search (rules, tests)))
