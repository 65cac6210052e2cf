-- The highest free line is the first that is found from above.
use Rattle.std.proofs.Common.{◌∙◌, rules}
use Rattle.std.proofs.lemmas.Iterator.Search.{find_from_yields_List}
use borrow.Author.Tests.{tests}
use Rattle.policy.specs.Lines.{has}
use Rattle.policy.specs.Waiting.{waits, free}
use Rattle.policy.proofs.Choices.{highest_free}
use Rattle.policy.proofs.Above.{highest_found, from_above}
use Rattle.policy.proofs.waits.Waits.highest_free.Goals as goal

pub returns : goal.returns
returns c =
    let waiting = waits c.args.self.now in
    let set = has c.args.among.now in
    let value =
    c.unwrap_or.ensures
    ∙ highest_found (free waiting set) 64 c.args.default c.find.result
    (find_from_yields_List (free waiting set) _ _ c.find.result c.find.ensures.ran (from_above 64 c.rev.result c.rev.ensures.source) (λ x b q k. search (rules, tests))) in
    record { value = value; free = highest_free waiting set c.args.default c.unwrap_or.result value }
