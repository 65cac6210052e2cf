-- The lines below are tested from above.
use Rattle.std.proofs.Common.{◌∙◌, rules}
use Rattle.std.proofs.lemmas.Iterator.Search.{any_from_yields_List}
use borrow.Author.Tests.{tests}
use Rattle.policy.specs.Lines.{has}
use Rattle.policy.specs.Waiting.{waits, held_up}
use Rattle.policy.proofs.Above.{any_below, from_above}
use Rattle.policy.proofs.waits.Waits.is_held_up.Goals as goal

pub returns : goal.returns
returns c =
    let n = c.args.line in
    let test = held_up (waits c.args.self.now) (has c.args.among.now) n in
    any_from_yields_List test _ _ c.any.result c.any.ensures.ran (from_above n c.rev.result c.rev.ensures.source) (λ x b q k. search (rules, tests))
    ∙ any_below test n
