-- The line that is found is the lowest: numbers above 63 are in no set.
use Rattle.std.proofs.Common.{◌≡◌, true, false, rules, arith}
use Rattle.std.proofs.lemmas.Iterator.{first_from_Range}
use Rattle.std.proofs.lemmas.List.{get_or_past}
use borrow.Author.Tests.{tests}
use Rattle.policy.specs.Lines.{has}
use Rattle.policy.proofs.Lines.{lowest_found}
use Rattle.policy.proofs.line_set.LineSet.lowest.Goals as goal

pub returns : goal.returns
returns c =
    let s = c.args.self.now in
    lowest_found (has s) c.find.result (λ k le. get_or_past s.lines k false (omega (arith, s.long)))
    (first_from_Range _ _ _ c.find.result (λ k. has s k ≡ true) (λ k. has s k ≡ false) c.find.ensures.ran (λ x q k. search (rules, tests)) (λ x q k. search (rules, tests)))
