-- The lines below the number are in, and no other.
use Rattle.std.proofs.Common.{rules, arith, ◌≡◌, ◌<◌, ◌≤◌, min, ltb, false, ⊎_elim, ◌∙◌, sym}
use Rattle.std.proofs.lemmas.Bool.{cases_lt, le-ltb}
use Rattle.std.proofs.lemmas.List.{get_or_past}
use Rattle.std.proofs.lemmas.Bool.Decides.{nat_tests}
use Rattle.policy.proofs.Filling.{filled}
use Rattle.policy.proofs.line_set.LineSet.below.Goals as goal

pub returns : goal.returns
returns c = λ k. ⊎_elim
    (λ (lt : k < 64). filled _ c.from_fn.result (λ k b. b ≡ ltb k c.args.count) (λ x y q e. search rules) 0 64 c.from_fn.ensures.items.each k (omega arith) lt false ∙ grind (arith, nat_tests))
    (λ (le : 64 ≤ k). get_or_past c.from_fn.result k false (omega (arith, c.from_fn.ensures.items.long)) ∙ sym (le-ltb k (min c.args.count 64) (omega arith)))
    (cases_lt k 64)
