-- Every case of the table comes to what is expected, by computing.
use Rattle.std.proofs.Common.{◌≡◌, All, List, map, get_or, sym, refl, ap, ◌∙◌}
use Rattle.std.proofs.lemmas.List.{get_or-map}
use Rattle.policy.specs.Lines.{highest}
use Rattle.proved_cases.specs.Comes.{comes_to}
use Rattle.proved_cases.specs.Table.{table}

-- two functions that give one list agree at each element
pub all_from : {X Y : Type 0} (f g : X → Y) (xs : List X) → map f xs ≡ map g xs → All (λ x. f x ≡ g x) xs
all_from f g xs e k d lt = sym (get_or-map f xs k d (f d) lt) ∙ ap (λ ys. get_or ys k (f d)) e ∙ get_or-map g xs k d (f d) lt

computed : map comes_to table ≡ map (λ case. case.expected) table
unfolding highest
computed = refl

pub as_expected : All (λ case. comes_to case ≡ case.expected) table
as_expected = all_from comes_to (λ case. case.expected) table computed
