-- A search in a list that is given by another.
use Rattle.std.proofs.Common.{◌≡◌, Bool, ◌||◌, List, [], ◌∷◌, map, refl, ap}
use Rattle.std.specs.List.{list_any}

pub any_map : {X Y : Type 0} (h : X → Y) (t : Y → Bool) (xs : List X) → list_any (λ x. t (h x)) xs ≡ list_any t (map h xs)
any_map h t [] = refl
any_map h t (x ∷ xs) = ap (λ b. t (h x) || b) (any_map h t xs)
