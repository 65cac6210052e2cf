-- A list with one element changed, as a list in which that element is set; a place past its end changes nothing.
use Rattle.std.proofs.Common.{◌≡◌, ℕ, zero, suc, ◌≤◌, List, [], ◌∷◌, length, get_or, set, refl, ap, arith}
use Rattle.lists.specs.Altered.{altered}

pub altered_is : {X : Type 0} (f : X → X) (xs : List X) (i : ℕ) (d : X) → set xs i (f (get_or xs i d)) ≡ altered f xs i
altered_is f [] i d = refl
altered_is f (x ∷ xs) zero d = refl
altered_is f (x ∷ xs) (suc i) d = ap (λ l. x ∷ l) (altered_is f xs i d)

pub altered_past : {X : Type 0} (f : X → X) (xs : List X) (i : ℕ) → length xs ≤ i → xs ≡ altered f xs i
altered_past f [] i h = refl
altered_past f (x ∷ xs) zero h = absurd (omega arith)
altered_past f (x ∷ xs) (suc i) h = ap (λ l. x ∷ l) (altered_past f xs i (omega arith))
