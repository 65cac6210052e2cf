-- A list with one element changed.
use Rattle.std.specs.Prelude.{ℕ, zero, suc, List, [], ◌∷◌}

-- the element at a place is changed by a function; all is as it was where there is no such place
abbrev pub altered : {X : Type 0} → (X → X) → List X → ℕ → List X
altered f [] at = []
altered f (x ∷ xs) zero = f x ∷ xs
altered f (x ∷ xs) (suc at) = x ∷ altered f xs at
