-- The files of a gather's list, one by one.
use Rattle.std.specs.Prelude.{ℕ, zero, suc, List, [], ◌∷◌, None, Option}
use Rattle.model.specs.Digits.{file_number}

-- the file that two bytes write
abbrev pub two : ℕ → ℕ → Option ℕ
two d e = file_number (d ∷ e ∷ [])

-- its bytes two by two; one that is left over stands alone
abbrev pub twos : List ℕ → List (List ℕ)
twos [] = []
twos (d ∷ []) = (d ∷ []) ∷ []
twos (d ∷ e ∷ l) = (d ∷ e ∷ []) ∷ twos l

-- the file at a place
abbrev pub file_at : List ℕ → ℕ → Option ℕ
file_at [] k = None
file_at (d ∷ []) k = None
file_at (d ∷ e ∷ l) zero = two d e
file_at (d ∷ e ∷ l) (suc k) = file_at l k
