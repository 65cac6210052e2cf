-- The file number that two digits write, in scripts and in the lists of a gather.
use Rattle.std.specs.Prelude.{ℕ, ◌+◌, ◌-◌, ◌*◌, Bool, cond, ◌&&◌, List, [], ◌∷◌, Some, None, Option, nat_le, nat_lt}

abbrev pub digit : ℕ → Bool
digit b = nat_le 48 b && nat_le b 57

-- exactly two digits, 00 to 63
abbrev pub file_number : List ℕ → Option ℕ
file_number [] = None
file_number (t ∷ []) = None
file_number (t ∷ u ∷ []) = cond (digit t && digit u && nat_lt ((t - 48) * 10 + (u - 48)) 64) (Some ((t - 48) * 10 + (u - 48))) None
file_number (t ∷ u ∷ x ∷ xs) = None
