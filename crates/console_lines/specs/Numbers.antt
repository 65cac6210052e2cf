-- The numbers of commands.
use Rattle.std.specs.Prelude.{ℕ, ◌+◌, ◌-◌, ◌*◌, cond, ◌&&◌, List, [], ◌∷◌, length, Some, None, Option, nat_le}
use Rattle.model.specs.Digits.{digit}

-- the number that digits write, of which the first came to n; none where a byte is no digit
abbrev pub value_from : ℕ → List ℕ → Option ℕ
value_from n [] = Some n
value_from n (b ∷ bs) = cond (digit b) (value_from (n * 10 + (b - 48)) bs) None

-- 1 to 9 digits
abbrev pub number : List ℕ → Option ℕ
number w = cond (nat_le 1 (length w) && nat_le (length w) 9) (value_from 0 w) None

-- a number that is at most another
abbrev pub up_to : ℕ → Option ℕ → Option ℕ
up_to most None = None
up_to most (Some n) = cond (nat_le n most) (Some n) None

abbrev pub number_up_to : List ℕ → ℕ → Option ℕ
number_up_to w most = up_to most (number w)
