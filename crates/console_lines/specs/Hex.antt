-- Bytes in hexadecimal: two digits in lower case for each byte, and a dash for no bytes.
use Rattle.std.specs.Prelude.{ℕ, ◌+◌, ◌-◌, ◌*◌, ◌/◌, ◌%◌, cond, ◌&&◌, List, [], ◌∷◌, ◌++◌, Some, None, Option, nat_le, nat_lt}
use Rattle.std.specs.Str.{bytes_eq}

-- the value of a digit
abbrev pub digit_value : ℕ → Option ℕ
digit_value b = cond (nat_le 48 b && nat_le b 57) (Some (b - 48)) (cond (nat_le 97 b && nat_le b 102) (Some (b - 87)) None)

abbrev pub pair_value : Option ℕ → Option ℕ → Option ℕ
pair_value (Some high) (Some low) = Some (high * 16 + low)
pair_value (Some high) None = None
pair_value None low = None

-- the byte that two digits write
abbrev pub byte_value : ℕ → ℕ → Option ℕ
byte_value high low = pair_value (digit_value high) (digit_value low)

abbrev pub onto : Option ℕ → Option (List ℕ) → Option (List ℕ)
onto (Some b) (Some bs) = Some (b ∷ bs)
onto (Some b) None = None
onto None bs = None

-- the bytes that pairs of digits write
abbrev pub pairs : List ℕ → Option (List ℕ)
pairs [] = Some []
pairs (high ∷ []) = None
pairs (high ∷ low ∷ rest) = onto (byte_value high low) (pairs rest)

-- bytes, and then those that are left, if they are bytes
abbrev pub after : List ℕ → Option (List ℕ) → Option (List ℕ)
after bs None = None
after bs (Some cs) = Some (bs ++ cs)

-- the bytes that a word writes
abbrev pub bytes_written : List ℕ → Option (List ℕ)
bytes_written w = cond (bytes_eq w (45 ∷ [])) (Some []) (pairs w)

-- the digit of a value
abbrev pub digit_of : ℕ → ℕ
digit_of n = cond (nat_lt n 10) (48 + n) (87 + n)

abbrev pub digits : List ℕ → List ℕ
digits [] = []
digits (b ∷ bs) = digit_of (b / 16) ∷ digit_of (b % 16) ∷ digits bs

-- the word that writes bytes
abbrev pub word : List ℕ → List ℕ
word [] = 45 ∷ []
word (b ∷ bs) = digits (b ∷ bs)
