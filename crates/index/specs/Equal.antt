-- Elements that are strings of bytes.
use Rattle.std.specs.Prelude.{ℕ, ◌-◌, Bool, List, [], slice_index_or}
use Rattle.std.specs.Str.{bytes_eq}

-- the string of a number is this one; numbers count from 1
abbrev pub equal : List ℕ → List (List ℕ) → ℕ → Bool
equal x xs n = bytes_eq x (slice_index_or xs (n - 1) [])
