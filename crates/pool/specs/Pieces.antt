-- Places in lent bytes, and the bytes that lie there.
use Rattle.std.specs.Prelude.{◌≡◌, ℕ, ◌+◌, ◌<◌, ◌≤◌, List, [], ◌∷◌, map, take, drop, slice_index_or}
use Rattle.pool.specs.declared.place.Place.{Place}

abbrev pub nowhere : Place
nowhere = record { start = 0; len = 0 }

-- the bytes at a place
abbrev pub piece : List ℕ → Place → List ℕ
piece bytes p = take p.len (drop p.start bytes)

-- the bytes at each of the first `count` places
abbrev pub pieces : List ℕ → ℕ → List Place → List (List ℕ)
pieces bytes count places = map (piece bytes) (take count places)

-- how many bytes lie at these places
abbrev pub total : List Place → ℕ
total [] = 0
total (p ∷ ps) = p.len + total ps

-- each of the first `count` places starts where those before it end
abbrev pub Packed : List Place → ℕ → Type 0
Packed places count = (k : ℕ) → k < count → (slice_index_or places k nowhere).start ≡ total (take k places)

abbrev pub Short : List Place → ℕ → Type 0
Short places count = (k : ℕ) → k < count → (slice_index_or places k nowhere).len ≤ 4096
