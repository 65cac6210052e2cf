-- Maps from files to content numbers, and the directory image of a map.
use Rattle.std.specs.Prelude.{◌≡◌, ℕ, zero, suc, ◌+◌, ◌-◌, ◌*◌, ◌/◌, ◌%◌, ◌<◌, ◌≤◌, min, cond, List, [], ◌∷◌, ◌++◌, length, drop, replicate, ◌==◌, ◌≢◌, slice_index}

-- the content numbers of the files 0 to 63, in order
pub record Map (ns : List ℕ) : Type 0 where
  pub long : length ns ≡ 64
  pub fits : (k : ℕ) → slice_index ns k < 65536

-- the entry of a file: none if it is absent, else its number behind it, most significant byte first
abbrev pub entry : ℕ → ℕ → List ℕ
entry f n = cond (n == 0) [] (f ∷ n / 256 % 256 ∷ n % 256 ∷ [])

-- the entries of the files from f on
unfoldable pub entries : ℕ → List ℕ → List ℕ
entries f [] = []
entries f (n ∷ ns) = entry f n ++ entries (suc f) ns

-- a count, with one file more unless it is absent
abbrev pub counted : ℕ → ℕ → ℕ
counted n count = cond (n == 0) count (suc count)

-- how many files are there
unfoldable pub present : List ℕ → ℕ
present [] = 0
present (n ∷ ns) = counted n (present ns)

-- bytes, then zeros
unfoldable pub padded : ℕ → List ℕ → List ℕ
padded n xs = xs ++ replicate (n - length xs) 0

-- THE LAYOUT: the one image of a map
unfoldable pub layout : List ℕ → List ℕ
layout ns = padded 193 (present ns ∷ entries 0 ns)

-- the number that the first n entries give a file
unfoldable pub told : ℕ → ℕ → List ℕ → ℕ
told f zero bs = 0
told f (suc n) [] = 0
told f (suc n) (g ∷ []) = 0
told f (suc n) (g ∷ a ∷ []) = 0
told f (suc n) (g ∷ a ∷ b ∷ bs) = cond (g == f) (a * 256 + b) (told f n bs)

-- the numbers of m files from f on
unfoldable pub numbers : ℕ → ℕ → ℕ → List ℕ → List ℕ
numbers zero f n bs = []
numbers (suc m) f n bs = told f n bs ∷ numbers m (suc f) n bs

-- the map that an image means
unfoldable pub mapped : List ℕ → List ℕ
mapped bs = numbers 64 0 (min (slice_index bs 0) 64) (drop 1 bs)

-- n entries of files from f on, each at most 63, in rising order, their numbers not 0; then zeros
unfoldable pub Entries : ℕ → ℕ → List ℕ → Type 0
Entries f zero bs = (k : ℕ) → slice_index bs k ≡ 0
Entries f (suc n) [] = ⊥
Entries f (suc n) (g ∷ []) = ⊥
Entries f (suc n) (g ∷ a ∷ []) = ⊥
Entries f (suc n) (g ∷ a ∷ b ∷ bs) = (f ≤ g) × (g ≤ 63) × (a * 256 + b ≢ 0) × Entries (suc g) n bs

-- THE RULES OF AN IMAGE: 193 bytes, a count of 0 to 64, as many entries, and zeros
pub record Rules (bs : List ℕ) : Type 0 where
  pub size : length bs ≡ 193
  pub count : slice_index bs 0 ≤ 64
  pub entries : Entries 0 (slice_index bs 0) (drop 1 bs)
