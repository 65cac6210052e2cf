-- What a line does next, given the contents that it has read so far, the oldest first.
use Rattle.std.specs.Prelude.{◌∷◌, ◌++◌, ◌/◌, ◌%◌}
use Rattle.model.specs.Words.{Bool, true, false, cond, List, [], ℕ, zero, suc, eqb, leb, length, drop, bytes_eq, Option, Some, None, Kind, Command}
use Rattle.model.specs.declared.command.Kind.TheVariants.{Copy, Join, Gather, Choose, Tally, Check}
use Rattle.model.specs.Digits.{file_number}
use Rattle.model.specs.Contents.{Content}

-- It reads a file, writes a content to a file, or has read a list that breaks the rule of lists.
pub data Want : Type 0 where
  reads : ℕ → Want
  writes : ℕ → Content → Want
  bad : Want

-- GATHER: its first read is a list of at most 15 files, two digits each

abbrev pub with_file : Option ℕ → Option (List ℕ) → Option (List ℕ)
with_file None o = None
with_file (Some f) None = None
with_file (Some f) (Some fs) = Some (f ∷ fs)

abbrev pub pairs : Content → Option (List ℕ)
pairs [] = Some []
pairs (t ∷ []) = None
pairs (t ∷ u ∷ l) = with_file (file_number (t ∷ u ∷ [])) (pairs l)

abbrev pub listed : Content → Option (List ℕ)
listed l = cond (leb (length l) 30) (pairs l) None

abbrev pub all_bytes : List Content → Content
all_bytes [] = []
all_bytes (x ∷ xs) = x ++ all_bytes xs

-- it reads the next of the files that are left, or writes what it has read of them
abbrev pub next_listed : ℕ → List Content → List ℕ → Want
next_listed b xs [] = writes b (all_bytes xs)
next_listed b xs (f ∷ fs) = reads f

abbrev pub gathers : ℕ → List Content → Option (List ℕ) → Want
gathers b xs None = bad
gathers b xs (Some fs) = next_listed b xs (drop (length xs) fs)

-- CHOOSE: what it tests, that the first byte is `y`
abbrev pub is_yes : Content → Bool
is_yes [] = false
is_yes (c ∷ cs) = eqb c 121

-- TALLY: what it writes for a length, 64 bytes to a sheet, in four bytes with the most significant first
abbrev pub sheets : ℕ → Content
sheets n = let k = n / 64 in k / 16777216 % 256 ∷ k / 65536 % 256 ∷ k / 256 % 256 ∷ k % 256 ∷ []

-- CHECK: `same` or `diff`
abbrev pub verdict : Bool → Content
verdict true = 115 ∷ 97 ∷ 109 ∷ 101 ∷ []
verdict false = 100 ∷ 105 ∷ 102 ∷ 102 ∷ []

-- by the kind, the four files, and what was read
abbrev pub next : Kind → ℕ → ℕ → ℕ → ℕ → List Content → Want
next Copy a b c d [] = reads a
next Copy a b c d (x ∷ xs) = writes b x
next Join a b c d [] = reads a
next Join a b c d (x ∷ []) = reads b
next Join a b c d (x ∷ y ∷ xs) = writes c (x ++ y)
next Gather a b c d [] = reads a
next Gather a b c d (l ∷ xs) = gathers b xs (listed l)
next Choose a b c d [] = reads a
next Choose a b c d (x ∷ []) = reads (cond (is_yes x) b c)
next Choose a b c d (x ∷ y ∷ xs) = writes d y
next Tally a b c d [] = reads a
next Tally a b c d (x ∷ xs) = writes b (sheets (length x))
next Check a b c d [] = reads a
next Check a b c d (x ∷ []) = reads b
next Check a b c d (x ∷ y ∷ xs) = writes c (verdict (bytes_eq x y))

abbrev pub want : Command → List Content → Want
want c = next c.kind c.a c.b c.c c.d

-- the same for line l of a script
abbrev pub wants : List Command → ℕ → List Content → Want
wants [] l = λ xs. bad
wants (c ∷ cs) zero = want c
wants (c ∷ cs) (suc l) = wants cs l

abbrev pub is_bad : Want → Bool
is_bad (reads f) = false
is_bad (writes f x) = false
is_bad bad = true
