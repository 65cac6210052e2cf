-- What is always so of the numbers that are listed: they are numbers of a pool, and no two are the same. So 1,024
-- places are enough.
use Rattle.std.specs.Prelude.{ℕ, ◌≤◌, List, [], ◌∷◌, ◌≢◌}
use Rattle.std.specs.Coded.{×_prop, →_prop, Unit-prop, le_prop}
use Rattle.std.specs.List.{AllByRecursion, AllByRecursion-prop}
use Rattle.model.specs.Records.{said}
use Rattle.model.specs.declared.record.Record as Code
use Rattle.trace_write.specs.Saves.{numbers_in}

abbrev pub Number : ℕ → Type 0
Number n = (1 ≤ n) × (n ≤ 1024)

-- no two are the same
abbrev pub Apart : List ℕ → Type 0
Apart [] = Unit {0}
Apart (n ∷ ns) = AllByRecursion (λ m. n ≢ m) ns × Apart ns

-- a record names numbers of a pool
abbrev pub Named : Code.Record → Type 0
Named r = AllByRecursion Number (numbers_in (said r))

-- each has at most one proof, which a fact in a type's own definition needs
pub Number-prop : (n : ℕ) → IsProp (Number n)
Number-prop n = ×_prop le_prop le_prop

pub Apart-prop : (ns : List ℕ) → IsProp (Apart ns)
Apart-prop [] = Unit-prop
Apart-prop (n ∷ ns) = ×_prop (AllByRecursion-prop (λ m. n ≢ m) (λ m. →_prop (λ a b. absurd a)) ns) (Apart-prop ns)
