-- Sets of lines: which lines are in one, which is its lowest, which is the highest that passes a test.
use Rattle.std.specs.Prelude.{◌≡◌, ℕ, zero, suc, Bool, true, false, cond, not, ◌&&◌, Some, None, Option, slice_index_or}
use Rattle.std.specs.List.{list_any, range_with_len}
use Rattle.model.specs.Policies.{Front}
use Rattle.policy.specs.declared.line_set.LineSet.{LineSet}

-- a line is in the set
abbrev pub has : LineSet → ℕ → Bool
has s line = slice_index_or s.lines line false

-- some line below n passes a test
abbrev pub some_below : (ℕ → Bool) → ℕ → Bool
some_below test n = list_any test (range_with_len 0 n)

-- a line is the lowest of a set
abbrev pub leads : (ℕ → Bool) → ℕ → Bool
leads set line = set line && not (some_below set line)

-- the highest line below n that passes a test, or else the default
unfoldable pub highest : (ℕ → Bool) → ℕ → ℕ → ℕ
highest test zero default = default
highest test (suc n) default = cond (test n) n (highest test n default)

-- what is told of the lowest line of a set
abbrev pub Lowest : (ℕ → Bool) → Option ℕ → Type 0
Lowest set (Some f) = Front set f
Lowest set None = (k : ℕ) → set k ≡ true → ⊥
