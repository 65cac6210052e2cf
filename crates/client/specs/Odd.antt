-- The policy that chooses the lowest odd line.
use Rattle.std.specs.Prelude.{ℕ, Bool, cond, ◌&&◌, ◌==◌, ◌%◌}
use Rattle.std.specs.List.{find, range_with_len}
use Rattle.std.specs.Option.{unwrap_or}
use Rattle.policy.specs.Choices.{may_pass}

-- a line is odd and in a set
abbrev pub is_odd_in : (ℕ → Bool) → ℕ → Bool
is_odd_in set line = (line % 2 == 1) && set line

-- its answer, with patience 3: the lowest odd line of the set, where it may pass the front by and there is one; else the
-- front
abbrev pub odd_first : (ℕ → Bool) → ℕ → ℕ → ℕ
odd_first set front passes = cond (may_pass set front 3 passes) (unwrap_or (find (is_odd_in set) (range_with_len 0 64)) front) front
