-- The policy that wishes for the lines of a list, over and over, and the patience that a setting gives its policies.
use Rattle.std.specs.Prelude.{ℕ, ◌+◌, ◌&&◌, Bool, cond, List, length, min, ◌==◌, nat_lt, slice_index}
use Rattle.policy.specs.Choices.{may_pass, answer}

-- the place after another, and the first after the last
abbrev pub after : List ℕ → ℕ → ℕ
after wishes at = cond (nat_lt (at + 1) (length wishes)) (at + 1) 0

-- the place of the wish to come: a wish is used up where the front may be passed by
abbrev pub next : List ℕ → ℕ → (ℕ → Bool) → ℕ → ℕ → ℕ → ℕ
next wishes at set front patience passes = cond (may_pass set front patience passes) (after wishes at) at

-- the answer: the wish where the front may be passed by and the wish is in the set, else the front
abbrev pub line : List ℕ → ℕ → (ℕ → Bool) → ℕ → ℕ → ℕ → ℕ
line wishes at set front patience passes = answer set front patience passes (slice_index wishes at)

-- the patience of the policy of a number: 1 last run, 2 highest first, 3 a list of wishes; another number, or an empty
-- list, is script order
abbrev pub patience_by : ℕ → ℕ → List ℕ → ℕ
patience_by policy patience wishes =
    cond (policy == 1) (min patience 32)
    (cond (policy == 2) (min patience 32)
    (cond ((policy == 3) && nat_lt 0 (length wishes)) (min patience 32) 0))
