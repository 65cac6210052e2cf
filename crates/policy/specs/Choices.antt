-- What a policy answers: its own choice where its meaning leaves one, else the front.
use Rattle.std.specs.Prelude.{ℕ, Bool, cond, not, ◌&&◌, ◌==◌}
use Rattle.policy.specs.Lines.{leads, highest}
use Rattle.policy.specs.Waiting.{free}

-- a policy may pass the front by: its passes have not come to its patience, and the front is the lowest line of the set
abbrev pub may_pass : (ℕ → Bool) → ℕ → ℕ → ℕ → Bool
may_pass set front patience passes = not (passes == patience) && leads set front

-- its choice is taken: it may pass the front by, and the choice is in the set
abbrev pub takes : (ℕ → Bool) → ℕ → ℕ → ℕ → ℕ → Bool
takes set front patience passes choice = may_pass set front patience passes && set choice

-- the answer of a policy that would choose a line
abbrev pub answer : (ℕ → Bool) → ℕ → ℕ → ℕ → ℕ → ℕ
answer set front patience passes choice = cond (takes set front patience passes choice) choice front

-- the highest-first policy: the highest line of the set
abbrev pub highest_first : (ℕ → Bool) → ℕ → ℕ → ℕ → ℕ
highest_first set front patience passes = answer set front patience passes (highest set 64 front)

-- the last-run policy: the highest line of the set that waits on no line of it. There is always one: the lowest line of a set, its front, waits on none of it.
abbrev pub last_run : (ℕ → ℕ → Bool) → (ℕ → Bool) → ℕ → ℕ → ℕ → ℕ
last_run waiting set front patience passes = answer set front patience passes (highest (free waiting set) 64 front)
