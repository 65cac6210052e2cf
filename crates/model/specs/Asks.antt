-- Asks of one policy, one after another, while the front stays the same line: how long the front is passed by.
use Rattle.std.specs.Prelude.{ℕ, ◌+◌, ◌*◌, ◌≤◌, Bool, cond, ◌==◌}
use Rattle.model.specs.Policies.{Answered}

-- A policy of a fixed patience was asked again and again with one front: its passes at the start, and those at the end. What was left may have changed from
-- ask to ask. Each beginning of such a list of asks is one itself.
pub data Asks (patience front start : ℕ) : ℕ → Type 0 where
  none : Asks patience front start start
  then : {before after : ℕ} → Asks patience front start before → (left : ℕ → Bool) (answer : ℕ) → Answered left front answer (record { patience = patience; before = before; after = after }) → Asks patience front start after

-- how many asks there were
abbrev pub number : {patience front start end : ℕ} → Asks patience front start end → ℕ
number none = 0
number (then h left answer a) = number h + 1

-- how many of the answers were the front
abbrev pub fronts : {patience front start end : ℕ} → Asks patience front start end → ℕ
fronts none = 0
fronts {front = front} (then h left answer a) = cond (answer == front) (fronts h + 1) (fronts h)

-- how many answers in a row, up to the last one, passed the front by
abbrev pub row : {patience front start end : ℕ} → Asks patience front start end → ℕ
row none = 0
row {front = front} (then h left answer a) = cond (answer == front) 0 (row h + 1)

-- at most patience answers in a row pass the front by
abbrev pub NeverLonger : Type 0
NeverLonger = (patience front start end : ℕ) (h : Asks patience front start end) → row h ≤ patience

-- The asks are few for the answers that were the front. So a front that ends with its 17th turn is the front of at most 17 × (patience + 1) asks: with that
-- answer the passes are 0.
abbrev pub AlwaysServed : Type 0
AlwaysServed = (patience front start end : ℕ) (h : Asks patience front start end) → number h ≤ fronts h * (patience + 1) + end
