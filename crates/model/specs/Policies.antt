-- What a policy means: a patience, and how often in a row it has just passed the front by.
use Rattle.std.specs.Prelude.{◌≡◌, ℕ, ◌+◌, ◌<◌, ◌≤◌, Bool, true, ◌≢◌}

-- A policy was asked: its patience, and its passes before and after.
pub record Asked : Type 0 where
  pub patience : ℕ
  pub before : ℕ
  pub after : ℕ

-- f is the lowest line of a set
pub record Front (left : ℕ → Bool) (f : ℕ) : Type 0 where
  pub member : left f ≡ true
  pub lowest : (k : ℕ) → k < f → left k ≢ true

-- Asked with the set of lines that are left and a front, a policy answers a line of the set; but the front if its passes have come to its patience,
-- or if what was called the front is not the set's lowest line. Then its passes are 0 where it answered the front, and one more where it did not.
pub record Answered (left : ℕ → Bool) (front answer : ℕ) (a : Asked) : Type 0 where
  pub bound : a.before ≤ a.patience
  pub member : Front left front → left answer ≡ true
  pub due : a.before ≡ a.patience → answer ≡ front
  pub astray : (Front left front → ⊥) → answer ≡ front
  pub taken : answer ≡ front → a.after ≡ 0
  pub passed : (answer ≢ front) → a.after ≡ a.before + 1
