-- What is always so of a log.
use Rattle.std.specs.Prelude.{◌≡◌, ℕ, suc, ◌+◌, ◌*◌, ◌<◌, ◌≤◌, Bool, true, cond, ◌&&◌, List, [], ◌∷◌, ◌==◌, nat_lt, slice_index_or}
use Rattle.lists.specs.Held.{held, room}
use Rattle.model.specs.Hazards.{fresh, ended}
use Rattle.model.specs.declared.run.Entry.{Entry}
use Rattle.model.specs.declared.run.LineState.TheVariants.{Waiting}
use Rattle.runner.specs.States.{is_ended, is_waiting}
use Rattle.runner.specs.declared.log.Inner.{Inner}

-- 17 places for each line
abbrev pub Roomy : Inner → Type 0
Roomy i = 17 * i.run.lines ≤ room i.entries

-- every entry is of a line below n
abbrev pub all_below : ℕ → List Entry → Bool
all_below n [] = true
all_below n (e ∷ es) = nat_lt e.line n && all_below n es

abbrev pub Inside : Inner → Type 0
Inside i = all_below i.run.lines (held i.entries) ≡ true

-- how many entries line l has
abbrev pub made : ℕ → List Entry → ℕ
made l [] = 0
made l (e ∷ es) = cond (l == e.line) (suc (made l es)) (made l es)

-- a line has at most 17 entries, and at most 16 before its write
abbrev pub Few : Inner → Type 0
Few i = (l : ℕ) → made l (held i.entries) + cond (ended l (held i.entries)) 0 1 ≤ 17

-- the states of the lines follow from the entries
abbrev pub Follows : Inner → Type 0
Follows i =
    (l : ℕ) → l < i.run.lines →
    (is_ended (slice_index_or i.run.states l Waiting) ≡ ended l (held i.entries)) × (is_waiting (slice_index_or i.run.states l Waiting) ≡ fresh l (held i.entries))

-- the facts that every function of a log keeps
pub record Kept (i : Inner) : Type 0 where
  pub roomy : Roomy i
  pub inside : Inside i
  pub few : Few i
  pub follows : Follows i
