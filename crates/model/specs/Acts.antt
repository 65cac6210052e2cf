-- One act of a line: its tests in order, and what it leaves.
use Rattle.std.specs.Prelude.{◌&&◌, ◌∷◌, ◌++◌}
use Rattle.std.specs.List.{list_any}
use Rattle.model.specs.Words.{Bool, true, false, cond, List, [], ℕ, zero, suc, eqb, leb, length, get_or, set, Option, Some, None, Entry, Fault, Stop, LineState}
use Rattle.model.specs.declared.run.Hazard as Met
use Rattle.model.specs.declared.run.Fault.TheVariants.{TooLong, NoRoom, Hazard, Absent, BadList}
use Rattle.model.specs.declared.run.LineState.TheVariants.{Waiting, Reading, Writing, Ended}
use Rattle.model.specs.Contents.{Content, Pool, content, known, given, put}
use Rattle.model.specs.Commands.{Want, reads, writes, bad, is_bad}
use Rattle.model.specs.Hazards.{fresh, ended, has_read, hazard}

-- What acts work on: the number of each file, the pool, and the entries of the log.
pub record State : Type 0 where
  pub files : List ℕ
  pub pool : Pool
  pub entries : List Entry

-- What an act comes to, or many: it goes on from a state, or stops there.
pub data Outcome : Type 0 where
  goes : State → Outcome
  stops : State → Stop → Outcome

abbrev pub then : Outcome → (State → Outcome) → Outcome
then (goes s) k = k s
then (stops s y) k = stops s y

abbrev pub reached : Outcome → State
reached (goes s) = s
reached (stops s y) = s

abbrev pub stop_of : Outcome → Option Stop
stop_of (goes s) = None
stop_of (stops s y) = Some y

-- ONE ACT OF LINE l

abbrev pub stop_at : ℕ → Fault → Stop
stop_at l y = record { line = l; fault = y }

-- a hazard stops, else it goes on as given
abbrev pub tested : ℕ → State → Option Met.Hazard → Outcome → Outcome
tested l s (Some h) t = stops s (stop_at l (Hazard h))
tested l s None t = t

abbrev pub noted : Entry → State → State
noted e s = record { files = s.files; pool = s.pool; entries = s.entries ++ e ∷ [] }

-- The entry of a read comes first; then a hazard stops, an absent file, a bad list. `after` is what the line wants then.
abbrev pub reading : ℕ → State → Entry → Want → Outcome
reading l s e after =
    tested l (noted e s) (hazard e s.entries)
    (cond (eqb e.number 0) (stops (noted e s) (stop_at l Absent))
    (cond (is_bad after) (stops (noted e s) (stop_at l BadList))
    (goes (noted e s))))

abbrev pub written : Entry → Pool → State → State
written e p s = record { files = set s.files e.file e.number; pool = p; entries = s.entries ++ e ∷ [] }

-- the write of a content that has the number n now, with the pool p; 0: the pool refused it, and there is no act
abbrev pub writing : ℕ → State → ℕ → Pool → ℕ → Outcome
writing l s f p zero = stops s (stop_at l NoRoom)
writing l s f p (suc n) =
    let e : Entry = record { line = l; wrote = true; file = f; number = suc n } in
    tested l (written e p s) (hazard e s.entries) (goes (written e p s))

-- what is wanted now, of a line that wants `k xs` where it has read xs
abbrev pub attempt : (List Content → Want) → ℕ → State → List Content → Want → Outcome
attempt k l s xs bad = stops s (stop_at l BadList)
attempt k l s xs (reads f) =
    let n = known s.pool (get_or s.files f 0) in
    reading l s (record { line = l; wrote = false; file = f; number = n }) (k (xs ++ content s.pool n ∷ []))
attempt k l s xs (writes f x) = cond (leb (length x) 4096) (writing l s f (put s.pool x) (given s.pool x)) (stops s (stop_at l TooLong))

abbrev pub act : (List Content → Want) → ℕ → State → Outcome
act k l s = let xs = has_read s.pool l s.entries in attempt k l s xs (k xs)

-- THE STATE OF LINE l, read off the entries

-- it has read an absent file
abbrev pub read_absent : ℕ → List Entry → Bool
read_absent l es = list_any (λ e. eqb l e.line && eqb e.number 0) es

abbrev pub state_by : Want → LineState
state_by (reads f) = Reading
state_by (writes f x) = Writing
state_by bad = Reading

abbrev pub line_state : (List Content → Want) → ℕ → Pool → List Entry → LineState
line_state k l p es =
    cond (ended l es) Ended
    (cond (fresh l es) Waiting
    (cond (read_absent l es) Reading (state_by (k (has_read p l es)))))
