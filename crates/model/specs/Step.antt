-- STEP asks the policy once, and works on the line that it answers: a skip by an own record, or one act.
use Rattle.std.specs.Prelude.{◌≡◌, ◌&&◌, ◌∷◌}
use Rattle.std.specs.List.{list_all}
use Rattle.model.specs.Words.{Bool, true, false, cond, not, List, [], ℕ, zero, suc, eqb, ltb, get_or, set, Option, Some, None, Result, Ok, Err, Command, Entry, Stop, Stepped, StepRefusal}
use Rattle.model.specs.declared.refusal.Refusal.TheVariants.{LinesEnded, NoRun}
use Rattle.model.specs.declared.answers.StepRefusal.TheVariants.{By, Stopped}
use Rattle.model.specs.Contents.{Pool, holds}
use Rattle.model.specs.Policies.{Asked, Front, Answered}
use Rattle.model.specs.Records.{Use, Record}
use Rattle.model.specs.Commands.{wants}
use Rattle.model.specs.Hazards.{fresh, ended, hazard}
use Rattle.model.specs.Acts.{State, Outcome, goes, tested, noted, written, reached, stop_of, act, line_state}
use Rattle.model.specs.Book.{own, record_of}
use Rattle.model.specs.World.{Notes, World, state, lines}
use Rattle.model.specs.Begin.{Ticket}

-- the lines of n that have not ended
abbrev pub left : ℕ → List Entry → ℕ → Bool
left n es l = ltb l n && not (ended l es)

-- the lines below n have all ended
abbrev pub all_ended : ℕ → List Entry → Bool
all_ended zero es = true
all_ended (suc n) es = ended n es && all_ended n es

-- A SKIP

-- the files hold what was read
abbrev pub match : List ℕ → List Use → Bool
match fs rs = list_all (λ r. eqb (get_or fs r.file 0) r.number) rs

-- the pool has every number
abbrev pub all_held : Pool → List Use → Bool
all_held p rs = list_all (λ r. holds p r.number) rs

-- an own record, every number of it in the pool, whose reads match the files now
abbrev pub usable : State → Option Record → Option Record
usable s None = None
usable s (Some r) = cond (own r.standing && (all_held s.pool (r.write ∷ r.reads) && match s.files r.reads)) (Some r) None

-- the record by which line l, of command c, can be skipped: it must have made no act
abbrev pub skips : List Record → ℕ → Command → State → Option Record
skips rs l c s = cond (fresh l s.entries) (usable s (record_of c rs)) None

-- the same for line l of a script, whose command stands at place k
abbrev pub skips_at : List Record → List Command → ℕ → ℕ → State → Option Record
skips_at rs [] k l s = None
skips_at rs (c ∷ cs) zero l s = skips rs l c s
skips_at rs (c ∷ cs) (suc k) l s = skips_at rs cs k l s

abbrev pub entry : ℕ → Bool → Use → Entry
entry l b u = record { line = l; wrote = b; file = u.file; number = u.number }

-- line l makes the recorded acts in order, each with its hazard test
abbrev pub skip : ℕ → List Use → Use → State → Outcome
skip l [] u s = let e = entry l true u in tested l (written e s.pool s) (hazard e s.entries) (goes (written e s.pool s))
skip l (r ∷ rs) u s = let e = entry l false r in tested l (noted e s) (hazard e s.entries) (skip l rs u (noted e s))

-- A WORKING STEP on line l

abbrev pub record_for : World → ℕ → Option Record
record_for w l = skips_at w.records w.notes.commands l l (state w)

abbrev pub skipping : Option Record → Bool
skipping None = false
skipping (Some r) = true

abbrev pub work_by : Option Record → List Command → ℕ → State → Outcome
work_by None cs l s = act (wants cs l) l s
work_by (Some r) cs l s = skip l r.reads r.write s

abbrev pub work : World → ℕ → Outcome
work w l = work_by (record_for w l) w.notes.commands l (state w)

-- its stop is noted, and the state of its own line
abbrev pub noting : Notes → ℕ → State → Option Stop → Notes
noting n l s y = record { commands = n.commands; files = n.files; count = n.count; stop = y; states = set n.states l (line_state (wants n.commands l) l s.pool s.entries) }

abbrev pub moved : World → State → Notes → World
moved w s n = record { files = s.files; pool = s.pool; entries = s.entries; log_places = w.log_places; notes = n; is_open = true; records = w.records; book_places = w.book_places }

abbrev pub after_work : World → ℕ → Outcome → World
after_work w l t = moved w (reached t) (noting w.notes l (reached t) (stop_of t))

-- The ticket is live, the run open and not stopped; the policy, asked for a line of those left, answered the one that was worked on.
pub record Worked (t : Ticket) (a : Asked) (s : Stepped) (w v : World) : Type 0 where
  pub live : t ≡ None
  pub is_open : w.is_open ≡ true
  pub going : w.notes.stop ≡ None
  pub front : ℕ
  pub leads : Front (left (lines w) w.entries) front
  pub answer : Answered (left (lines w) w.entries) front s.line a
  pub skipped : s.skipped ≡ skipping (record_for w s.line)
  pub stop : s.stop ≡ stop_of (work w s.line)
  pub world : v ≡ after_work w s.line (work w s.line)

-- A REFUSED STEP

abbrev pub stopped_or_ended : Option Stop → Bool → Option StepRefusal
stopped_or_ended (Some y) done = Some (Stopped y)
stopped_or_ended None true = Some (By LinesEnded)
stopped_or_ended None false = None

abbrev pub step_refusal : Ticket → World → Option StepRefusal
step_refusal (Some r) w = Some (By r)
step_refusal None w = cond w.is_open (stopped_or_ended w.notes.stop (all_ended (lines w) w.entries)) (Some (By NoRun))

-- a refused step leaves all as it was, and the policy unasked
abbrev pub StepsOn : Ticket → Asked → Result Stepped StepRefusal → World → World → Type 0
StepsOn t a (Ok s) w v = Worked t a s w v
StepsOn t a (Err r) w v = (step_refusal t w ≡ Some r) × (a.after ≡ a.before) × (v ≡ w)
