-- Further laws, which the calls and later pages stand on.
use Rattle.std.specs.Prelude.{◌≡◌, ◌∷◌, ◌++◌, ◌+◌, ◌*◌, ◌≤◌, ◌<◌}
use Rattle.model.specs.Words.{List, [], Bool, true, false, cond, not, ℕ, zero, suc, eqb, length, get_or, Some, None, Ok, Command, Entry, Wish, Built}
use Rattle.model.specs.declared.run.LineState.TheVariants.{Waiting}
use Rattle.model.specs.declared.answers.Closed.TheVariants.{Kept}
use Rattle.model.specs.Records.{Record}
use Rattle.model.specs.Commands.{wants}
use Rattle.model.specs.Hazards.{fresh, ended}
use Rattle.model.specs.Acts.{State, then, reached, line_state}
use Rattle.model.specs.Order.{script}
use Rattle.model.specs.World.{World, state, lines}
use Rattle.model.specs.Book.{record_of, recorded}
use Rattle.model.specs.Audit.{at_place}
use Rattle.model.specs.Begin.{Ticket}
use Rattle.model.specs.Step.{left, usable, record_for, work}
use Rattle.model.specs.Calls.{on_begin, on_close, Did}
use Rattle.model.specs.Past.{Past}
use Rattle.model.specs.Build.{Steps, executed, skipped, acted, Whole, Builds}

-- Script order of two scripts one after the other, the second numbered on, is script order of the first and then of the second.
abbrev pub ScriptOrderAppends : Type 0
ScriptOrderAppends = (l : ℕ) (cs ds : List Command) (s : State) → script l (cs ++ ds) s ≡ then (script l cs s) (script (l + length cs) ds)

-- how many of the lines below n pass a test
abbrev pub how_many : (ℕ → Bool) → ℕ → ℕ
how_many t zero = 0
how_many t (suc n) = cond (t n) 1 0 + how_many t n

-- In a run, however it ends, the lines executed are those that made an act which was no skip, and with the lines skipped they are all that made an act.
abbrev pub LinesCounted : Type 0
LinesCounted =
    (u x v : World) (cs : List Command) (m n k : ℕ) → Did (on_begin cs None) u x → (h : Steps m n x k v) →
    (executed h ≡ how_many (λ l. acted l h) (length cs)) × (executed h + skipped h ≡ how_many (λ l. not (fresh l v.entries)) (length cs))

-- In a run that is kept, each line is executed or skipped, and none is both.
abbrev pub EachLineCounted : Type 0
EachLineCounted = (u v : World) (cs : List Command) (m n : ℕ) (r : Whole cs m n None u v) → executed r.steps + skipped r.steps ≡ length cs

-- A kept build by a policy of patience 0, from a book without records, needs one run, executes each line and skips none.
abbrev pub FrontBuildCounted : Type 0
FrontBuildCounted =
    (u v : World) → Past u → u.records ≡ [] → (cs : List Command) (k : ℕ) (b : Built) → Builds cs 0 0 u (Ok b) k v →
    b ≡ record { first = None; executed = length cs; skipped = 0 }

-- In an open run the state of each line is the one that its entries tell.
abbrev pub StatesFollow : Type 0
StatesFollow =
    (w : World) → Past w → w.is_open ≡ true → (l : ℕ) → l < lines w →
    get_or w.notes.states l Waiting ≡ line_state (wants w.notes.commands l) l w.pool w.entries

-- After a run is kept, each of its lines could be skipped at once: the book has the record that is made of its acts, and the files hold what it read.
abbrev pub KeptLinesRecorded : Type 0
KeptLinesRecorded =
    (w v : World) → Past w → (t : Ticket) (wish : Wish) → Did (on_close t wish (Ok Kept)) w v → (l : ℕ) (c : Command) → at_place w.notes.commands l ≡ Some c →
    usable (state v) (record_of c v.records) ≡ Some (recorded l c v.entries)

-- how many acts of line l are noted
abbrev pub acts_made : ℕ → List Entry → ℕ
acts_made l [] = 0
acts_made l (e ∷ es) = cond (eqb l e.line) 1 0 + acts_made l es

-- THE ROOM OF A LOG for a run of n lines: 17 places a line; no acts but of these lines, at most 17 of each, and at most 16 of one that has not ended
pub record Room (n places : ℕ) (es : List Entry) : Type 0 where
  pub enough : 17 * n ≤ places
  pub inside : (l : ℕ) → n ≤ l → acts_made l es ≡ 0
  pub few : (l : ℕ) → acts_made l es ≤ 17
  pub fewer : (l : ℕ) → ended l es ≡ false → acts_made l es ≤ 16

-- Then there are places for all that is left of line l, of 17 acts.
abbrev pub RoomIsLeft : Type 0
RoomIsLeft = (n places : ℕ) (es : List Entry) → Room n places es → (l : ℕ) → l < n → length es + 17 ≤ places + acts_made l es

-- A working step keeps that room, in any world, with any past or none; a record has at most 16 reads.
abbrev pub RoomIsKept : Type 0
RoomIsKept =
    (w : World) → Room (lines w) w.log_places w.entries → (l : ℕ) → left (lines w) w.entries l ≡ true →
    ((q : Record) → record_for w l ≡ Some q → length q.reads ≤ 16) → Room (lines w) w.log_places (reached (work w l)).entries

-- The log of an open run has its room, over every past.
abbrev pub LogHasRoom : Type 0
LogHasRoom = (w : World) → Past w → w.is_open ≡ true → Room (lines w) w.log_places w.entries
