-- The promises, over every past.
use Rattle.std.specs.Prelude.{◌≡◌, ◌∷◌, ◌+◌, ◌*◌, ◌≤◌, ◌≢◌}
use Rattle.model.specs.Words.{List, [], Bool, true, false, cond, ℕ, eqb, get_or, length, Option, Some, None, Result, Ok, Err, Command, Entry, Stop, Stepped, StepRefusal, Wish, Closed, CloseRefusal, Built, BuildRefusal}
use Rattle.model.specs.declared.record.Standing.TheVariants.{Own}
use Rattle.model.specs.declared.answers.Closed.TheVariants.{Kept}
use Rattle.model.specs.declared.answers.BuildRefusal.TheVariants.{By, Stopped}
use Rattle.model.specs.Numbers.{number_of}
use Rattle.model.specs.Contents.{Content, Pool, count, used, told}
use Rattle.model.specs.Records.{Record}
use Rattle.model.specs.Acts.{Outcome, goes, stops}
use Rattle.model.specs.Order.{in_order}
use Rattle.model.specs.Truth.{true_in}
use Rattle.model.specs.Book.{has_record, record_of, recorded}
use Rattle.model.specs.Answers.{fault_refusal, unbuilt}
use Rattle.model.specs.Policies.{Asked}
use Rattle.model.specs.World.{World, state}
use Rattle.model.specs.Audit.{at_place}
use Rattle.model.specs.Begin.{Ticket, begin_refusal}
use Rattle.model.specs.Step.{usable}
use Rattle.model.specs.Calls.{Call, on_step, on_close, Did}
use Rattle.model.specs.Past.{Past, after, found, fronts_by, fronts, OnePolicy}
use Rattle.model.specs.Build.{Whole, whole, Builds, refused, once, twice}

-- An act: a read or a write of a file, and the content as bytes.
pub record Act : Type 0 where
  pub wrote : Bool
  pub file : ℕ
  pub bytes : Option Content

-- the acts of line l in a log, in order, each content looked up in the run's own pool
abbrev pub acts_of : Pool → ℕ → List Entry → List Act
acts_of p l [] = []
acts_of p l (e ∷ es) = cond (eqb l e.line) (record { wrote = e.wrote; file = e.file; bytes = told p e.number } ∷ acts_of p l es) (acts_of p l es)

-- AS SCRIPT ORDER LEAVES IT: script order did not stop, each file holds the same bytes or is absent in both, and each line read the same in order and wrote the same
abbrev pub Agrees : World → Outcome → Type 0
Agrees v (goes s) =
    ((f : ℕ) → told v.pool (get_or v.files f 0) ≡ told s.pool (get_or s.files f 0)) ×
    ((l : ℕ) → acts_of v.pool l v.entries ≡ acts_of s.pool l s.entries)
Agrees v (stops s y) = ⊥

-- A run that is kept leaves the world as script order does, from what begin found.
abbrev pub KeptAsScriptOrder : Type 0
KeptAsScriptOrder =
    (w v : World) (p : Past w) (t : Ticket) (wish : Wish) → Did (on_close t wish (Ok Kept)) w v →
    Agrees v (in_order (found p).commands (found p).files (found p).pool)

-- An open run that is closed and not kept is put back: files and pool are as begin found them.
abbrev pub PutBackAsFound : Type 0
PutBackAsFound =
    (w v : World) (p : Past w) (wish : Wish) (a : Result Closed CloseRefusal) → w.is_open ≡ true → Did (on_close None wish a) w v → (a ≢ Ok Kept) →
    (v.files ≡ (found p).files) × (v.pool ≡ (found p).pool)

-- A build whose begin is accepted is kept exactly where script order does not stop, and then leaves the world as script order does; else it stops with the very stop of script order, and is told by its number.
abbrev pub EndsAs : Result Built BuildRefusal → World → Outcome → Type 0
EndsAs (Ok b) v t = Agrees v t
EndsAs (Err (By r)) v t = Unit {0}
EndsAs (Err (Stopped y b)) v (goes s) = ⊥
EndsAs (Err (Stopped y b)) v (stops s x) = (y ≡ x) × (number_of (unbuilt (Stopped y b)) ≡ number_of (fault_refusal x.fault))

abbrev pub BuildAsScriptOrder : Type 0
BuildAsScriptOrder =
    (u v : World) → Past u → (cs : List Command) (m n k : ℕ) (a : Result Built BuildRefusal) → Builds cs m n u a k v →
    EndsAs a v (in_order cs u.files u.pool)

-- A build that stops leaves files and pool as it found them.
abbrev pub StoppedBuildPutsBack : Type 0
StoppedBuildPutsBack =
    (u v : World) → Past u → (cs : List Command) (m n k : ℕ) (y : Stop) (b : Built) → Builds cs m n u (Err (Stopped y b)) k v →
    (v.files ≡ u.files) × (v.pool ≡ u.pool)

-- Where its first run stopped, its second begin is accepted.
abbrev pub BeginsAgain : Type 0
BeginsAgain = (u v : World) → Past u → (cs : List Command) (m n : ℕ) (y : Stop) → Whole cs m n (Some y) u v → begin_refusal cs v ≡ None

-- And so it is in any world, with any past or none.
abbrev pub BeginsAnywhere : Type 0
BeginsAnywhere = (u v : World) (cs : List Command) (m n : ℕ) (y : Stop) → Whole cs m n (Some y) u v → begin_refusal cs v ≡ None

-- No line starves: where the working steps of a run all asked one policy of patience m, each line was the front at the start of at most 17 × (m + 1) of them.
abbrev pub NoLineStarves : Type 0
NoLineStarves = (w : World) (p : Past w) (f m n : ℕ) → OnePolicy m n p → fronts f p ≤ 17 * (m + 1)

-- and so in both runs of a build
abbrev pub Few : {u v : World} {cs : List Command} {m n : ℕ} {e : Option Stop} → Past u → Whole cs m n e u v → Type 0
Few {m = m} p r = (f : ℕ) → fronts f (after p (whole r)) ≤ 17 * (m + 1)

abbrev pub FewOf : {u v : World} {cs : List Command} {m n k : ℕ} {a : Result Built BuildRefusal} → Past u → Builds cs m n u a k v → Type 0
FewOf p (refused r d) = Unit {0}
FewOf p (once r) = Few p r
FewOf p (twice y e r q) = Few p r × Few (after p (whole r)) q

abbrev pub NoLineStarvesInBuilds : Type 0
NoLineStarvesInBuilds =
    (u v : World) (p : Past u) (cs : List Command) (m n k : ℕ) (a : Result Built BuildRefusal) (b : Builds cs m n u a k v) → FewOf p b

-- Own records are true.
abbrev pub OwnTrue : Pool → List Record → Type 0
OwnTrue p [] = Unit {0}
OwnTrue p (r ∷ rs) = (r.standing ≡ Own → true_in p r ≡ true) × OwnTrue p rs

abbrev pub OwnRecordsTrue : Type 0
OwnRecordsTrue = (w : World) → Past w → OwnTrue w.pool w.records

-- The book has at most one record of a command, and no more records than places.
abbrev pub Unique : List Record → Type 0
Unique [] = Unit {0}
Unique (r ∷ rs) = (has_record r.command rs ≡ false) × Unique rs

abbrev pub OneRecordACommand : Type 0
OneRecordACommand = (w : World) → Past w → Unique w.records × (length w.records ≤ w.book_places)

-- The pool stays within its places and its room.
abbrev pub PoolInRoom : Type 0
PoolInRoom = (w : World) → Past w → (count w.pool ≤ w.pool.places) × (used w.pool.contents ≤ w.pool.room)

-- WHAT THE CALLS PROMISE: each call's contract is one of the records below.

-- LAY, LOAD, AUDIT, BEGIN. The call does what its page says; whatever past the world before it has goes on with it; and own records are true then.
pub record Promised (c : Call) (w v : World) : Type 0 where
  pub did : Did c w v
  pub past : Past w → Past v
  pub own : Past w → OwnTrue v.pool v.records

-- STEP. And where the run asks one policy of patience m, no line is the front of more than 17 × (m + 1) of its steps, the step at hand counted.
pub record StepPromised (t : Ticket) (a : Asked) (r : Result Stepped StepRefusal) (w v : World) : Type 0 where
  pub call : Promised (on_step t a r) w v
  pub fair : (p : Past w) → OnePolicy a.patience a.before p → (f : ℕ) → fronts_by f (on_step t a r) w (fronts f p) ≤ 17 * (a.patience + 1)

-- After a run is kept, each of its lines could be skipped at once: the book has the record that is made of its acts, and the files hold what it read.
abbrev pub Recorded : World → World → Type 0
Recorded w v =
    (l : ℕ) (c : Command) → at_place w.notes.commands l ≡ Some c → usable (state v) (record_of c v.records) ≡ Some (recorded l c v.entries)

-- CLOSE. And a run that is kept is as in script order, from what begin found, with the records of its lines; an open run that is not kept is put back.
pub record ClosePromised (t : Ticket) (wish : Wish) (a : Result Closed CloseRefusal) (w v : World) : Type 0 where
  pub call : Promised (on_close t wish a) w v
  pub order : (p : Past w) → a ≡ Ok Kept → Agrees v (in_order (found p).commands (found p).files (found p).pool)
  pub lines : Past w → a ≡ Ok Kept → Recorded w v
  pub back : (p : Past w) → t ≡ None → w.is_open ≡ true → (a ≢ Ok Kept) → (v.files ≡ (found p).files) × (v.pool ≡ (found p).pool)

-- BUILD. It is made of the smaller calls; it is kept as in script order, or refused with the very stop of script order and all put back; no line starves in
-- either run; the past goes on with its calls, and own records are true.
pub record BuildPromised (cs : List Command) (m n : ℕ) (a : Result Built BuildRefusal) (k : ℕ) (u v : World) : Type 0 where
  pub calls : Builds cs m n u a k v
  pub order : Past u → EndsAs a v (in_order cs u.files u.pool)
  pub back : Past u → (y : Stop) (b : Built) → a ≡ Err (Stopped y b) → (v.files ≡ u.files) × (v.pool ≡ u.pool)
  pub fair : (p : Past u) → FewOf p calls
  pub past : Past u → Past v
  pub own : Past u → OwnTrue v.pool v.records
