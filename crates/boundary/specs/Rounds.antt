-- Texts that are released one after another on kept parts, each by a policy made anew, from parts without any past.
use Rattle.std.specs.Prelude.{◌≡◌, ℕ, zero, suc, List, min, Ok, Err, Result}
use Rattle.model.specs.Build.{Builds}
use Rattle.model.specs.Calls.{on_lay}
use Rattle.model.specs.Order.{in_order}
use Rattle.model.specs.Past.{Past}
use Rattle.model.specs.Promise.{EndsAs, FewOf, OwnTrue, Promised, BuildPromised}
use Rattle.model.specs.World.{World, Fresh}
use Rattle.model.specs.declared.answers.BuildRefusal.{BuildRefusal}
use Rattle.model.specs.declared.answers.BuildRefusal.TheVariants.{By, Stopped}
use Rattle.model.specs.declared.answers.Built.{Built}
use Rattle.model.specs.declared.command.Command.{Command}
use Rattle.model.specs.declared.refusal.Refusal.{Refusal}
use Rattle.model.specs.declared.run.Stop.{Stop}
use Rattle.script.specs.Haves.{haves_of}
use Rattle.script.specs.Text.{Meaning, nothing, reading}
use Rattle.script.specs.declared.answer.Refused.{Refused}
use Rattle.boundary.specs.Puts.{fresh_pool}

-- a build by a policy of patience m without passes, from a world u to a world v
pub record BuiltBy (cs : List Command) (m : ℕ) (a : Result Built BuildRefusal) (u v : World) : Type 0 where
  pub passes : ℕ
  pub promise : BuildPromised cs m 0 a passes u v

-- A build from a world u with a past: it ends as script order does from u; where it stops, all is put back; no line
-- starves; and own records are true then.
pub record Promise (cs : List Command) (m : ℕ) (a : Result Built BuildRefusal) (u v : World) : Type 0 where
  pub before : Past u
  pub passes : ℕ
  pub calls : Builds cs m 0 u a passes v
  pub order : EndsAs a v (in_order cs u.files u.pool)
  pub back : (y : Stop) (b : Built) → a ≡ Err (Stopped y b) → (v.files ≡ u.files) × (v.pool ≡ u.pool)
  pub fair : FewOf before calls
  pub own : OwnTrue v.pool v.records

-- RELEASED: a text is read, laid and built; the answer is that of the build, or tells why it was not read or not laid
pub data Released (m : ℕ) (text : List ℕ) (u : World) : Result Built BuildRefusal → World → Type 0 where
  unread : (e : Refused) → reading text ≡ Err e → Released m text u (Err (By e.refusal)) u
  unlaid : {v : World} (s : Meaning) (r : Refusal) → reading text ≡ Ok s → Promised (on_lay (haves_of s.haves) (Err r)) u v → Released m text u (Err (By r)) v
  built :
      {w v : World} {a : Result Built BuildRefusal} (s : Meaning) → reading text ≡ Ok s → Promised (on_lay (haves_of s.haves) (Ok tt)) u w →
      Promise s.commands m a w v → Released m text u a v

-- ROUNDS: n releases of one text, after one that came to an answer and a world
pub data Rounds (m : ℕ) (text : List ℕ) (b : Result Built BuildRefusal) (u : World) : ℕ → Result Built BuildRefusal → World → Type 0 where
  none : Rounds m text b u 0 b u
  more : {n : ℕ} {a c : Result Built BuildRefusal} {v w : World} → Rounds m text b u n a v → Released m text v c w → Rounds m text b u (suc n) c w

-- START: no past, and lent memory of so many places of the pool, bytes, places of the log and places of the book
pub record Start (places room log book : ℕ) (w : World) : Type 0 where
  pub fresh : Fresh w
  pub pool : w.pool ≡ fresh_pool places room
  pub log_places : w.log_places ≡ log
  pub book_places : w.book_places ≡ min book 256

-- CHAINED: a first text is released, and a second one n times: the last answer and the world that it led to
pub record Chained (m : ℕ) (first second : List ℕ) (n : ℕ) (a : Result Built BuildRefusal) (u v : World) : Type 0 where
  pub answer : Result Built BuildRefusal
  pub between : World
  pub once : Released m first u answer between
  pub again : Rounds m second answer between n a v
  pub past : Past v

-- the text that was released last, and the labels that it gives
abbrev pub last_text : List ℕ → List ℕ → ℕ → List ℕ
last_text first second zero = first
last_text first second (suc n) = second

abbrev pub labels_by : Result Meaning Refused → List (List ℕ)
labels_by (Ok s) = s.labels
labels_by (Err e) = nothing.labels
