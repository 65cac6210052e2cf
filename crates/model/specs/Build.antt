-- BUILD, by the smaller calls: one run under the policy, and where that stops, a second one in script order.
use Rattle.std.specs.Prelude.{◌&&◌, ◌||◌, ◌+◌}
use Rattle.model.specs.Words.{List, Bool, false, cond, not, ℕ, eqb, ltb, length, Option, Some, None, Result, Ok, Err, Command, Refusal, Stop, Stepped, Closed, CloseRefusal, Built, BuildRefusal}
use Rattle.model.specs.declared.answers.Wish.TheVariants.{Keep}
use Rattle.model.specs.declared.answers.Closed.TheVariants.{Kept}
use Rattle.model.specs.declared.answers.CloseRefusal.TheVariants as C
use Rattle.model.specs.declared.answers.BuildRefusal.TheVariants.{By, Stopped}
use Rattle.model.specs.Hazards.{fresh}
use Rattle.model.specs.World.{World}
use Rattle.model.specs.Calls.{on_begin, on_step, on_close, Did}
use Rattle.model.specs.Past.{Ran, none, more, joined}

-- Working steps that ask one policy of patience m, whose passes are n at first and k at the end.
pub data Steps (m n : ℕ) (u : World) : ℕ → World → Type 0 where
  no_step : Steps m n u n u
  a_step : {k : ℕ} {v w : World} → Steps m n u k v → (j : ℕ) (s : Stepped) → Did (on_step None (record { patience = m; before = k; after = j }) (Ok s)) v w → Steps m n u j w

-- the lines that they executed, each counted where an unskipped step works on a line that has made no act; a line's first act is a read, which is always noted
abbrev pub executed : {m n : ℕ} {u : World} {k : ℕ} {v : World} → Steps m n u k v → ℕ
executed no_step = 0
executed (a_step {k} {v} h j s d) = executed h + cond (not s.skipped && fresh s.line v.entries) 1 0

-- and the lines that they skipped
abbrev pub skipped : {m n : ℕ} {u : World} {k : ℕ} {v : World} → Steps m n u k v → ℕ
skipped no_step = 0
skipped (a_step h j s d) = skipped h + cond s.skipped 1 0

-- line l made an act in one of them that was no skip
abbrev pub acted : {m n : ℕ} {u : World} {k : ℕ} {v : World} → ℕ → Steps m n u k v → Bool
acted l no_step = false
acted l (a_step {k} {v} {w} h j s d) = (eqb l s.line && (not s.skipped && ltb (length v.entries) (length w.entries))) || acted l h

-- their calls
abbrev pub stepped : {m n : ℕ} {u : World} {k : ℕ} {v : World} → Steps m n u k v → Ran u v
stepped no_step = none
stepped (a_step h j s d) = more (stepped h) (on_step None _ (Ok s)) d

-- how a close with the wish to keep answers at the end of a run: kept, or stopped
abbrev pub end : Option Stop → Result Closed CloseRefusal
end None = Ok Kept
end (Some y) = Err (C.Stopped y)

-- A run from an accepted begin, by steps, to the close at its end.
pub record Whole (cs : List Command) (m n : ℕ) (e : Option Stop) (u v : World) : Type 0 where
  pub opened : World
  pub begin : Did (on_begin cs None) u opened
  pub passes : ℕ
  pub last : World
  pub steps : Steps m n opened passes last
  pub close : Did (on_close None Keep (end e)) last v

abbrev pub whole : {cs : List Command} {m n : ℕ} {e : Option Stop} {u v : World} → Whole cs m n e u v → Ran u v
whole {e = e} r = more (joined (more none (on_begin _ None) r.begin) (stepped r.steps)) (on_close None Keep (end e)) r.close

-- the answer: how the last run ended, and what the runs did
abbrev pub answer : Option Stop → Built → Result Built BuildRefusal
answer None b = Ok b
answer (Some y) b = Err (Stopped y b)

-- A build by a policy of patience m, whose passes are n at its entry and k at its exit: those after the first run, since the second asks a script-order policy of its own.
pub data Builds (cs : List Command) (m n : ℕ) (u : World) : Result Built BuildRefusal → ℕ → World → Type 0 where
  refused : {v : World} (r : Refusal) → Did (on_begin cs (Some r)) u v → Builds cs m n u (Err (By r)) n v
  once : {v : World} (r : Whole cs m n None u v) → Builds cs m n u (Ok (record { first = None; executed = executed r.steps; skipped = skipped r.steps })) r.passes v
  twice : {v w : World} (y : Stop) (e : Option Stop) (r : Whole cs m n (Some y) u v) (q : Whole cs 0 0 e v w) →
      Builds cs m n u (answer e (record { first = Some y; executed = executed r.steps + executed q.steps; skipped = skipped r.steps + skipped q.steps })) r.passes w

-- its calls
abbrev pub built : {cs : List Command} {m n k : ℕ} {u v : World} {a : Result Built BuildRefusal} → Builds cs m n u a k v → Ran u v
built (refused r d) = more none (on_begin _ (Some r)) d
built (once r) = whole r
built (twice y e r q) = joined (whole r) (whole q)
