-- What a release comes to, by what its reading, its laying and its build came to.
use Rattle.std.proofs.Common.{◌≡◌, ℕ, suc, ◌+◌, List, Ok, Err, Result, sym, ap, subst, arith}
use Rattle.model.specs.Calls.{on_lay}
use Rattle.model.specs.Past.{Past}
use Rattle.model.specs.Promise.{Promised}
use Rattle.model.specs.World.{World}
use Rattle.model.specs.declared.answers.BuildRefusal.{BuildRefusal}
use Rattle.model.specs.declared.answers.BuildRefusal.TheVariants.{By}
use Rattle.model.specs.declared.answers.Built.{Built}
use Rattle.model.specs.declared.command.Command.{Command}
use Rattle.model.specs.declared.refusal.Refusal.{Refusal}
use Rattle.script.specs.Haves.{haves_of}
use Rattle.script.specs.Scripts.{answered}
use Rattle.script.specs.Text.{Meaning, reading}
use Rattle.script.specs.declared.answer.Refused.{Refused}
use Rattle.script.specs.declared.script.Script.{Script}
use Rattle.boundary.specs.Rounds.{BuiltBy, Promise, Released, unread, unlaid, built, last_text}

-- a laying that is refused is told as a build that is
abbrev pub as_build : Result (Unit {0}) Refusal → Result (Unit {0}) BuildRefusal
as_build (Ok x) = Ok x
as_build (Err r) = Err (By r)

pub went_on : {cs : List Command} {m : ℕ} {a : Result Built BuildRefusal} {u v : World} → BuiltBy cs m a u v → Past u → Past v
went_on b p = b.promise.past p

promised : {cs : List Command} {m : ℕ} {a : Result Built BuildRefusal} {u v : World} → BuiltBy cs m a u v → Past u → Promise cs m a u v
promised b p = record {
  before = p;
  passes = b.passes;
  calls = b.promise.calls;
  order = b.promise.order p;
  back = b.promise.back p;
  fair = b.promise.fair p;
  own = b.promise.own p;
}

-- so is a text
abbrev pub as_read : Result (Unit {0}) Refused → Result (Unit {0}) BuildRefusal
as_read (Ok x) = Ok x
as_read (Err e) = Err (By e.refusal)

module _ (m : ℕ) (text : List ℕ) (u : World) where
  pub not_read : (o : Result (Unit {0}) Refused) (s : Script) (x : BuildRefusal) (b : Result Built BuildRefusal) → as_read o ≡ Err x → b ≡ Err x → answered o s ≡ reading text → Released m text u b u
  not_read (Ok y) s x b e is read = cc
  not_read (Err r) s x b e is read =
      let same : b ≡ Err (By r.refusal) = cc in
      let P : Result Built BuildRefusal → Type 0 = λ c. Released m text u c u in subst P (sym same) (unread r (sym read))

  module _ (s : Meaning) (read : Ok s ≡ reading text) {v : World} where
    pub not_laid : (a : Result (Unit {0}) Refusal) (x : BuildRefusal) (b : Result Built BuildRefusal) → as_build a ≡ Err x → b ≡ Err x → Promised (on_lay (haves_of s.haves) a) u v → Released m text u b v
    not_laid (Ok y) x b e is p = cc
    not_laid (Err r) x b e is p =
        let same : b ≡ Err (By r) = cc in
        let P : Result Built BuildRefusal → Type 0 = λ c. Released m text u c v in subst P (sym same) (unlaid s r (sym read) p)

    pub was_built : {w : World} {a : Result Built BuildRefusal} → Past u → Promised (on_lay (haves_of s.haves) (Ok tt)) u v → BuiltBy s.commands m a v w → Released m text u a w
    was_built p l b = built s (sym read) l (promised b (l.past p))

-- one more release of the second text
pub again_last : (first second : List ℕ) (i : ℕ) → last_text first second (i + 1) ≡ second
again_last first second i = let up : i + 1 ≡ suc i = omega arith in ap (last_text first second) up
