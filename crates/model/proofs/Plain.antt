-- A kept build of patience 0, from a book without records, is one run that executes each line and skips none.
use Rattle.std.proofs.Common.{◌≡◌, ℕ, zero, suc, Bool, true, false, cond, List, [], ◌∷◌, length, Some, None, Ok, Err, Option, Result, refl, ap, ◌∙◌, arith}
use Rattle.model.specs.declared.command.Command.{Command}
use Rattle.model.specs.declared.run.Stop.{Stop}
use Rattle.model.specs.declared.answers.Built.{Built}
use Rattle.model.specs.declared.answers.BuildRefusal.{BuildRefusal}
use Rattle.model.specs.Hazards.{fresh}
use Rattle.model.specs.Acts.{State, Outcome, goes, stops}
use Rattle.model.specs.Records.{Record}
use Rattle.model.specs.Order.{in_order}
use Rattle.model.specs.World.{World, state}
use Rattle.model.specs.Step.{skips_at, skipping, record_for}
use Rattle.model.specs.Past.{Past}
use Rattle.model.specs.Build.{Steps, no_step, a_step, executed, skipped, answer, Whole, Builds, refused, once, twice}
use Rattle.model.specs.Promise.{Agrees, EndsAs}
use Rattle.model.specs.Laws.{FrontBuildCounted}
use Rattle.model.proofs.Building.{whole_front, twice_ends}
use Rattle.model.proofs.Counts.{each_line_counted}

-- WITHOUT RECORDS no line is skipped

no_record : (cs : List Command) (k l : ℕ) (s : State) → skips_at [] cs k l s ≡ None
no_record [] k l s = refl
no_record (c ∷ cs) zero l s = by (fresh l s.entries)
  where
    by : (b : Bool) → ◌≡◌ {A = Option Record} (cond b None None) None
    by true = refl
    by false = refl
no_record (c ∷ cs) (suc k) l s = no_record cs k l s

none_skipped : {m n : ℕ} {x : World} {k : ℕ} {v : World} → x.records ≡ [] → (h : Steps m n x k v) → (v.records ≡ []) × (skipped h ≡ 0)
none_skipped e no_step = (e, refl)
none_skipped e (a_step {v = v} h j s d) =
    let ih = none_skipped e h in
    let none : record_for v s.line ≡ None = ap (λ rs. skips_at rs v.notes.commands s.line s.line (state v)) ih.0 ∙ no_record v.notes.commands s.line s.line (state v) in
    let off : s.skipped ≡ false = d.does.skipped ∙ ap skipping none in
    (ap (λ w. w.records) d.does.world ∙ ih.0, rw off (omega (arith, ih.1)))

-- A KEPT BUILD

-- script order does not both keep and stop
not_both : (w v : World) (y : Stop) (b : Built) (t : Outcome) → Agrees w t → EndsAs (answer (Some y) b) v t → ⊥
not_both w v y b (goes s) h e = e
not_both w v y b (stops s x) h e = h

-- a build of n lines that is kept executed each once
abbrev Counted : ℕ → Result Built BuildRefusal → Type 0
Counted n (Ok b) = b ≡ record { first = None; executed = n; skipped = 0 }
Counted n (Err r) = Unit {0}

-- a second run is not kept where the first one, of patience 0 too, stopped
second : {cs : List Command} {u v w : World} (p : Past u) (y : Stop) (e : Option Stop) (r : Whole cs 0 0 (Some y) u v) (q : Whole cs 0 0 e v w) (b : Built) → Counted (length cs) (answer e b)
second {cs} {u} {v} {w} p y None r q b = absurd (not_both w v y b (in_order cs u.files u.pool) (twice_ends p y None r q b) (whole_front p (Some y) b r))
second p y (Some x) r q b = tt

counted : {cs : List Command} {k : ℕ} {u : World} {a : Result Built BuildRefusal} {v : World} (p : Past u) → u.records ≡ [] → Builds cs 0 0 u a k v → Counted (length cs) a
counted p empty (refused r d) = tt
counted {cs} {u = u} {v = v} p empty (once r) =
    let none = (none_skipped (ap (λ w. w.records) r.begin.does.2 ∙ empty) r.steps).1 in
    let each : executed r.steps ≡ length cs = omega (arith, each_line_counted u v cs 0 0 r) in
    rw (each, none)
counted p empty (twice y e r q) = second p y e r q _

pub front_build_counted : FrontBuildCounted
front_build_counted u v p empty cs k b d = counted p empty d
