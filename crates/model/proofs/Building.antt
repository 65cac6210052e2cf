-- What a build comes to, by its runs: a first run that is kept agrees with script order, and a second run is script order; and its fronts.
use Rattle.std.proofs.Common.{◌≡◌, ℕ, ◌+◌, ◌*◌, ◌<◌, ◌≤◌, false, List, [], length, Some, None, Ok, Err, Option, Result, sym, refl, ap, ◌∙◌, subst, inr, ⊎_elim, arith}
use Rattle.model.specs.declared.command.Command.{Command}
use Rattle.model.specs.declared.run.Stop.{Stop}
use Rattle.model.specs.declared.answers.Stepped.{Stepped}
use Rattle.model.specs.declared.answers.Wish.TheVariants.{Keep}
use Rattle.model.specs.declared.answers.Built.{Built}
use Rattle.model.specs.declared.answers.BuildRefusal.{BuildRefusal}
use Rattle.model.specs.declared.answers.BuildRefusal.TheVariants.{Stopped}
use Rattle.model.specs.Commands.{wants}
use Rattle.model.specs.Hazards.{ended}
use Rattle.model.specs.Acts.{State, Outcome, goes, stops, act}
use Rattle.model.specs.Order.{in_order, carry}
use Rattle.model.specs.Policies.{Asked}
use Rattle.model.specs.World.{World, state, lines}
use Rattle.model.specs.Begin.{Ticket, begun}
use Rattle.model.specs.Step.{Worked, work, after_work}
use Rattle.model.specs.Calls.{on_begin, on_close, Did}
use Rattle.model.specs.Past.{Past, call, Ran, none, more, after, joined, Found, found, fronts, OnePolicy}
use Rattle.model.specs.Build.{Steps, no_step, a_step, stepped, end, Whole, whole, answer, Builds, refused, once, twice}
use Rattle.model.specs.Promise.{Agrees, EndsAs, BuildAsScriptOrder, StoppedBuildPutsBack, Few, FewOf, NoLineStarvesInBuilds}
use Rattle.model.proofs.Script.{upto, script_is, Done, act_stops, act_goes, line_stops, line_goes, carry_ends}
use Rattle.model.proofs.Changes.{ending}
use Rattle.model.proofs.Sound.{Sound, sound, Open, work_is, left_parts}
use Rattle.model.proofs.Moves.{work_moved, moved_ended, front_below}
use Rattle.model.proofs.Closing.{Backs, keeps_by, backs_by, keeps_order, put_back_is}
use Rattle.model.proofs.Fronts.{no_line_starves}

after_joined : {u v w : World} (p : Past u) (h : Ran u v) (k : Ran v w) → after p (joined h k) ≡ after (after p h) k
after_joined p h none = refl
after_joined p h (more k c d) = ap (λ q. call q c d) (after_joined p h k)

-- THE PAST OF A RUN

module _ {cs : List Command} {m n : ℕ} {e : Option Stop} {u v : World} (p : Past u) (r : Whole cs m n e u v) where
  abbrev at_begin : Past r.opened
  at_begin = call p (on_begin cs None) r.begin

  abbrev at_end : Past r.last
  at_end = after at_begin (stepped r.steps)

  whole_is : after p (whole r) ≡ call at_end (on_close None Keep (end e)) r.close
  whole_is = ap (λ q. call q (on_close None Keep (end e)) r.close) (after_joined p (more none (on_begin cs None) r.begin) (stepped r.steps))

-- its steps ask one policy
steps_one : {m n : ℕ} {u : World} {k : ℕ} {v : World} (h : Steps m n u k v) (q : Past u) → OnePolicy m n q → OnePolicy m k (after q (stepped h))
steps_one no_step q one = one
steps_one (a_step h j s d) q one = (refl, refl, steps_one h q one)

whole_few : {cs : List Command} {m n : ℕ} {e : Option Stop} {u v : World} (p : Past u) (r : Whole cs m n e u v) → Few p r
whole_few {cs} {m} {n} {e} {u} {v} p r f =
    subst (λ q. fronts f q ≤ 17 * (m + 1)) (sym (whole_is p r)) (no_line_starves v (call (at_end p r) (on_close None Keep (end e)) r.close) f m r.passes (steps_one r.steps (at_begin p r) tt))

pub no_line_starves_in_builds : NoLineStarvesInBuilds
no_line_starves_in_builds u v p cs m n k a b = by b
  where
    by : {v : World} {k : ℕ} {a : Result Built BuildRefusal} (b : Builds cs m n u a k v) → FewOf p b
    by (refused r d) = tt
    by (once r) = whole_few p r
    by (twice y e r q) = (whole_few p r, whole_few (after p (whole r)) q)

-- SCRIPT ORDER

steps_found : {m n : ℕ} {u : World} {k : ℕ} {v : World} (h : Steps m n u k v) (q : Past u) → found (after q (stepped h)) ≡ found q
steps_found no_step q = refl
steps_found (a_step h j s d) q = steps_found h q

abbrev pub base : List Command → World → Found
base cs u = record { commands = cs; files = u.files; pool = u.pool }

pub sound_at : {cs : List Command} {m n : ℕ} {u x : World} {k : ℕ} {v : World} (p : Past u) (d : Did (on_begin cs None) u x) (h : Steps m n x k v) → Sound v (base cs u)
sound_at {cs} {m} {n} {u} {x} {k} {v} p d h = subst (Sound v) (steps_found h (call p (on_begin cs None) d)) (sound (after (call p (on_begin cs None) d) (stepped h)))

-- A RUN THAT ALWAYS TAKES THE FRONT is on the way of script order
module _ {cs : List Command} {u x : World} (p : Past u) (d : Did (on_begin cs None) u x) where
  abbrev s₀ : State
  s₀ = record { files = u.files; pool = u.pool; entries = [] }

  abbrev n : ℕ
  n = length cs

  record OnWay (v : World) : Type 0 where
    going : v.notes.stop ≡ None → upto cs n s₀ ≡ upto cs n (state v)
    stopped : (y : Stop) → v.notes.stop ≡ Some y → upto cs n s₀ ≡ stops (state v) y

  on_way_new : OnWay (begun cs u)
  on_way_new = record { going = λ j. refl; stopped = λ y j. let z : ◌≡◌ {A = ℕ} 0 1 = cc in absurd (omega arith) }

  module _ (v w : World) (t : Ticket) (a : Asked) (st : Stepped) (still : a.patience ≡ 0) (sv : Sound v (base cs u)) (k : Worked t a st v w) (ih : OnWay v) where
    abbrev l : ℕ
    l = st.line

    o : Open (base cs u) v
    o = sv.open_run k.is_open

    front_is : l ≡ k.front
    front_is = k.answer.due (omega (arith, k.answer.bound))

    inside : l < n
    inside = rw o.commands at (left_parts (lines v) v.entries l (k.answer.member k.leads)).0

    open_line : ended l v.entries ≡ false
    open_line = (left_parts (lines v) v.entries l (k.answer.member k.leads)).1

    done : Done cs l (state v)
    done i lt = front_below (lines v) v.entries k.front k.leads i (omega (arith, front_is))

    before : upto cs n s₀ ≡ upto cs n (state v)
    before = ih.going k.going

    came : (t : Outcome) → work v l ≡ t → OnWay (after_work v l t)
    came (goes s) e = record {
      going = λ j. before ∙ ⊎_elim
          (λ (q : work v l ≡ act (wants cs l) l (state v)). act_goes cs l (state v) done n inside open_line s (sym q ∙ e))
          (λ (q : work v l ≡ carry (wants cs l) 17 l (state v)).
          let full : carry (wants cs l) 17 l (state v) ≡ goes s = sym q ∙ e in
          line_goes cs l (state v) done n inside s full (carry_ends cs 17 l (state v) s (inr (omega arith, omega arith)) full) (λ i lt. moved_ended l v.entries s.entries (work_moved v l s e) open_line i (done i lt)))
          (work_is v (base cs u) o l);
      stopped = λ y j. let z : ◌≡◌ {A = ℕ} 0 1 = cc in absurd (omega arith);
    }
    came (stops s y) e = record {
      going = λ j. let z : ◌≡◌ {A = ℕ} 0 1 = cc in absurd (omega arith);
      stopped = λ x j.
          let same : y ≡ x = cc in
          before ∙ rw (← same) (⊎_elim
          (λ (q : work v l ≡ act (wants cs l) l (state v)). act_stops cs l (state v) done n inside open_line s y (sym q ∙ e))
          (λ (q : work v l ≡ carry (wants cs l) 17 l (state v)). line_stops cs l (state v) done n inside s y (sym q ∙ e))
          (work_is v (base cs u) o l));
    }

    on_way_more : OnWay w
    on_way_more = rw k.world (came (work v l) refl)

  on_way : {j : ℕ} {v : World} (h : Steps 0 0 x j v) → OnWay v
  on_way no_step = subst OnWay (sym d.does.2) on_way_new
  on_way (a_step {k = i} {v} {w} h j st e) = on_way_more v w None (record { patience = 0; before = i; after = j }) st refl (sound_at p d h) e.does (on_way h)

-- WHAT A RUN COMES TO

whole_kept : {cs : List Command} {m n : ℕ} {u v : World} (p : Past u) (r : Whole cs m n None u v) → Agrees v (in_order cs u.files u.pool)
whole_kept {cs} {m} {n} {u} {v} p r = keeps_order r.last v (base cs u) (sound_at p r.begin r.steps) (keeps_by None r.last v (ending None (end None) r.last v Keep r.close.does))

pub whole_backs : {cs : List Command} {m n : ℕ} {u v : World} (y : Stop) (r : Whole cs m n (Some y) u v) → Backs y r.last v
whole_backs {cs} {m} {n} {u} {v} y r = backs_by None r.last v y (ending None (end (Some y)) r.last v Keep r.close.does)

stopped_ends : (y : Stop) (b : Built) (v : World) (s : State) (t : Outcome) → t ≡ stops s y → EndsAs (answer (Some y) b) v t
stopped_ends y b v s t e = rw e (refl, refl)

-- the second run
pub whole_front : {cs : List Command} {u v : World} (p : Past u) (e : Option Stop) (b : Built) (r : Whole cs 0 0 e u v) → EndsAs (answer e b) v (in_order cs u.files u.pool)
whole_front p None b r = whole_kept p r
whole_front {cs} {u} {v} p (Some y) b r =
    let k = whole_backs y r in
    stopped_ends y b v (state r.last) (in_order cs u.files u.pool) (script_is cs _ ∙ (on_way p r.begin r.steps).stopped y k.stopped)

-- a run that stopped is put back to what its begin found
put_back_same : {cs : List Command} {m n : ℕ} {u v : World} (p : Past u) (y : Stop) (r : Whole cs m n (Some y) u v) → (v.files ≡ u.files) × (v.pool ≡ u.pool)
put_back_same {cs} {m} {n} {u} {v} p y r =
    let b = whole_backs y r in
    put_back_is r.last v (base cs u) (sound_at p r.begin r.steps) b.is_open b.world

pub twice_ends : {cs : List Command} {m n : ℕ} {u v w : World} (p : Past u) (y : Stop) (e : Option Stop) (r : Whole cs m n (Some y) u v) (q : Whole cs 0 0 e v w) (b : Built) → EndsAs (answer e b) w (in_order cs u.files u.pool)
twice_ends p y e r q b = let back = put_back_same p y r in rw (back.0, back.1) at (whole_front (after p (whole r)) e b q)

ends_as : {cs : List Command} {m n k : ℕ} {u : World} {a : Result Built BuildRefusal} {v : World} (p : Past u) (b : Builds cs m n u a k v) → EndsAs a v (in_order cs u.files u.pool)
ends_as p (refused r d) = tt
ends_as p (once r) = whole_kept p r
ends_as p (twice y e r q) = twice_ends p y e r q _

pub build_as_script_order : BuildAsScriptOrder
build_as_script_order u v p cs m n k a b = ends_as p b

-- a build that stops, stopped in its second run
pub stopped_build_puts_back : StoppedBuildPutsBack
stopped_build_puts_back u v p cs m n k y b d = by d refl
  where
    not_ok : {A : Type 0} {o : Built} → Ok o ≡ Err (Stopped y b) → A
    not_ok e = let z : ◌≡◌ {A = ℕ} 0 1 = cc in absurd (omega arith)

    second : {x : World} (z : Stop) (e : Option Stop) (o : Built) (r : Whole cs m n (Some z) u x) (q : Whole cs 0 0 e x v) → answer e o ≡ Err (Stopped y b) → (v.files ≡ u.files) × (v.pool ≡ u.pool)
    second z None o r q e = not_ok e
    second z (Some s) o r q e =
        let first = put_back_same p z r in
        let last = put_back_same (after p (whole r)) s q in
        (last.0 ∙ first.0, last.1 ∙ first.1)

    by : {a : Result Built BuildRefusal} {j : ℕ} → Builds cs m n u a j v → a ≡ Err (Stopped y b) → (v.files ≡ u.files) × (v.pool ≡ u.pool)
    by (refused r x) e = let z : ◌≡◌ {A = ℕ} 0 1 = cc in absurd (omega arith)
    by (once r) e = not_ok e
    by (twice z e r q) i = second z e _ r q i
