-- What is computed is a build of the model: each step is a working step, no run takes more than 17 steps a line, and its close ends it.
use Rattle.std.proofs.Common.{◌≡◌, ℕ, zero, suc, ◌+◌, ◌*◌, ◌<◌, ◌≤◌, Bool, true, false, cond, not, ◌&&◌, eqb, List, [], ◌∷◌, ◌++◌, length, find, is_some, Some, None, Ok, Option, sym, refl, ap, ◌∙◌, subst, inl, inr, ⊎_elim, append-nil, arith}
use Rattle.std.proofs.lemmas.Bool.{cases_lt, cases_Bool, both_ways, and_from, lt-ltb, not_from_false, eq-eqb}
use Rattle.std.proofs.lemmas.List.{length-append}
use Rattle.std.specs.List.{range_with_len}
use Rattle.model.specs.declared.answers.Stepped.{Stepped}
use Rattle.model.specs.declared.answers.Wish.TheVariants.{Keep}
use Rattle.model.specs.declared.command.Command.{Command}
use Rattle.model.specs.declared.refusal.Refusal.{Refusal}
use Rattle.model.specs.declared.run.Entry.{Entry}
use Rattle.model.specs.declared.run.Stop.{Stop}
use Rattle.model.specs.Hazards.{fresh, ended}
use Rattle.model.specs.Acts.{State, Outcome, goes, stops, reached, stop_of}
use Rattle.model.specs.Book.{reads_of}
use Rattle.model.specs.Policies.{Front, Answered}
use Rattle.model.specs.World.{World, lines}
use Rattle.model.specs.Begin.{begin_refusal, begun}
use Rattle.model.specs.Step.{left, all_ended, record_for, skipping, work, after_work}
use Rattle.model.specs.Close.{closing_open, closing_live, ClosesBy}
use Rattle.model.specs.Calls.{Did, on_begin, on_step, on_close}
use Rattle.model.specs.Past.{Past, call, after}
use Rattle.model.specs.Build.{Steps, no_step, a_step, executed, skipped, stepped, end, Whole, whole, Builds, refused, once, twice}
use Rattle.model.specs.Laws.{Room}
use Rattle.model.proofs.Adds.{Adds, most_new, work_adds}
use Rattle.model.proofs.Again.{begins_anywhere}
use Rattle.model.proofs.Asks.{Taken, Passed, served}
use Rattle.model.proofs.Moves.{Moved, work_moved, all_from}
use Rattle.model.proofs.Room.{room_is_left, log_has_room}
use Rattle.model.proofs.Sound.{left_parts}
use Rattle.proved_cases.specs.Runs.{Policy, script_order, Run, front_of, answered, stepped_on, unless_over, steps, run, closed_by, closed, after_first, begun_by, IsPolicy, ComputesBuilds}

-- THE FRONT

abbrev FoundFrom : (ℕ → Bool) → ℕ → ℕ → Option ℕ → Type 0
FoundFrom set n a (Some f) = (a ≤ f) × (set f ≡ true) × ((k : ℕ) → a ≤ k → k < f → set k ≡ false)
FoundFrom set n a None = (k : ℕ) → a ≤ k → k < a + n → set k ≡ false

found_later : (set : ℕ → Bool) (n a : ℕ) → set a ≡ false → (o : Option ℕ) → FoundFrom set n (a + 1) o → FoundFrom set (suc n) a o
found_later set n a e (Some f) h = (omega (arith, h.0), h.1, λ k le lt. ⊎_elim (λ more. h.2 k (omega arith) lt) (λ less. let is : k ≡ a = omega arith in rw is e) (cases_lt a k))
found_later set n a e None h = λ k le lt. ⊎_elim (λ more. h k (omega arith) (omega arith)) (λ less. let is : k ≡ a = omega arith in rw is e) (cases_lt a k)

found_from : (set : ℕ → Bool) (n a : ℕ) → FoundFrom set n a (find set (range_with_len a n))
found_from set zero a = λ k le lt. absurd (omega arith)
found_from set (suc n) a = by (set a) refl (found_from set n (a + 1))
  where
    by : (b : Bool) → set a ≡ b → FoundFrom set n (a + 1) (find set (range_with_len (a + 1) n)) → FoundFrom set (suc n) a (cond b (Some a) (find set (range_with_len (a + 1) n)))
    by true e h = (omega arith, e, λ k le lt. absurd (omega arith))
    by false e h = found_later set n a e (find set (range_with_len (a + 1) n)) h

front_is : (set : ℕ → Bool) (n f : ℕ) → FoundFrom set n 0 (Some f) → Front set f
front_is set n f h = record { member = h.1; lowest = λ k lt e. both_ways _ (h.2 k (omega arith) lt) e }

-- no line is left, so all have ended
none_left : (n : ℕ) (es : List Entry) → ((l : ℕ) → l < n → left n es l ≡ false) → all_ended n es ≡ true
none_left n es h = all_from n es (λ l lt. ⊎_elim (λ e. e) (λ e. absurd (both_ways _ (h l lt) (and_from _ _ (lt-ltb l n lt) (not_from_false _ e)))) (cases_Bool (ended l es)))

-- A STEP that goes on adds an entry
grows : (w : World) (l : ℕ) → left (lines w) w.entries l ≡ true → stop_of (work w l) ≡ None → length w.entries < length (reached (work w l)).entries
grows w l is_left none = by (work w l) refl none
  where
    adds : Adds (most_new (record_for w l)) l w.entries (reached (work w l)).entries
    adds = work_adds w l

    more : (s : State) → Moved l w.entries s.entries → (new : List Entry) → s.entries ≡ w.entries ++ new → length w.entries < length s.entries
    more s moved [] i =
        let same : s.entries ≡ w.entries = i ∙ append-nil w.entries in
        absurd (elim moved.own [
          | inl h ↦ both_ways _ (left_parts (lines w) w.entries l is_left).1 (rw same at h)
          | inr h ↦ omega (arith, h.1, ap (λ es. length (reads_of l es)) same)
        ])
    more s moved (e ∷ new) i = omega (arith, ap length i, length-append w.entries (e ∷ new))

    by : (o : Outcome) → work w l ≡ o → stop_of o ≡ None → length w.entries < length (reached o).entries
    by (goes s) e n = more s (work_moved w l s e) adds.new (sym (ap (λ o. (reached o).entries) e) ∙ adds.is)
    by (stops s y) e n = absurd (both_ways true (ap is_some n) refl)

-- A RUN ON ITS WAY, from a world that begin opened
record Reached (m n : ℕ) (cs : List Command) (u : World) (r : Run) : Type 0 where
  steps : Steps m n u r.passes r.world
  executes : executed steps ≡ r.executed
  skips : skipped steps ≡ r.skipped
  bound : r.passes ≤ m
  is_open : r.world.is_open ≡ true
  commands : r.world.notes.commands ≡ cs

-- it stopped, or all its lines have ended
abbrev Over : World → Type 0
Over w = w.notes.stop ≡ None → all_ended (lines w) w.entries ≡ true

module _ (p : Policy) (is_policy : IsPolicy p) (n : ℕ) (cs : List Command) (u x : World) (past : Past u) (begin : Did (on_begin cs None) u x) where
  -- one more step, where the front is f
  module _ (r : Run) (f : ℕ) (h : Reached p.patience n cs x r) (going : r.world.notes.stop ≡ None) (leads : Front (left (lines r.world) r.world.entries) f) where
    abbrev l : ℕ
    l = answered p f r

    abbrev passes : ℕ
    passes = cond (eqb l f) 0 (r.passes + 1)

    abbrev told : Stepped
    told = record { line = l; skipped = skipping (record_for r.world l); stop = stop_of (work r.world l) }

    answers : Answered (left (lines r.world) r.world.entries) f l (record { patience = p.patience; before = r.passes; after = passes })
    answers = is_policy (left (lines r.world) r.world.entries) f r.passes leads h.bound

    did : Did (on_step None (record { patience = p.patience; before = r.passes; after = passes }) (Ok told)) r.world (after_work r.world l (work r.world l))
    did = record { does = record { live = refl; is_open = h.is_open; going = going; front = f; leads = leads; answer = answers; skipped = refl; stop = refl; world = refl } }

    few : passes ≤ p.patience
    few = ⊎_elim
        (λ (t : Taken p.patience f l r.passes passes). omega (arith, t.zero))
        (λ (t : Passed p.patience f l r.passes passes). omega (arith, t.more, t.bound))
        (served (left (lines r.world) r.world.entries) p.patience f l r.passes passes answers)

    step_more : Reached p.patience n cs x (stepped_on f l r)
    step_more = record {
      steps = a_step h.steps passes told did;
      executes = ap (λ e. e + cond (not (skipping (record_for r.world l)) && fresh l r.world.entries) 1 0) h.executes;
      skips = ap (λ e. e + cond (skipping (record_for r.world l)) 1 0) h.skips;
      bound = few;
      is_open = refl;
      commands = h.commands;
    }

  -- with an entry for each of 17 steps a line, all lines have ended
  full : (r : Run) → Reached p.patience n cs x r → 17 * length cs ≤ length r.world.entries → all_ended (lines r.world) r.world.entries ≡ true
  full r h enough = all_from (lines r.world) r.world.entries (λ l lt. ⊎_elim (λ e. e) (λ e. absurd (at l lt e)) (cases_Bool (ended l r.world.entries)))
    where
      room : Room (lines r.world) r.world.log_places r.world.entries
      room = log_has_room r.world (after (call past (on_begin cs None) begin) (stepped h.steps)) h.is_open

      least : Room (lines r.world) (17 * lines r.world) r.world.entries
      least = record { enough = omega arith; inside = room.inside; few = room.few; fewer = room.fewer }

      at : (l : ℕ) → l < lines r.world → ended l r.world.entries ≡ false → ⊥
      at l lt e = omega (arith, enough, ap length h.commands, room_is_left (lines r.world) (17 * lines r.world) r.world.entries least l lt, room.fewer l e)

  goes_on : (k : ℕ) (r : Run) → Reached p.patience n cs x r → (r.world.notes.stop ≡ None → 17 * length cs ≤ length r.world.entries + k) → Reached p.patience n cs x (steps p k r) × Over (steps p k r).world
  goes_on zero r h enough = (h, λ none. full r h (omega (arith, enough none)))
  goes_on (suc k) r h enough = by r.world.notes.stop (front_of r.world) refl (found_from (left (lines r.world) r.world.entries) (lines r.world) 0) (goes_on k)
    where
      by : (y : Option Stop) (o : Option ℕ) → r.world.notes.stop ≡ y → FoundFrom (left (lines r.world) r.world.entries) (lines r.world) 0 o →
          ((t : Run) → Reached p.patience n cs x t → (t.world.notes.stop ≡ None → 17 * length cs ≤ length t.world.entries + k) → Reached p.patience n cs x (steps p k t) × Over (steps p k t).world) →
          Reached p.patience n cs x (unless_over y o r (λ f. steps p k (stepped_on f (answered p f r) r))) × Over (unless_over y o r (λ f. steps p k (stepped_on f (answered p f r) r))).world
      by (Some y) o e found ih = (h, λ none. absurd (both_ways true (ap is_some (sym e ∙ none)) refl))
      by None None e found ih = (h, λ none. none_left (lines r.world) r.world.entries (λ l lt. found l (omega arith) (omega arith)))
      by None (Some f) e found ih =
          let leads = front_is (left (lines r.world) r.world.entries) (lines r.world) f found in
          let l = answered p f r in
          let member = (is_policy (left (lines r.world) r.world.entries) f r.passes leads h.bound).member leads in
          ih (stepped_on f (answered p f r) r) (step_more r f h e leads) (λ none. omega (arith, enough e, grows r.world l member none))

-- A WHOLE RUN

-- its close
closes_open : (w : World) (y : Option Stop) (done : Bool) → (y ≡ None → done ≡ true) → ClosesBy (closing_open y Keep done) (end y) w (closed_by (closing_open y Keep done) w)
closes_open w (Some y) done h = (refl, refl)
closes_open w None true h = (refl, refl)
closes_open w None false h = absurd (both_ways false refl (h refl))

closes : (w : World) → w.is_open ≡ true → Over w → Did (on_close None Keep (end w.notes.stop)) w (closed w)
closes w is_open over = record {
  does = subst (λ b. ClosesBy (closing_live b Keep w) (end w.notes.stop) w (closed_by (closing_live b Keep w) w)) (sym is_open) (closes_open w w.notes.stop (all_ended (lines w) w.entries) over);
}

record WholeRun (p : Policy) (n : ℕ) (cs : List Command) (u : World) : Type 0 where
  begin : Did (on_begin cs None) u (begun cs u)
  reached : Reached p.patience n cs (begun cs u) (run p n cs u)
  over : Over (run p n cs u).world

whole_run : (p : Policy) → IsPolicy p → (n : ℕ) → n ≤ p.patience → (cs : List Command) → length cs ≤ 64 → (u : World) → Past u → begin_refusal cs u ≡ None → WholeRun p n cs u
whole_run p is_policy n bound cs few u past accepted =
    let begin : Did (on_begin cs None) u (begun cs u) = record { does = (accepted, few, refl) } in
    let h =
    goes_on p is_policy n cs u (begun cs u) past begin (17 * length cs) (record { world = begun cs u; passes = n; executed = 0; skipped = 0 })
    (record { steps = no_step; executes = refl; skips = refl; bound = bound; is_open = refl; commands = refl })
    (λ none. omega arith) in
    record { begin = begin; reached = h.0; over = h.1 }

module _ {p : Policy} {n : ℕ} {cs : List Command} {u : World} (h : WholeRun p n cs u) where
  abbrev r : Run
  r = run p n cs u

  abbrev as_whole : (y : Option Stop) → r.world.notes.stop ≡ y → Whole cs p.patience n y u (closed r.world)
  as_whole y e = record {
    opened = begun cs u;
    begin = h.begin;
    passes = r.passes;
    last = r.world;
    steps = h.reached.steps;
    close = subst (λ z. Did (on_close None Keep (end z)) r.world (closed r.world)) e (closes r.world h.reached.is_open h.over);
  }

-- BUILDS

-- an answer with the front is always one of a policy
pub front_answered : (set : ℕ → Bool) (front patience passes : ℕ) → passes ≤ patience → Answered set front front (record { patience = patience; before = passes; after = cond (eqb front front) 0 (passes + 1) })
front_answered set front patience passes bound =
    rw (eq-eqb front front refl) (record { bound = bound; member = λ f. f.member; due = λ e. refl; astray = λ no. refl; taken = λ e. refl; passed = λ ne. absurd (ne refl) })

pub script_order_is_policy : IsPolicy script_order
script_order_is_policy set front passes leads bound = front_answered set front 0 passes bound

pub computes_builds : ComputesBuilds
computes_builds p is_policy n bound cs few u past = by (begin_refusal cs u) refl
  where
    by : (o : Option Refusal) → begin_refusal cs u ≡ o → Builds cs p.patience n u (begun_by o p n cs u).answer (begun_by o p n cs u).passes (begun_by o p n cs u).world
    by (Some why) e = refused why (record { does = (e, refl) })
    by None e = last (run p n cs u).world.notes.stop refl
      where
        first : WholeRun p n cs u
        first = whole_run p is_policy n bound cs few u past e

        last : (y : Option Stop) → (run p n cs u).world.notes.stop ≡ y →
            Builds cs p.patience n u (after_first y cs (run p n cs u)).answer (after_first y cs (run p n cs u)).passes (after_first y cs (run p n cs u)).world
        last None i = rw (← first.reached.executes, ← first.reached.skips) (once (as_whole first None i))
        last (Some y) i =
            let again : begin_refusal cs (closed (run p n cs u).world) ≡ None = begins_anywhere u (closed (run p n cs u).world) cs p.patience n y (as_whole first (Some y) i) in
            let second : WholeRun script_order 0 cs (closed (run p n cs u).world) =
            whole_run script_order script_order_is_policy 0 (omega arith) cs few (closed (run p n cs u).world) (after past (whole (as_whole first (Some y) i))) again in
            rw (← first.reached.executes, ← first.reached.skips, ← second.reached.executes, ← second.reached.skips)
            (twice y (run script_order 0 cs (closed (run p n cs u).world)).world.notes.stop (as_whole first (Some y) i) (as_whole second _ refl))
