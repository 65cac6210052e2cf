-- What a step of the run comes to: the policy is asked of the lines that are left, or no line is left and the step is refused.
use Rattle.std.proofs.Common.{◌≡◌, ℕ, Bool, true, false, List, Some, None, Ok, Err, sym, refl, ◌∙◌, inl, inr}
use Rattle.std.proofs.lemmas.Bool.{lt-ltb, cases_Bool}
use Rattle.model.specs.Acts.{stop_of}
use Rattle.model.specs.Begin.{Ticket}
use Rattle.model.specs.Hazards.{ended}
use Rattle.model.specs.Policies.{Asked, Front, Answered}
use Rattle.model.specs.Promise.{StepPromised}
use Rattle.model.specs.Step.{left, all_ended, step_refusal, record_for, skipping, work, after_work}
use Rattle.model.specs.World.{World, lines}
use Rattle.model.specs.declared.answers.Stepped.{Stepped}
use Rattle.model.specs.declared.answers.StepRefusal.{StepRefusal}
use Rattle.model.specs.declared.answers.StepRefusal.TheVariants.{By, Stopped}
use Rattle.model.specs.declared.refusal.Refusal.{Refusal}
use Rattle.model.specs.declared.refusal.Refusal.TheVariants.{LinesEnded, NoRun}
use Rattle.model.specs.declared.run.Entry.{Entry}
use Rattle.model.specs.declared.run.Stop.{Stop}
use Rattle.model.proofs.Moves.{all_from}
use Rattle.model.proofs.Promises.{step_promised}

-- THE SAME SET, line by line
module _ (s t : ℕ → Bool) (same : (k : ℕ) → s k ≡ t k) (f : ℕ) where
  front_as : Front s f → Front t f
  front_as h = record { member = sym (same f) ∙ h.member; lowest = λ k lt m. h.lowest k lt (same k ∙ m) }

  front_back : Front t f → Front s f
  front_back h = record { member = same f ∙ h.member; lowest = λ k lt m. h.lowest k lt (sym (same k) ∙ m) }

  answered_as : (l : ℕ) (a : Asked) → Answered s f l a → Answered t f l a
  answered_as l a h =
      record {
        bound = h.bound;
        member = λ m. sym (same l) ∙ h.member (front_back m);
        due = h.due;
        astray = λ no. h.astray (λ m. no (front_as m));
        taken = h.taken;
        passed = h.passed;
      }

pub none_left : (n : ℕ) (es : List Entry) → ((k : ℕ) → left n es k ≡ true → ⊥) → all_ended n es ≡ true
none_left n es none = all_from n es (λ l lt. elim (cases_Bool (ended l es)) [ inl e ↦ e | inr e ↦ absurd (none l (rw (lt-ltb l n lt, e))) ])

-- A STEP, by the ticket and the run
module _ (t : Ticket) (w : World) where
  pub refused_by : (a : Asked) (r : StepRefusal) → step_refusal t w ≡ Some r → a.after ≡ a.before → StepPromised t a (Err r) w w
  refused_by a r e unasked = step_promised (Err r) (record { does = (e, unasked, refl) })

  pub blank : (r : Refusal) → t ≡ Some r → step_refusal t w ≡ Some (By r)
  blank r e = rw e

  module _ (live : t ≡ None) where
    pub shut : w.is_open ≡ false → step_refusal t w ≡ Some (By NoRun)
    shut e = rw (live, e)

    module _ (is_open : w.is_open ≡ true) where
      pub stopped : (y : Stop) → w.notes.stop ≡ Some y → step_refusal t w ≡ Some (Stopped y)
      stopped y e = rw (live, is_open, e)

      -- of a run that has not stopped, over the set of the lines that are left
      module _ (going : w.notes.stop ≡ None) (s : ℕ → Bool) (same : (k : ℕ) → s k ≡ left (lines w) w.entries k) where
        pub over : ((k : ℕ) → s k ≡ true → ⊥) → step_refusal t w ≡ Some (By LinesEnded)
        over none =
            let all : all_ended (lines w) w.entries ≡ true = none_left (lines w) w.entries (λ k m. none k (same k ∙ m)) in
            rw (live, is_open, going, all)

        pub worked :
            (a : Asked) (front line : ℕ) (r : Stepped) (v : World) → Front s front → Answered s front line a → r.line ≡ line → r.skipped ≡ skipping (record_for w line) → r.stop ≡ stop_of (work w line) → v ≡ after_work w line (work w line) →
            StepPromised t a (Ok r) w v
        worked a front line r v leads answer e skips stops after =
            step_promised (Ok r) (record {
              does = record {
                live = live;
                is_open = is_open;
                going = going;
                front = front;
                leads = front_as s (left (lines w) w.entries) same front leads;
                answer = rw e (answered_as s (left (lines w) w.entries) same front line a answer);
                skipped = rw e skips;
                stop = rw e stops;
                world = rw e after;
              };
            })
