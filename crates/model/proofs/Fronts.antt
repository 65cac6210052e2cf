-- How often a line is the front of a run whose steps all ask one policy.
use Rattle.std.proofs.Common.{◌≡◌, ℕ, suc, ◌+◌, ◌*◌, ◌<◌, ◌≤◌, true, false, cond, ◌&&◌, List, length, Some, None, Ok, Err, sym, refl, ap, ◌∙◌, ⊎_elim, mul-le-mul_right, suc-mul, arith}
use Rattle.std.proofs.lemmas.Bool.{cases_Bool, cases_eq, cases_order, both_ways, and_parts, and_from}
use Rattle.model.specs.declared.run.Entry.{Entry}
use Rattle.model.specs.declared.answers.Stepped.{Stepped}
use Rattle.model.specs.Hazards.{ended}
use Rattle.model.specs.Acts.{State, Outcome, goes, stops}
use Rattle.model.specs.Book.{reads_of}
use Rattle.model.specs.Policies.{Asked}
use Rattle.model.specs.World.{World, lines}
use Rattle.model.specs.Begin.{Ticket}
use Rattle.model.specs.Step.{Worked, left, all_ended, work, after_work}
use Rattle.model.specs.Calls.{Call, on_lay, on_load, on_audit, on_begin, on_step, on_close, Does}
use Rattle.model.specs.Past.{Past, new, call, is_front, fronts_by, fronts, OneBy, OnePolicy}
use Rattle.model.specs.Promise.{NoLineStarves}
use Rattle.model.proofs.Changes.{Change, same, lay_done, load_done, audit_done, back_done, keep_done, lay_change, load_change, audit_change, ending, close_change}
use Rattle.model.proofs.Sound.{left_parts, all_below}
use Rattle.model.proofs.Moves.{Moved, work_moved, moved_ended, all_from, front_below}

-- THE COUNT

-- line f was the front of c working steps
pub record Few (m n f c : ℕ) (w : World) : Type 0 where
  pub most : c ≤ 17 * (m + 1)
  pub held : w.is_open ≡ true → w.notes.stop ≡ None → ended f w.entries ≡ false → c ≤ length (reads_of f w.entries) * (m + 1) + cond (all_ended f w.entries) n 0
  pub short : w.is_open ≡ true → w.notes.stop ≡ None → (l : ℕ) → ended l w.entries ≡ false → length (reads_of l w.entries) ≤ 16

module _ (w v : World) (t : Ticket) (a : Asked) (st : Stepped) (f k : ℕ) (d : Worked t a st w v) (ih : Few a.patience a.before f k w) where
  abbrev es : List Entry
  es = w.entries

  abbrev n : ℕ
  n = lines w

  front_still : ended d.front es ≡ false
  front_still = (left_parts n es d.front d.leads.member).1

  line_still : ended st.line es ≡ false
  line_still = (left_parts n es st.line (d.answer.member d.leads)).1

  below : (i : ℕ) → i < d.front → ended i es ≡ true
  below = front_below n es d.front d.leads

  reads_few : (l : ℕ) → ended l es ≡ false → length (reads_of l es) ≤ 16
  reads_few = ih.short d.is_open d.going

  abbrev reads : ℕ
  reads = length (reads_of f es)

  -- f is the front
  module _ (e : d.front ≡ f) where
    f_still : ended f es ≡ false
    f_still = rw e at front_still

    counted : k ≤ reads * (a.patience + 1) + a.before
    counted = rw (all_from f es (λ i lt. below i (omega arith))) at (ih.held d.is_open d.going f_still)

    here_most : k + 1 ≤ 17 * (a.patience + 1)
    here_most = omega (arith, counted, d.answer.bound, mul-le-mul_right (a.patience + 1) (reads_few f f_still))

    here_held : (s : State) → Moved st.line es s.entries → ended f s.entries ≡ false → k + 1 ≤ length (reads_of f s.entries) * (a.patience + 1) + cond (all_ended f s.entries) a.after 0
    here_held s m o = ⊎_elim taken passed (cases_eq st.line f)
      where
        taken : st.line ≡ f → k + 1 ≤ length (reads_of f s.entries) * (a.patience + 1) + cond (all_ended f s.entries) a.after 0
        taken i = ⊎_elim
            (λ j. absurd (both_ways _ o (rw i at j)))
            (λ (j : (length (reads_of st.line es) < 16) × (length (reads_of st.line s.entries) ≡ suc (length (reads_of st.line es)))). let more : length (reads_of f s.entries) ≡ suc reads = rw i at j.1 in rw (more, suc-mul reads (a.patience + 1)) (omega (arith, counted, d.answer.bound)))
            m.own

        passed : (st.line ≡ f → ⊥) → k + 1 ≤ length (reads_of f s.entries) * (a.patience + 1) + cond (all_ended f s.entries) a.after 0
        passed ne =
            let still_front : all_ended f s.entries ≡ true = all_from f s.entries (λ i lt. moved_ended st.line es s.entries m line_still i (below i (omega arith))) in
            let after = d.answer.passed (λ i. ne (i ∙ e)) in
            rw ((m.others f (λ i. ne (sym i))).0, still_front, after) (omega (arith, counted))

  -- it is not
  module _ (ne : d.front ≡ f → ⊥) where
    there_held : (s : State) → Moved st.line es s.entries → ended f s.entries ≡ false → k ≤ length (reads_of f s.entries) * (a.patience + 1) + cond (all_ended f s.entries) a.after 0
    there_held s m o =
        let still : ended f es ≡ false = ⊎_elim (λ i. absurd (both_ways _ o (moved_ended st.line es s.entries m line_still f i))) (λ i. i) (cases_Bool (ended f es)) in
        let above : d.front < f = ⊎_elim (λ i. absurd (ne i)) (⊎_elim (λ i. i) (λ i. absurd (both_ways _ still (below f i)))) (cases_order d.front f) in
        let not_all : all_ended f es ≡ false = ⊎_elim (λ i. absurd (both_ways _ front_still (all_below f es i d.front above))) (λ i. i) (cases_Bool (all_ended f es)) in
        let before : k ≤ reads * (a.patience + 1) + 0 = rw not_all at (ih.held d.is_open d.going still) in
        ⊎_elim
        (λ (i : st.line ≡ f). ⊎_elim
        (λ j. absurd (both_ways _ o (rw i at j)))
        (λ (j : (length (reads_of st.line es) < 16) × (length (reads_of st.line s.entries) ≡ suc (length (reads_of st.line es)))). let more : length (reads_of f s.entries) ≡ suc reads = rw i at j.1 in rw (more, suc-mul reads (a.patience + 1)) (omega (arith, before)))
        m.own)
        (λ (i : st.line ≡ f → ⊥). rw (m.others f (λ j. i (sym j))).0 (omega (arith, before)))
        (cases_eq st.line f)

  leads_yes : d.front ≡ f → is_front f w ≡ true
  leads_yes e = rw d.is_open (and_from _ _ (rw e at d.leads.member) (all_from f es (λ i lt. below i (omega arith))))

  leads_no : (d.front ≡ f → ⊥) → is_front f w ≡ false
  leads_no ne = rw d.is_open (⊎_elim (λ i. absurd (other (and_parts _ _ i))) (λ i. i) (cases_Bool (left n es f && all_ended f es)))
    where
      other : (left n es f ≡ true) × (all_ended f es ≡ true) → ⊥
      other h = ⊎_elim ne (⊎_elim (λ lt. both_ways _ front_still (all_below f es h.1 d.front lt)) (λ lt. d.leads.lowest f lt h.0)) (cases_order d.front f)

  few_most : cond (is_front f w) (k + 1) k ≤ 17 * (a.patience + 1)
  few_most = ⊎_elim (λ e. rw (leads_yes e) (here_most e)) (λ ne. rw (leads_no ne) ih.most) (cases_eq d.front f)

  few_held : (s : State) → Moved st.line es s.entries → ended f s.entries ≡ false → cond (is_front f w) (k + 1) k ≤ length (reads_of f s.entries) * (a.patience + 1) + cond (all_ended f s.entries) a.after 0
  few_held s m o = ⊎_elim (λ e. rw (leads_yes e) (here_held e s m o)) (λ ne. rw (leads_no ne) (there_held ne s m o)) (cases_eq d.front f)

  few_short : (s : State) → Moved st.line es s.entries → (l : ℕ) → ended l s.entries ≡ false → length (reads_of l s.entries) ≤ 16
  few_short s m l o = ⊎_elim own other (cases_eq l st.line)
    where
      own : l ≡ st.line → length (reads_of l s.entries) ≤ 16
      own i = rw i (⊎_elim (λ j. absurd (both_ways _ o (rw i j))) (λ j. omega (arith, j.0, j.1)) m.own)

      other : (l ≡ st.line → ⊥) → length (reads_of l s.entries) ≤ 16
      other ne = rw (m.others l ne).0 (reads_few l (sym (m.others l ne).1 ∙ o))

  few_step : Few a.patience a.after f (cond (is_front f w) (k + 1) k) v
  few_step = rw d.world (by (work w st.line) refl)
    where
      by : (u : Outcome) → work w st.line ≡ u → Few a.patience a.after f (cond (is_front f w) (k + 1) k) (after_work w st.line u)
      by (goes s) e =
          let m = work_moved w st.line s e in
          record { most = few_most; held = λ i j. few_held s m; short = λ i j. few_short s m }
      by (stops s y) e = record {
        most = few_most;
        held = λ i j. let z : ◌≡◌ {A = ℕ} 0 1 = cc in absurd (omega arith);
        short = λ i j. let z : ◌≡◌ {A = ℕ} 0 1 = cc in absurd (omega arith);
      }

-- ANY CALL

module _ (w v : World) (m n f k : ℕ) where
  -- a call that leaves the log alone, or one that closes the run
  few_kept : v.is_open ≡ w.is_open → v.notes ≡ w.notes → v.entries ≡ w.entries → Few m n f k w → Few m n f k v
  few_kept e x i h = record { most = h.most; held = λ r j. rw i (h.held (sym e ∙ r) (ap (λ z. z.stop) (sym x) ∙ j)); short = λ r j. rw i (h.short (sym e ∙ r) (ap (λ z. z.stop) (sym x) ∙ j)) }

  few_shut : v.is_open ≡ false → Few m n f k w → Few m n f k v
  few_shut e h = record { most = h.most; held = λ r j. absurd (both_ways _ e r); short = λ r j. absurd (both_ways _ e r) }

  few_change : Change w v → Few m n f k w → Few m n f k v
  few_change (same e) h = rw e h
  few_change (lay_done hs s c e i) h = few_kept (ap (λ x. x.is_open) i) (ap (λ x. x.notes) i) (ap (λ x. x.entries) i) h
  few_change (load_done t p c e l i) h = few_kept (ap (λ x. x.is_open) i) (ap (λ x. x.notes) i) (ap (λ x. x.entries) i) h
  few_change (audit_done j r c e i) h = few_kept (ap (λ x. x.is_open) i) (ap (λ x. x.notes) i) (ap (λ x. x.entries) i) h
  few_change (back_done c i) h = few_shut (ap (λ x. x.is_open) i) h
  few_change (keep_done c g a i) h = few_shut (ap (λ x. x.is_open) i) h

few_by : (w v : World) (c : Call) (m n f k : ℕ) (Before : ℕ → Type 0) → Does c w v → ((j : ℕ) → Before j → Few m j f k w) → OneBy m n c Before → Few m n f (fronts_by f c w k) v
few_by w v (on_lay hs a) m n f k B d ih one = few_change w v m n f k (lay_change w v hs a d) (ih n one)
few_by w v (on_load t a) m n f k B d ih one = few_change w v m n f k (load_change w v t a d) (ih n one)
few_by w v (on_audit i a) m n f k B d ih one = few_change w v m n f k (audit_change w v i a d) (ih n one)
few_by w v (on_begin cs None) m n f k B d ih one = rw d.2 (record { most = omega arith; held = λ i j e. omega arith; short = λ i j l e. omega arith })
few_by w v (on_begin cs (Some r)) m n f k B d ih one = few_change w v m n f k (same d.1) (ih n one)
few_by w v (on_step t a (Ok st)) m n f k B d ih one = rw (← one.0, ← one.1) (few_step w v t a st f k d (rw one.0 (ih a.before one.2)))
few_by w v (on_step t a (Err r)) m n f k B d ih one = few_change w v m n f k (same d.2) (ih n one)
few_by w v (on_close t wish a) m n f k B d ih one = few_change w v m n f k (close_change t a w v (ending t a w v wish d)) (ih n one)

few : {w : World} (p : Past w) (m n f : ℕ) → OnePolicy m n p → Few m n f (fronts f p) w
few (new {w} e) m n f one = record { most = omega arith; held = λ i j. absurd (both_ways _ e.is_open i); short = λ i j. absurd (both_ways _ e.is_open i) }
few (call {w} {v} p c d) m n f one = few_by w v c m n f (fronts f p) (λ j. OnePolicy m j p) d.does (λ j. few p m j f) one

pub no_line_starves : NoLineStarves
no_line_starves w p f m n one = (few p m n f one).most
