-- What a working step that goes on does to the entries: those of other lines stay, and its own line comes nearer to its end.
use Rattle.std.proofs.Common.{◌≡◌, ℕ, zero, suc, ◌<◌, Bool, true, false, cond, eqb, ◌⊎◌, List, [], ◌∷◌, ◌++◌, length, Some, None, Option, sym, refl, ap, ◌∙◌, subst, inl, inr, ⊎_elim, arith}
use Rattle.std.proofs.lemmas.Bool.{cases_Bool, both_ways, and_from, eq-eqb, ne_eqb, lt-ltb, not_from_false, or_right}
use Rattle.std.proofs.Math.Bool.{or-false}
use Rattle.model.specs.declared.command.Command.{Command}
use Rattle.model.specs.declared.run.Entry.{Entry}
use Rattle.model.specs.declared.run.Hazard.{Hazard}
use Rattle.model.specs.Contents.{Pool, content}
use Rattle.model.specs.Commands.{wants}
use Rattle.model.specs.Hazards.{has_read, ended, hazard}
use Rattle.model.specs.Acts.{State, goes, tested, noted, written, act}
use Rattle.model.specs.Records.{Use, Record}
use Rattle.model.specs.Book.{use_of, reads_of}
use Rattle.model.specs.Policies.{Front}
use Rattle.model.specs.World.{World, state}
use Rattle.model.specs.Step.{skip, entry, left, all_ended, record_for, work_by, work}
use Rattle.model.proofs.Script.{ReadAct, WriteAct, was, nearer, ended_more}
use Rattle.model.proofs.Correspond.{not_goes, goes_is}
use Rattle.model.proofs.Sound.{left_parts}

count_reads : (p : Pool) (l : ℕ) (es : List Entry) → length (has_read p l es) ≡ length (reads_of l es)
count_reads p l [] = refl
count_reads p l (e ∷ es) = by (eqb l e.line) e.wrote (count_reads p l es)
  where
    by : (b c : Bool) → length (has_read p l es) ≡ length (reads_of l es) →
        length (cond b (cond c (has_read p l es) (content p e.number ∷ has_read p l es)) (has_read p l es)) ≡ length (cond b (cond c (reads_of l es) (use_of e ∷ reads_of l es)) (reads_of l es))
    by true true h = h
    by true false h = omega arith
    by false c h = h

reads_other : (m : ℕ) (es : List Entry) (e : Entry) → eqb m e.line ≡ false → reads_of m (es ++ e ∷ []) ≡ reads_of m es
reads_other m [] e h = rw h
reads_other m (d ∷ es) e h = rw (reads_other m es e h)

ended_other : (m : ℕ) (es : List Entry) (e : Entry) → eqb m e.line ≡ false → ended m (es ++ e ∷ []) ≡ ended m es
ended_other m es e h = ended_more m es (e ∷ []) ∙ rw h (or-false (ended m es))

-- what a working step that goes on does to the entries
pub record Moved (l : ℕ) (es ds : List Entry) : Type 0 where
  pub others : (m : ℕ) → (m ≡ l → ⊥) → (reads_of m ds ≡ reads_of m es) × (ended m ds ≡ ended m es)
  pub own : (ended l ds ≡ true) ⊎ ((length (reads_of l es) < 16) × (length (reads_of l ds) ≡ suc (length (reads_of l es))))

others_one : (l : ℕ) (es : List Entry) (e : Entry) → e.line ≡ l → (m : ℕ) → (m ≡ l → ⊥) → (reads_of m (es ++ e ∷ []) ≡ reads_of m es) × (ended m (es ++ e ∷ []) ≡ ended m es)
others_one l es e i m ne = let h : eqb m e.line ≡ false = ne_eqb m e.line (λ j. ne (j ∙ i)) in (reads_other m es e h, ended_other m es e h)

act_moved : (cs : List Command) (l : ℕ) (s r : State) → act (wants cs l) l s ≡ goes r → Moved l s.entries r.entries
act_moved cs l s r e = record {
  others = ⊎_elim
      (λ (a : ReadAct cs l s r). rw a.is (others_one l s.entries (record { line = l; wrote = false; file = a.file; number = a.number }) refl))
      (λ (a : WriteAct cs l s r). rw a.is (others_one l s.entries (record { line = l; wrote = true; file = a.file; number = suc a.number }) refl))
      (was cs l s r e);
  own = ⊎_elim
      (λ i. inl i)
      (λ i. inr (rw (count_reads s.pool l s.entries) at i.0, sym (count_reads r.pool l r.entries) ∙ i.1 ∙ ap suc (count_reads s.pool l s.entries)))
      (nearer cs l s r e);
}

-- a skip that goes on ends its line
abbrev pub Ends : ℕ → List Entry → List Entry → Type 0
Ends l es ds = ((m : ℕ) → (m ≡ l → ⊥) → (reads_of m ds ≡ reads_of m es) × (ended m ds ≡ ended m es)) × (ended l ds ≡ true)

pub skip_ends : (l : ℕ) (rs : List Use) (u : Use) (s r : State) → skip l rs u s ≡ goes r → Ends l s.entries r.entries
skip_ends l [] u s r e = by (hazard (entry l true u) s.entries) e
  where
    by : (m : Option Hazard) → tested l (written (entry l true u) s.pool s) m (goes (written (entry l true u) s.pool s)) ≡ goes r → Ends l s.entries r.entries
    by (Some h) k = not_goes k
    by None k = subst (λ x. Ends l s.entries x.entries) (goes_is k) (others_one l s.entries (entry l true u) refl, ended_more l s.entries (entry l true u ∷ []) ∙ rw (eq-eqb l l refl) (or_right _ true refl))
skip_ends l (q ∷ rs) u s r e = by (hazard (entry l false q) s.entries) e (skip_ends l rs u (noted (entry l false q) s) r)
  where
    by : (m : Option Hazard) → tested l (noted (entry l false q) s) m (skip l rs u (noted (entry l false q) s)) ≡ goes r → (skip l rs u (noted (entry l false q) s) ≡ goes r → Ends l (s.entries ++ entry l false q ∷ []) r.entries) → Ends l s.entries r.entries
    by (Some h) k ih = not_goes k
    by None k ih =
        let i = ih k in
        (λ m ne. let a = others_one l s.entries (entry l false q) refl m ne in ((i.0 m ne).0 ∙ a.0, (i.0 m ne).1 ∙ a.1), i.1)

pub work_moved : (w : World) (l : ℕ) (s : State) → work w l ≡ goes s → Moved l w.entries s.entries
work_moved w l s e = by (record_for w l) e
  where
    by : (q : Option Record) → work_by q w.notes.commands l (state w) ≡ goes s → Moved l w.entries s.entries
    by None k = act_moved w.notes.commands l (state w) s k
    by (Some q) k = let i = skip_ends l q.reads q.write (state w) s k in record { others = i.0; own = inl i.1 }

pub moved_ended : (l : ℕ) (es ds : List Entry) → Moved l es ds → ended l es ≡ false → (m : ℕ) → ended m es ≡ true → ended m ds ≡ true
moved_ended l es ds h still m e = (h.others m (λ i. both_ways _ still (rw i at e))).1 ∙ e

pub all_from : (n : ℕ) (es : List Entry) → ((l : ℕ) → l < n → ended l es ≡ true) → all_ended n es ≡ true
all_from zero es h = refl
all_from (suc n) es h = and_from _ _ (h n (omega arith)) (all_from n es (λ l lt. h l (omega arith)))

-- the lines below the front have ended
pub front_below : (n : ℕ) (es : List Entry) (f : ℕ) → Front (left n es) f → (k : ℕ) → k < f → ended k es ≡ true
front_below n es f h k lt =
    let m = left_parts n es f h.member in
    ⊎_elim (λ e. e) (λ e. absurd (h.lowest k lt (and_from _ _ (lt-ltb k n (omega (arith, m.0))) (not_from_false _ e)))) (cases_Bool (ended k es))
