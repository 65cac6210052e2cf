-- The log of an open run has room for all that its lines have left, since no line makes more than 17 acts.
use Rattle.std.proofs.Common.{◌≡◌, ℕ, zero, suc, ◌+◌, ◌*◌, ◌<◌, ◌≤◌, Bool, true, false, cond, not, ◌&&◌, ◌||◌, eqb, leb, List, [], ◌∷◌, ◌++◌, length, Some, None, Option, sym, refl, ap, ◌∙◌, subst, ⊎_elim, arith}
use Rattle.std.proofs.lemmas.Bool.{cases_eq, cases_lt, both_ways, eq-eqb, ne_eqb, and_parts, not-true, or_right}
use Rattle.model.specs.declared.command.Command.{Command}
use Rattle.model.specs.declared.run.Entry.{Entry}
use Rattle.model.specs.declared.run.Hazard.{Hazard}
use Rattle.model.specs.declared.run.Fault.TheVariants.{TooLong}
use Rattle.model.specs.Contents.{Pool, content, given, put}
use Rattle.model.specs.Commands.{Want, reads, writes, bad, wants}
use Rattle.model.specs.Hazards.{fresh, ended, has_read, hazard}
use Rattle.model.specs.Acts.{State, goes, stops, reached, stop_at, tested, noted, written, writing, attempt, act}
use Rattle.model.specs.Records.{Use, Record}
use Rattle.model.specs.World.{World, state, lines}
use Rattle.model.specs.Step.{entry, skip, left, record_for, work_by, work}
use Rattle.model.specs.Past.{Past, found}
use Rattle.model.specs.Laws.{acts_made, Room, RoomIsLeft, RoomIsKept, LogHasRoom}
use Rattle.model.proofs.Brief.{brief}
use Rattle.model.proofs.Script.{ended_more}
use Rattle.model.proofs.Skip.{skips_fresh, skips_at_is, skips_few}
use Rattle.model.proofs.Changes.{open_law}
use Rattle.model.proofs.Sound.{sound, ready, left_parts, own_true_now}
use Rattle.model.proofs.Adds.{Of, Adds, work_adds, act_adds, skip_adds, adds_other}

-- COUNTING ENTRIES

made_more : (l : ℕ) (es ds : List Entry) → acts_made l (es ++ ds) ≡ acts_made l es + acts_made l ds
made_more l [] ds = omega arith
made_more l (e ∷ es) ds = let h = made_more l es ds in omega arith

made_of : (l : ℕ) (es : List Entry) → Of l es → acts_made l es ≡ length es
made_of l [] h = refl
made_of l (e ∷ es) h = rw (eq-eqb l e.line (sym h.0), made_of l es h.1) (omega arith)

made_other : (l m : ℕ) → (m ≡ l → ⊥) → (es : List Entry) → Of l es → acts_made m es ≡ 0
made_other l m ne [] h = refl
made_other l m ne (e ∷ es) h = rw (ne_eqb m e.line (λ i. ne (i ∙ h.0)), made_other l m ne es h.1) (omega arith)

adds_made : (n l : ℕ) (es ds : List Entry) → Adds n l es ds → acts_made l ds ≤ acts_made l es + n
adds_made n l es ds a = rw (a.is, made_more l es a.new, made_of l a.new a.of) (omega (arith, a.few))

adds_made_other : (n l : ℕ) (es ds : List Entry) → Adds n l es ds → (m : ℕ) → (m ≡ l → ⊥) → acts_made m ds ≡ acts_made m es
adds_made_other n l es ds a m ne = rw (a.is, made_more m es a.new, made_other l m ne a.new a.of) (omega arith)

pub made_fresh : (l : ℕ) (es : List Entry) → fresh l es ≡ true → acts_made l es ≡ 0
made_fresh l [] h = refl
made_fresh l (e ∷ es) h = let b = and_parts (not (eqb l e.line)) (fresh l es) h in rw (not-true _ b.0, made_fresh l es b.1) (omega arith)

-- a line that has not ended has only read
pub made_read : (p : Pool) (l : ℕ) (es : List Entry) → ended l es ≡ false → acts_made l es ≡ length (has_read p l es)
made_read p l [] h = refl
made_read p l (e ∷ es) h = by (eqb l e.line) e.wrote h (made_read p l es)
  where
    by : (b c : Bool) → ((b && c) || ended l es) ≡ false → (ended l es ≡ false → acts_made l es ≡ length (has_read p l es)) →
        cond b 1 0 + acts_made l es ≡ length (cond b (cond c (has_read p l es) (content p e.number ∷ has_read p l es)) (has_read p l es))
    by true true h ih = absurd (both_ways true h refl)
    by true false h ih = let k = ih h in omega arith
    by false c h ih = let k = ih h in omega arith

-- the acts of the first n lines
abbrev pub total : ℕ → List Entry → ℕ
total zero es = 0
total (suc n) es = acts_made n es + total n es

total_none : (n : ℕ) → total n [] ≡ 0
total_none zero = refl
total_none (suc n) = let h = total_none n in omega arith

total_above : (n : ℕ) (e : Entry) (es : List Entry) → n ≤ e.line → total n (e ∷ es) ≡ total n es
total_above zero e es h = refl
total_above (suc n) e es h = rw (ne_eqb n e.line (λ i. omega arith), total_above n e es (omega arith)) (omega arith)

total_below : (n : ℕ) (e : Entry) (es : List Entry) → e.line < n → total n (e ∷ es) ≡ suc (total n es)
total_below zero e es h = absurd (omega arith)
total_below (suc n) e es h = ⊎_elim
    (λ (lt : e.line < n). rw (ne_eqb n e.line (λ i. omega arith), total_below n e es lt) (omega arith))
    (λ (le : n ≤ e.line). let same : n ≡ e.line = omega arith in rw (eq-eqb n e.line same, total_above n e es le) (omega arith))
    (cases_lt e.line n)

pub total_all : (n : ℕ) (es : List Entry) → ((l : ℕ) → n ≤ l → acts_made l es ≡ 0) → total n es ≡ length es
total_all n [] h = total_none n
total_all n (e ∷ es) h =
    let here : e.line < n = ⊎_elim (λ lt. lt) (λ (le : n ≤ e.line). let k : 1 + acts_made e.line es ≡ 0 = rw (eq-eqb e.line e.line refl) at (h e.line le) in absurd (omega arith)) (cases_lt e.line n) in
    total_below n e es here ∙ ap suc (total_all n es (λ l le. let k = h l le in omega arith))

pub total_most : (n : ℕ) (es : List Entry) → ((l : ℕ) → acts_made l es ≤ 17) → total n es ≤ 17 * n
total_most zero es h = omega arith
total_most (suc n) es h = omega (arith, h n, total_most n es h)

pub total_room : (n l : ℕ) (es : List Entry) → ((l : ℕ) → acts_made l es ≤ 17) → l < n → total n es + 17 ≤ 17 * n + acts_made l es
total_room zero l es h lt = absurd (omega arith)
total_room (suc n) l es h lt = ⊎_elim
    (λ (k : l < n). omega (arith, h n, total_room n l es h k))
    (λ (k : n ≤ l). let same : l ≡ n = omega arith in rw same (omega (arith, total_most n es h)))
    (cases_lt l n)

pub room_is_left : RoomIsLeft
room_is_left n places es r l lt = omega (arith, total_room n l es r.few lt, total_all n es r.inside, r.enough)

-- ONE STEP: its line has ended, or made at most 16 acts

abbrev Fewer : ℕ → List Entry → Type 0
Fewer l ds = ended l ds ≡ false → acts_made l ds ≤ 16

wrote_ended : (l : ℕ) (es : List Entry) (e : Entry) → e.line ≡ l → e.wrote ≡ true → ended l (es ++ e ∷ []) ≡ true
wrote_ended l es e h w = ended_more l es (e ∷ []) ∙ rw (eq-eqb l e.line (sym h), w) (or_right _ true refl)

module _ (cs : List Command) (l : ℕ) (s : State) (still : ended l s.entries ≡ false) (few : acts_made l s.entries ≤ 16) where
  write_fewer : (f : ℕ) (p : Pool) (n : ℕ) → Fewer l (reached (writing l s f p n)).entries
  write_fewer f p zero h = few
  write_fewer f p (suc n) h = by (hazard e s.entries) h
    where
      e : Entry
      e = record { line = l; wrote = true; file = f; number = suc n }

      by : (m : Option Hazard) → ended l (reached (tested l (written e p s) m (goes (written e p s)))).entries ≡ false → acts_made l (reached (tested l (written e p s) m (goes (written e p s)))).entries ≤ 16
      by (Some x) h = absurd (both_ways _ h (wrote_ended l s.entries e refl refl))
      by None h = absurd (both_ways _ h (wrote_ended l s.entries e refl refl))

  attempt_fewer : (q : Want) → wants cs l (has_read s.pool l s.entries) ≡ q → Fewer l (reached (attempt (wants cs l) l s (has_read s.pool l s.entries) q)).entries
  attempt_fewer bad d h = few
  attempt_fewer (writes f x) d h = by (leb (length x) 4096) h
    where
      by : (c : Bool) → Fewer l (reached (cond c (writing l s f (put s.pool x) (given s.pool x)) (stops s (stop_at l TooLong)))).entries
      by true h = write_fewer f (put s.pool x) (given s.pool x) h
      by false h = few
  attempt_fewer (reads f) d h =
      let less = brief cs l f (has_read s.pool l s.entries) d in
      let now = adds_made 1 l s.entries _ (act_adds l s (wants cs l)) in
      omega (arith, less, made_read s.pool l s.entries still, subst (λ q. acts_made l (reached (attempt (wants cs l) l s (has_read s.pool l s.entries) q)).entries ≤ acts_made l s.entries + 1) d now)

  act_fewer : Fewer l (reached (act (wants cs l) l s)).entries
  act_fewer = attempt_fewer (wants cs l (has_read s.pool l s.entries)) refl

skip_fewer : (l n : ℕ) (rs : List Use) (u : Use) (s : State) → acts_made l s.entries + length rs ≤ n → n ≤ 16 → Fewer l (reached (skip l rs u s)).entries
skip_fewer l n [] u s le few h = by (hazard (entry l true u) s.entries) h
  where
    by : (m : Option Hazard) → Fewer l (reached (tested l (written (entry l true u) s.pool s) m (goes (written (entry l true u) s.pool s)))).entries
    by (Some x) h = absurd (both_ways _ h (wrote_ended l s.entries (entry l true u) refl refl))
    by None h = absurd (both_ways _ h (wrote_ended l s.entries (entry l true u) refl refl))
skip_fewer l n (r ∷ rs) u s le few h = by (hazard (entry l false r) s.entries) (skip_fewer l n rs u (noted (entry l false r) s) (omega (arith, one)) few) h
  where
    one : acts_made l (s.entries ++ entry l false r ∷ []) ≡ acts_made l s.entries + 1
    one = made_more l s.entries (entry l false r ∷ []) ∙ rw (eq-eqb l l refl) (omega arith)

    by : (m : Option Hazard) → Fewer l (reached (skip l rs u (noted (entry l false r) s))).entries → Fewer l (reached (tested l (noted (entry l false r) s) m (skip l rs u (noted (entry l false r) s)))).entries
    by (Some x) ih h = omega (arith, one)
    by None ih h = ih h

module _ (w : World) (r : Room (lines w) w.log_places w.entries) (l : ℕ) (m : left (lines w) w.entries l ≡ true) (brief_records : (q : Record) → record_for w l ≡ Some q → length q.reads ≤ 16) where
  still : ended l w.entries ≡ false
  still = (left_parts (lines w) w.entries l m).1

  -- by the record, or by one act
  own : (acts_made l (reached (work w l)).entries ≤ 17) × Fewer l (reached (work w l)).entries
  own = by (record_for w l) refl
    where
      by : (q : Option Record) → record_for w l ≡ q → (acts_made l (reached (work_by q w.notes.commands l (state w))).entries ≤ 17) × Fewer l (reached (work_by q w.notes.commands l (state w))).entries
      by None e = (omega (arith, r.fewer l still, adds_made 1 l w.entries _ (act_adds l (state w) (wants w.notes.commands l))), act_fewer w.notes.commands l (state w) still (r.fewer l still))
      by (Some q) e =
          let none = made_fresh l w.entries (skips_fresh w.records l (state w) q w.notes.commands l e) in
          let short = brief_records q e in
          (omega (arith, none, short, adds_made _ l w.entries _ (skip_adds l q.reads q.write (state w))), skip_fewer l 16 q.reads q.write (state w) (omega (arith, none, short)) (omega arith))

  others : (i : ℕ) → (i ≡ l → ⊥) → acts_made i (reached (work w l)).entries ≡ acts_made i w.entries
  others = adds_made_other _ l w.entries _ (work_adds w l)

  kept_room : Room (lines w) w.log_places (reached (work w l)).entries
  kept_room = record {
    enough = r.enough;
    inside = λ i le. others i (λ e. let lt = (left_parts (lines w) w.entries l m).0 in omega arith) ∙ r.inside i le;
    few = λ i. ⊎_elim (λ (e : i ≡ l). rw e own.0) (λ ne. omega (arith, others i ne, r.few i)) (cases_eq i l);
    fewer = λ i h. ⊎_elim (λ (e : i ≡ l). rw e (own.1 (rw e at h))) (λ ne. omega (arith, others i ne, r.fewer i (sym (adds_other _ l w.entries _ (work_adds w l) i ne).1 ∙ h))) (cases_eq i l);
  }

pub room_is_kept : RoomIsKept
room_is_kept w r l m short = kept_room w r l m short

-- OVER EVERY PAST

-- a true record has at most 16 reads
records_brief : {w : World} (p : Past w) → w.is_open ≡ true → (l : ℕ) (q : Record) → record_for w l ≡ Some q → length q.reads ≤ 16
records_brief {w} p i l q e =
    let o = (sound p).open_run i in
    skips_few w.notes.commands l (state w) q w.pool (skips_at_is w.pool w.records (own_true_now (found p) w o) l (state w) q w.notes.commands l e)

room : {w : World} → Past w → w.is_open ≡ true → Room (lines w) w.log_places w.entries
room = open_law (λ w. Room (lines w) w.log_places w.entries)
    (λ w cs e few. record { enough = (ready cs w e).log_room; inside = λ l le. refl; few = λ l. omega arith; fewer = λ l h. omega arith })
    (λ w p v t a st d h. rw d.world (kept_room w h st.line (d.answer.member d.leads) (records_brief p d.is_open st.line)))

pub log_has_room : LogHasRoom
log_has_room w p i = room p i
