-- The lines that a run's steps executed and skipped are the lines that made an act.
use Rattle.std.proofs.Common.{◌≡◌, ℕ, zero, suc, ◌+◌, ◌<◌, ◌≤◌, Bool, true, false, cond, not, ◌&&◌, ◌||◌, eqb, ltb, List, [], ◌∷◌, ◌++◌, length, Some, None, Ok, Option, sym, refl, ap, ◌∙◌, subst, ⊎_elim, append-nil, arith}
use Rattle.std.proofs.lemmas.List.{length-append}
use Rattle.std.proofs.lemmas.Bool.{cases_Bool, cases_eq, cases_lt, both_ways, eq-eqb, ne_eqb, lt-ltb, or_right}
use Rattle.model.specs.declared.command.Command.{Command}
use Rattle.model.specs.declared.run.Entry.{Entry}
use Rattle.model.specs.declared.answers.Stepped.{Stepped}
use Rattle.model.specs.declared.answers.Wish.TheVariants.{Keep}
use Rattle.model.specs.Hazards.{fresh, ended}
use Rattle.model.specs.Acts.{Outcome, goes, stops, reached, stop_of}
use Rattle.model.specs.Records.{Record}
use Rattle.model.specs.World.{World, state, lines}
use Rattle.model.specs.Step.{Worked, record_for, skipping, work_by, work}
use Rattle.model.specs.Calls.{on_begin, on_step, Did}
use Rattle.model.specs.Build.{Steps, no_step, a_step, executed, skipped, acted, end}
use Rattle.model.specs.Laws.{how_many, LinesCounted, EachLineCounted}
use Rattle.model.proofs.Skip.{skips_fresh}
use Rattle.model.proofs.Changes.{ending}
use Rattle.model.proofs.Sound.{left_parts, all_below}
use Rattle.model.proofs.Moves.{skip_ends}
use Rattle.model.proofs.Adds.{Adds, most_new, work_adds, adds_other, adds_fresh, work_first}
use Rattle.model.proofs.Closing.{keeps_by}

-- COUNTING

many_same : (t s : ℕ → Bool) (n : ℕ) → ((l : ℕ) → l < n → t l ≡ s l) → how_many t n ≡ how_many s n
many_same t s zero h = refl
many_same t s (suc n) h = rw (h n (omega arith), many_same t s n (λ l lt. h l (omega arith)))

-- one line more passes the test
many_more : (t s : ℕ → Bool) (l n : ℕ) → l < n → s l ≡ false → t l ≡ true → ((m : ℕ) → (m ≡ l → ⊥) → t m ≡ s m) → how_many t n ≡ how_many s n + 1
many_more t s l zero lt a b h = absurd (omega arith)
many_more t s l (suc n) lt a b h = ⊎_elim
    (λ (k : l < n). rw (h n (λ e. omega arith), many_more t s l n k a b h) (omega arith))
    (λ (k : n ≤ l).
    let same : n ≡ l = omega arith in
    let rest = many_same t s n (λ m i. h m (λ e. omega arith)) in
    rw (ap s same ∙ a, ap t same ∙ b, rest) (omega arith))
    (cases_lt l n)

many_all : (t : ℕ → Bool) (n : ℕ) → ((l : ℕ) → l < n → t l ≡ true) → how_many t n ≡ n
many_all t zero h = refl
many_all t (suc n) h = rw (h n (omega arith), many_all t n (λ l lt. h l (omega arith))) (omega arith)

-- A SKIP is of a line that has made no act, and ends it

skipping_fresh : (w : World) (l : ℕ) → skipping (record_for w l) ≡ true → fresh l w.entries ≡ true
skipping_fresh w l h = by (record_for w l) refl h
  where
    by : (o : Option Record) → record_for w l ≡ o → skipping o ≡ true → fresh l w.entries ≡ true
    by None e h = absurd (both_ways false refl h)
    by (Some q) e h = skips_fresh w.records l (state w) q w.notes.commands l e

skip_ended : (w : World) (l : ℕ) → skipping (record_for w l) ≡ true → stop_of (work w l) ≡ None → ended l (reached (work w l)).entries ≡ true
skip_ended w l h g = by (record_for w l) h (work_by (record_for w l) w.notes.commands l (state w)) refl g
  where
    gone : (q : Record) (t : Outcome) → work_by (Some q) w.notes.commands l (state w) ≡ t → stop_of t ≡ None → ended l (reached t).entries ≡ true
    gone q (goes s) e g = (skip_ends l q.reads q.write (state w) s e).1
    gone q (stops s y) e g = let z : ◌≡◌ {A = ℕ} 0 1 = cc in absurd (omega arith)

    by : (o : Option Record) → skipping o ≡ true → (t : Outcome) → work_by o w.notes.commands l (state w) ≡ t → stop_of t ≡ None → ended l (reached t).entries ≡ true
    by None h t e g = absurd (both_ways false refl h)
    by (Some q) h t e g = gone q t e g

-- a line that has ended has made an act
pub ended_acted : (l : ℕ) (es : List Entry) → ended l es ≡ true → fresh l es ≡ false
ended_acted l [] h = absurd (both_ways false refl h)
ended_acted l (e ∷ es) h = by (eqb l e.line) h (ended_acted l es)
  where
    by : (b : Bool) → ((b && e.wrote) || ended l es) ≡ true → (ended l es ≡ true → fresh l es ≡ false) → (not b && fresh l es) ≡ false
    by true h ih = refl
    by false h ih = ih h

-- ANY STEPS

record Counted {m n : ℕ} {x : World} {k : ℕ} {v : World} (cs : List Command) (h : Steps m n x k v) : Type 0 where
  commands : v.notes.commands ≡ cs
  one : executed h ≡ how_many (λ l. acted l h) (length cs)
  all : executed h + skipped h ≡ how_many (λ l. not (fresh l v.entries)) (length cs)
  was : (l : ℕ) → acted l h ≡ true → fresh l v.entries ≡ false
  now : v.notes.stop ≡ None → (l : ℕ) → fresh l v.entries ≡ false → ended l v.entries ≡ false → acted l h ≡ true

module _ {m n : ℕ} {x : World} {k : ℕ} {v w : World} (cs : List Command) (h : Steps m n x k v) (j : ℕ) (s : Stepped) (d : Worked None (record { patience = m; before = k; after = j }) s v w) (ih : Counted cs h) where
  abbrev l : ℕ
  l = s.line

  abbrev es : List Entry
  es = v.entries

  abbrev ds : List Entry
  ds = (reached (work v l)).entries

  abbrev grew : Bool
  grew = ltb (length es) (length ds)

  -- whether line i has acted, after this step
  abbrev then_acted : Bool → ℕ → Bool
  then_acted b i = (eqb i l && (not b && grew)) || acted i h

  lt : l < length cs
  lt = rw ih.commands at (left_parts (lines v) es l (d.answer.member d.leads)).0

  still : ended l es ≡ false
  still = (left_parts (lines v) es l (d.answer.member d.leads)).1

  adds : Adds (most_new (record_for v l)) l es ds
  adds = work_adds v l

  other : (i : ℕ) → (i ≡ l → ⊥) → (fresh i ds ≡ fresh i es) × (ended i ds ≡ ended i es)
  other = adds_other (most_new (record_for v l)) l es ds adds

  -- this line has made an act by now
  now_acted : fresh l ds ≡ false
  now_acted = ⊎_elim (λ e. work_first v l (rw ih.commands lt) e) (λ e. adds_fresh (most_new (record_for v l)) l es ds adds l e) (cases_Bool (fresh l es))

  others_same : (b : Bool) (i : ℕ) → (i ≡ l → ⊥) → then_acted b i ≡ acted i h
  others_same b i ne = rw (ne_eqb i l ne)

  -- the entries grow where the line had made no act
  grows : fresh l es ≡ true → grew ≡ true
  grows f = by adds.new adds.is
    where
      by : (new : List Entry) → ds ≡ es ++ new → grew ≡ true
      by [] e = absurd (both_ways (fresh l es) (sym (ap (fresh l) (e ∙ append-nil es)) ∙ now_acted) f)
      by (e ∷ new) i = lt-ltb (length es) (length ds) (omega (arith, ap length i, length-append es (e ∷ new)))

  abbrev Now : Bool → Type 0
  Now b =
      (executed h + cond (not b && fresh l es) 1 0 ≡ how_many (then_acted b) (length cs)) ×
      ((executed h + cond (not b && fresh l es) 1 0) + (skipped h + cond b 1 0) ≡ how_many (λ i. not (fresh i ds)) (length cs)) ×
      ((i : ℕ) → then_acted b i ≡ true → fresh i ds ≡ false) ×
      (stop_of (work v l) ≡ None → (i : ℕ) → fresh i ds ≡ false → ended i ds ≡ false → then_acted b i ≡ true)

  -- a line that had made no act has made one now: one more
  one_more : fresh l es ≡ true → how_many (λ i. not (fresh i ds)) (length cs) ≡ how_many (λ i. not (fresh i es)) (length cs) + 1
  one_more f = many_more (λ i. not (fresh i ds)) (λ i. not (fresh i es)) l (length cs) lt (rw f) (rw now_acted) (λ i ne. rw (other i ne).0)

  none_more : fresh l es ≡ false → how_many (λ i. not (fresh i ds)) (length cs) ≡ how_many (λ i. not (fresh i es)) (length cs)
  none_more f = many_same (λ i. not (fresh i ds)) (λ i. not (fresh i es)) (length cs) (λ i _. ⊎_elim (λ (e : i ≡ l). rw (e, now_acted, f)) (λ ne. rw (other i ne).0) (cases_eq i l))

  not_yet : fresh l es ≡ true → acted l h ≡ false
  not_yet f = ⊎_elim (λ e. absurd (both_ways _ (ih.was l e) f)) (λ e. e) (cases_Bool (acted l h))

  was_now : (b : Bool) (i : ℕ) → then_acted b i ≡ true → fresh i ds ≡ false
  was_now b i e = ⊎_elim (λ (same : i ≡ l). rw same now_acted) (λ ne. (other i ne).0 ∙ ih.was i (sym (others_same b i ne) ∙ e)) (cases_eq i l)

  others_now : (b : Bool) (i : ℕ) → (i ≡ l → ⊥) → fresh i ds ≡ false → ended i ds ≡ false → then_acted b i ≡ true
  others_now b i ne f e = others_same b i ne ∙ ih.now d.going i (sym (other i ne).0 ∙ f) (sym (other i ne).1 ∙ e)

  skip_counts : s.skipped ≡ true → fresh l es ≡ true → Now true
  skip_counts q f = (
    omega (arith, ih.one, many_same (then_acted true) (λ i. acted i h) (length cs) (λ i _. off i)),
    omega (arith, ih.all, one_more f),
    was_now true,
    λ g i a b. ⊎_elim (λ (same : i ≡ l). absurd (both_ways _ (rw same at b) (skip_ended v l (sym d.skipped ∙ q) g))) (λ ne. others_now true i ne a b) (cases_eq i l),
  )
    where
      off : (i : ℕ) → then_acted true i ≡ acted i h
      off i = by (eqb i l)
        where
          by : (b : Bool) → ((b && false) || acted i h) ≡ acted i h
          by true = refl
          by false = refl

  -- the line's own test, where it has acted
  own_on : grew ≡ true → then_acted false l ≡ true
  own_on g = rw (eq-eqb l l refl, g)

  own_kept : acted l h ≡ true → then_acted false l ≡ true
  own_kept e = rw e (or_right _ true refl)

  first_counts : fresh l es ≡ true → Now false
  first_counts f = rw f (
    omega (arith, ih.one, many_more (then_acted false) (λ i. acted i h) l (length cs) lt (not_yet f) (own_on (grows f)) (others_same false)),
    omega (arith, ih.all, one_more f),
    was_now false,
    λ g i a b. ⊎_elim (λ (same : i ≡ l). rw same (own_on (grows f))) (λ ne. others_now false i ne a b) (cases_eq i l),
  )

  later_counts : fresh l es ≡ false → Now false
  later_counts f =
      let on = ih.now d.going l f still in
      rw f (
        omega (arith, ih.one, many_same (then_acted false) (λ i. acted i h) (length cs) (λ i _. ⊎_elim (λ (same : i ≡ l). rw (same, on) (or_right _ true refl)) (λ ne. others_same false i ne) (cases_eq i l))),
        omega (arith, ih.all, none_more f),
        was_now false,
        λ g i a b. ⊎_elim (λ (same : i ≡ l). rw same (own_kept on)) (λ ne. others_now false i ne a b) (cases_eq i l),
      )

  counts : Now s.skipped
  counts = by s.skipped refl (fresh l es) refl
    where
      by : (b : Bool) → s.skipped ≡ b → (c : Bool) → fresh l es ≡ c → Now b
      by true q true f = skip_counts q f
      by true q false f = absurd (both_ways _ f (skipping_fresh v l (sym d.skipped ∙ q)))
      by false q true f = first_counts f
      by false q false f = later_counts f

  -- the same of the world after
  counted_more : (e : Did (on_step None (record { patience = m; before = k; after = j }) (Ok s)) v w) → Counted cs (a_step h j s e)
  counted_more e =
      let entries_are : ds ≡ w.entries = sym (ap (λ z. z.entries) d.world) in
      let stop_is : w.notes.stop ≡ stop_of (work v l) = ap (λ z. z.notes.stop) d.world in
      record {
        commands = ap (λ z. z.notes.commands) d.world ∙ ih.commands;
        one = subst (λ xs. executed h + cond (not s.skipped && fresh l es) 1 0 ≡ how_many (acts_by xs) (length cs)) entries_are counts.0;
        all = subst (λ xs. (executed h + cond (not s.skipped && fresh l es) 1 0) + (skipped h + cond s.skipped 1 0) ≡ how_many (λ i. not (fresh i xs)) (length cs)) entries_are counts.1;
        was = subst (λ xs. (i : ℕ) → acts_by xs i ≡ true → fresh i xs ≡ false) entries_are counts.2;
        now = λ g. subst (λ xs. (i : ℕ) → fresh i xs ≡ false → ended i xs ≡ false → acts_by xs i ≡ true) entries_are (counts.3 (sym stop_is ∙ g));
      }
    where
      acts_by : List Entry → ℕ → Bool
      acts_by xs i = (eqb i l && (not s.skipped && ltb (length es) (length xs))) || acted i h

module _ (u x : World) (cs : List Command) (d : Did (on_begin cs None) u x) where
  -- a run that has just begun
  counted_new : {m n : ℕ} → Counted {m = m} {n = n} {x = x} {k = n} {v = x} cs no_step
  counted_new = rw d.does.2 (record {
    commands = refl;
    one = sym (none (length cs));
    all = sym (none (length cs));
    was = λ l e. absurd (both_ways false refl e);
    now = λ g l e. absurd (both_ways true e refl);
  })
    where
      none : (n : ℕ) → how_many (λ l. false) n ≡ 0
      none zero = refl
      none (suc n) = let h = none n in omega arith

  counted : {m n k : ℕ} {v : World} (h : Steps m n x k v) → Counted cs h
  counted no_step = counted_new
  counted (a_step h j s e) = counted_more cs h j s e.does (counted h) e

pub lines_counted : LinesCounted
lines_counted u x v cs m n k d h = let c = counted u x cs d h in (c.one, c.all)

pub each_line_counted : EachLineCounted
each_line_counted u v cs m n r =
    let c = counted u r.opened cs r.begin r.steps in
    let k = keeps_by None r.last v (ending None (end None) r.last v Keep r.close.does) in
    let done : (l : ℕ) → l < length cs → not (fresh l r.last.entries) ≡ true = λ l lt. rw (ended_acted l r.last.entries (all_below (lines r.last) r.last.entries k.all l (rw c.commands lt))) in
    c.all ∙ many_all (λ l. not (fresh l r.last.entries)) (length cs) done
