-- A step adds entries of its own line alone, at most one by an act, and at least one where its line had made no act. Assumes nothing.
use Rattle.std.proofs.Common.{◌≡◌, ℕ, zero, suc, ◌<◌, ◌≤◌, Bool, true, false, cond, not, ◌&&◌, eqb, leb, List, [], ◌∷◌, ◌++◌, length, get_or, Some, None, Option, sym, refl, ◌∙◌, subst, append_assoc, append-nil, arith}
use Rattle.std.proofs.lemmas.Bool.{ne_eqb, eq-eqb}
use Rattle.std.proofs.lemmas.List.Folds.{list_all-append}
use Rattle.std.proofs.Math.Bool.{or-false, and-true}
use Rattle.model.specs.declared.command.Kind.{Kind}
use Rattle.model.specs.declared.command.Kind.TheVariants.{Copy, Join, Gather, Choose, Tally, Check}
use Rattle.model.specs.declared.command.Command.{Command}
use Rattle.model.specs.declared.run.Entry.{Entry}
use Rattle.model.specs.declared.run.Hazard.{Hazard}
use Rattle.model.specs.declared.run.Fault.TheVariants.{TooLong, Absent, BadList}
use Rattle.model.specs.Contents.{Content, Pool, content, known, given, put}
use Rattle.model.specs.Commands.{Want, reads, writes, bad, is_bad, next, wants}
use Rattle.model.specs.Hazards.{fresh, ended, has_read, hazard}
use Rattle.model.specs.Acts.{State, Outcome, goes, stops, reached, stop_at, tested, noted, reading, written, writing, attempt, act}
use Rattle.model.specs.Records.{Use, Record}
use Rattle.model.specs.World.{World, state, lines}
use Rattle.model.specs.Step.{entry, skip, record_for, work_by, work}
use Rattle.model.proofs.Script.{ended_more}
use Rattle.model.proofs.Skip.{fresh_has}

-- all entries are of line l
abbrev pub Of : ℕ → List Entry → Type 0
Of l [] = Unit {0}
Of l (e ∷ es) = (e.line ≡ l) × Of l es

-- at most n more entries, of line l
pub record Adds (n l : ℕ) (es ds : List Entry) : Type 0 where
  pub new : List Entry
  pub is : ds ≡ es ++ new
  pub of : Of l new
  pub few : length new ≤ n

adds_none : (n l : ℕ) (es : List Entry) → Adds n l es es
adds_none n l es = record { new = []; is = sym (append-nil es); of = tt; few = omega arith }

adds_one : (n l : ℕ) (es : List Entry) (e : Entry) → e.line ≡ l → Adds (suc n) l es (es ++ e ∷ [])
adds_one n l es e h = record { new = e ∷ []; is = refl; of = (h, tt); few = omega arith }

adds_more : (n l : ℕ) (es ds : List Entry) (e : Entry) → e.line ≡ l → Adds n l (es ++ e ∷ []) ds → Adds (suc n) l es ds
adds_more n l es ds e h a = record { new = e ∷ a.new; is = a.is ∙ append_assoc es (e ∷ []) a.new; of = (h, a.of); few = omega (arith, a.few) }

-- where all that an act can come to has a property, so has what it comes to
module _ (P : List Entry → Type 0) where
  abbrev Has : Outcome → Type 0
  Has t = P (reached t).entries

  has_tested : (l : ℕ) (s : State) (m : Option Hazard) (t : Outcome) → P s.entries → Has t → Has (tested l s m t)
  has_tested l s (Some h) t a b = a
  has_tested l s None t a b = b

  has_cond : (c : Bool) (a b : Outcome) → Has a → Has b → Has (cond c a b)
  has_cond true a b i j = i
  has_cond false a b i j = j

  has_reading : (l : ℕ) (s : State) (e : Entry) (q : Want) → P (s.entries ++ e ∷ []) → Has (reading l s e q)
  has_reading l s e q h =
      let r = noted e s in
      let last = cond (is_bad q) (stops r (stop_at l BadList)) (goes r) in
      has_tested l r (hazard e s.entries) (cond (eqb e.number 0) (stops r (stop_at l Absent)) last) h (has_cond (eqb e.number 0) (stops r (stop_at l Absent)) last h (has_cond (is_bad q) (stops r (stop_at l BadList)) (goes r) h h))

module _ (l : ℕ) (s : State) where
  writing_adds : (f : ℕ) (p : Pool) (n : ℕ) → Adds 1 l s.entries (reached (writing l s f p n)).entries
  writing_adds f p zero = adds_none 1 l s.entries
  writing_adds f p (suc n) =
      let e : Entry = record { line = l; wrote = true; file = f; number = suc n } in
      let one = adds_one 0 l s.entries e refl in
      has_tested (Adds 1 l s.entries) l (written e p s) (hazard e s.entries) (goes (written e p s)) one one

  attempt_adds : (k : List Content → Want) (xs : List Content) (q : Want) → Adds 1 l s.entries (reached (attempt k l s xs q)).entries
  attempt_adds k xs bad = adds_none 1 l s.entries
  attempt_adds k xs (reads f) =
      let n = known s.pool (get_or s.files f 0) in
      let e : Entry = record { line = l; wrote = false; file = f; number = n } in
      has_reading (Adds 1 l s.entries) l s e (k (xs ++ content s.pool n ∷ [])) (adds_one 0 l s.entries e refl)
  attempt_adds k xs (writes f x) =
      has_cond (Adds 1 l s.entries) (leb (length x) 4096) (writing l s f (put s.pool x) (given s.pool x)) (stops s (stop_at l TooLong)) (writing_adds f (put s.pool x) (given s.pool x)) (adds_none 1 l s.entries)

  pub act_adds : (k : List Content → Want) → Adds 1 l s.entries (reached (act k l s)).entries
  act_adds k = let xs = has_read s.pool l s.entries in attempt_adds k xs (k xs)

pub skip_adds : (l : ℕ) (rs : List Use) (u : Use) (s : State) → Adds (suc (length rs)) l s.entries (reached (skip l rs u s)).entries
skip_adds l [] u s =
    let e = entry l true u in
    let one = adds_one 0 l s.entries e refl in
    has_tested (Adds 1 l s.entries) l (written e s.pool s) (hazard e s.entries) (goes (written e s.pool s)) one one
skip_adds l (r ∷ rs) u s =
    let e = entry l false r in
    has_tested (Adds (suc (suc (length rs))) l s.entries) l (noted e s) (hazard e s.entries) (skip l rs u (noted e s)) (adds_one (suc (length rs)) l s.entries e refl) (adds_more (suc (length rs)) l s.entries _ e refl (skip_adds l rs u (noted e s)))

-- how many entries a step may add
abbrev pub most_new : Option Record → ℕ
most_new None = 1
most_new (Some r) = suc (length r.reads)

pub work_adds : (w : World) (l : ℕ) → Adds (most_new (record_for w l)) l w.entries (reached (work w l)).entries
work_adds w l = by (record_for w l)
  where
    by : (q : Option Record) → Adds (most_new q) l w.entries (reached (work_by q w.notes.commands l (state w))).entries
    by None = act_adds l (state w) (wants w.notes.commands l)
    by (Some q) = skip_adds l q.reads q.write (state w)

-- WHAT THAT DOES TO THE LINES

pub fresh_more : (l : ℕ) (es ds : List Entry) → fresh l (es ++ ds) ≡ (fresh l es && fresh l ds)
fresh_more l = list_all-append (λ e. not (eqb l e.line))

of_other : (l m : ℕ) → (m ≡ l → ⊥) → (es : List Entry) → Of l es → (fresh m es ≡ true) × (ended m es ≡ false)
of_other l m ne [] h = (refl, refl)
of_other l m ne (e ∷ es) h =
    let out : eqb m e.line ≡ false = ne_eqb m e.line (λ i. ne (i ∙ h.0)) in
    let ih = of_other l m ne es h.1 in
    (rw out ih.0, rw out ih.1)

-- another line is as it was
pub adds_other : (n l : ℕ) (es ds : List Entry) → Adds n l es ds → (m : ℕ) → (m ≡ l → ⊥) → (fresh m ds ≡ fresh m es) × (ended m ds ≡ ended m es)
adds_other n l es ds a m ne =
    let o = of_other l m ne a.new a.of in
    (rw (a.is, fresh_more m es a.new, o.0) (and-true (fresh m es)), rw (a.is, ended_more m es a.new, o.1) (or-false (ended m es)))

-- a line that has made an act has made one
pub adds_fresh : (n l : ℕ) (es ds : List Entry) → Adds n l es ds → (m : ℕ) → fresh m es ≡ false → fresh m ds ≡ false
adds_fresh n l es ds a m h = rw (a.is, fresh_more m es a.new, h)

-- A LINE'S FIRST ACT is a read, and is noted

pub starts : (k : Kind) (a b c d : ℕ) → next k a b c d [] ≡ reads a
starts Copy a b c d = refl
starts Join a b c d = refl
starts Gather a b c d = refl
starts Choose a b c d = refl
starts Tally a b c d = refl
starts Check a b c d = refl

wants_first : (cs : List Command) (l : ℕ) → l < length cs → (f : ℕ) × (wants cs l [] ≡ reads f)
wants_first [] l h = absurd (omega arith)
wants_first (c ∷ cs) zero h = (c.a, starts c.kind c.a c.b c.c c.d)
wants_first (c ∷ cs) (suc l) h = wants_first cs l (omega arith)

abbrev Seen : ℕ → List Entry → Type 0
Seen l es = fresh l es ≡ false

seen_one : (l : ℕ) (es : List Entry) (e : Entry) → e.line ≡ l → Seen l (es ++ e ∷ [])
seen_one l es e h = fresh_more l es (e ∷ []) ∙ rw (eq-eqb l e.line (sym h)) (no (fresh l es))
  where
    no : (b : Bool) → (b && false) ≡ false
    no true = refl
    no false = refl

act_first : (k : List Content → Want) (l f : ℕ) (s : State) → k [] ≡ reads f → fresh l s.entries ≡ true → Seen l (reached (act k l s)).entries
act_first k l f s w h =
    let none = (fresh_has s.pool l s.entries h).0 in
    let n = known s.pool (get_or s.files f 0) in
    let e : Entry = record { line = l; wrote = false; file = f; number = n } in
    subst (λ xs. Seen l (reached (attempt k l s xs (k xs))).entries) (sym none) (subst (λ q. Seen l (reached (attempt k l s [] q)).entries) (sym w) (has_reading (Seen l) l s e (k (content s.pool n ∷ [])) (seen_one l s.entries e refl)))

skip_first : (l : ℕ) (rs : List Use) (u : Use) (s : State) → Seen l (reached (skip l rs u s)).entries
skip_first l [] u s =
    let e = entry l true u in
    let one = seen_one l s.entries e refl in
    has_tested (Seen l) l (written e s.pool s) (hazard e s.entries) (goes (written e s.pool s)) one one
skip_first l (r ∷ rs) u s =
    let e = entry l false r in
    let one = seen_one l s.entries e refl in
    has_tested (Seen l) l (noted e s) (hazard e s.entries) (skip l rs u (noted e s)) one (skip_first l rs u (noted e s))

pub work_first : (w : World) (l : ℕ) → l < lines w → fresh l w.entries ≡ true → fresh l (reached (work w l)).entries ≡ false
work_first w l lt h = by (record_for w l)
  where
    by : (q : Option Record) → Seen l (reached (work_by q w.notes.commands l (state w))).entries
    by None = let r = wants_first w.notes.commands l lt in act_first (wants w.notes.commands l) l r.0 (state w) r.1 h
    by (Some q) = skip_first l q.reads q.write (state w)
