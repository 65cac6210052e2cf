-- The records that a kept run gives are true. Assumes nothing.
use Rattle.std.proofs.Common.{◌≡◌, ℕ, suc, ◌+◌, ◌<◌, Bool, true, false, cond, ◌&&◌, ◌||◌, eqb, ltb, List, [], ◌∷◌, ◌++◌, length, sym, refl, ◌∙◌, arith}
use Rattle.std.proofs.lemmas.Slice.Eq.{bytes_eq-Decides}
use Rattle.std.proofs.lemmas.Bool.{both_ways, and_from, eqb-true, eq-eqb, true≢false}
use Rattle.model.specs.declared.command.Command.{Command}
use Rattle.model.specs.declared.run.Entry.{Entry}
use Rattle.model.specs.declared.record.Standing.TheVariants.{Hint, Own}
use Rattle.model.specs.declared.record.Use.{Use}
use Rattle.model.specs.Contents.{Content, Pool, content}
use Rattle.model.specs.Commands.{Want, want, wants}
use Rattle.model.specs.Hazards.{ended}
use Rattle.model.specs.Acts.{State}
use Rattle.model.specs.Records.{Record}
use Rattle.model.specs.Truth.{asks, follows, true_in}
use Rattle.model.specs.Book.{same_command, in_script, own, use_of, reads_of, write_of, recorded, has_record, replace, evict, keep, keeps, hint}
use Rattle.model.specs.Promise.{OwnTrue}
use Rattle.model.proofs.Trace.{Trace, Start, line, mine, seen, ends, wish, Steps}
use Rattle.model.proofs.Entries.{event_by, event, trace, Numbered}
use Rattle.model.proofs.Correspond.{start, Corresponds}

-- the acts of a line are what its command wants
abbrev Told : (List Content → Want) → Trace → Type 0
Told k [] = Unit {0}
Told k (a ∷ m) = (k (seen m) ≡ wish a) × (ends m ≡ false) × Told k m

told_mine : (w : Start) (t : Trace) → Steps w t → (l : ℕ) → Told (w.want l) (mine l t)
told_mine w [] r l = tt
told_mine w (a ∷ t) r l = by (eqb l (line a)) refl (told_mine w t r.1 l)
  where
    by : (q : Bool) → eqb l (line a) ≡ q → Told (w.want l) (mine l t) → Told (w.want l) (cond q (a ∷ mine l t) (mine l t))
    by true e ih = let same = eqb-true l (line a) e in (rw same r.0.wants, rw same r.0.still, ih)
    by false e ih = ih

line_event : (p : Pool) (e : Entry) → line (event p e) ≡ e.line
line_event p e = by e.wrote
  where
    by : (b : Bool) → line (event_by b e.line e.file (content p e.number)) ≡ e.line
    by true = refl
    by false = refl

module _ (p : Pool) (k : List Content → Want) (l : ℕ) where
  pub mine_event : (e : Entry) (t : Trace) → mine l (event p e ∷ t) ≡ cond (eqb l e.line) (event p e ∷ mine l t) (mine l t)
  mine_event e t = rw (line_event p e)

  told_less : (es : List Entry) (t : Trace) → Told k (mine l (trace p t es)) → Told k (mine l t)
  told_less [] t h = h
  told_less (e ∷ es) t h = by (eqb l e.line) (rw (mine_event e t) at (told_less es (event p e ∷ t) h))
    where
      by : (q : Bool) → Told k (cond q (event p e ∷ mine l t) (mine l t)) → Told k (mine l t)
      by true g = g.2
      by false g = g

  -- the act of an entry of line l, after t
  told_here : (e : Entry) (es : List Entry) (t : Trace) → eqb l e.line ≡ true → Told k (mine l (trace p t (e ∷ es))) → (k (seen (mine l t)) ≡ wish (event p e)) × (ends (mine l t) ≡ false)
  told_here e es t q h = let g : Told k (event p e ∷ mine l t) = rw (mine_event e t, q) at (told_less es (event p e ∷ t) h) in (g.0, g.1)

  -- after its write a line does nothing
  reads_gone : (es : List Entry) (t : Trace) → ends (mine l t) ≡ true → Told k (mine l (trace p t es)) → reads_of l es ≡ []
  reads_gone [] t d h = refl
  reads_gone (e ∷ es) t d h = by (eqb l e.line) refl (reads_gone es (event p e ∷ t))
    where
      by : (q : Bool) → eqb l e.line ≡ q → (ends (mine l (event p e ∷ t)) ≡ true → Told k (mine l (trace p (event p e ∷ t) es)) → reads_of l es ≡ []) →
          cond q (cond e.wrote (reads_of l es) (use_of e ∷ reads_of l es)) (reads_of l es) ≡ []
      by true q ih = absurd (both_ways _ (told_here e es t q h).1 d)
      by false q ih = ih (rw (mine_event e t, q) d) h

  kept_true : (es : List Entry) (t : Trace) → Numbered p es → Told k (mine l (trace p t es)) → ends (mine l t) ≡ false → ended l es ≡ true →
      follows p k (seen (mine l t)) (reads_of l es) (write_of l es) ≡ true
  kept_true [] t n h o d = absurd (true≢false (sym d))
  kept_true (e ∷ es) t n h o d = by (eqb l e.line) refl e.wrote refl (kept_true es (event p e ∷ t) n.1 h) d
    where
      by :
          (q : Bool) → eqb l e.line ≡ q → (b : Bool) → e.wrote ≡ b →
          (ends (mine l (event p e ∷ t)) ≡ false → ended l es ≡ true → follows p k (seen (mine l (event p e ∷ t))) (reads_of l es) (write_of l es) ≡ true) →
          ((q && b) || ended l es) ≡ true →
          follows p k (seen (mine l t)) (cond q (cond b (reads_of l es) (use_of e ∷ reads_of l es)) (reads_of l es)) (cond (q && b) (use_of e) (write_of l es)) ≡ true
      by true q true b ih g =
          let gone = reads_gone es (event p e ∷ t) (rw (mine_event e t, q, b)) h in
          let asked = (told_here e es t q h).0 in
          rw (gone, n.0, asked, b, eq-eqb e.file e.file refl, (bytes_eq-Decides (content p e.number) (content p e.number)).1 refl)
      by true q false b ih g =
          let asked = (told_here e es t q h).0 in
          let more : seen (mine l (event p e ∷ t)) ≡ seen (mine l t) ++ content p e.number ∷ [] = rw (mine_event e t, q, b) in
          let open_still : ends (mine l (event p e ∷ t)) ≡ false = rw (mine_event e t, q, b) o in
          let wants_it : asks (k (seen (mine l t))) e.file ≡ true = rw (asked, b) (eq-eqb e.file e.file refl) in
          and_from _ _ n.0 (and_from _ _ wants_it (rw more at (ih open_still g)))
      by false q b bs ih g =
          let same : mine l (event p e ∷ t) ≡ mine l t = rw (mine_event e t, q) in
          rw same at (ih (rw same o) g)

follows_same : (p : Pool) (k j : List Content → Want) → ((ys : List Content) → k ys ≡ j ys) → (rs : List Use) (xs : List Content) (u : Use) → follows p k xs rs u ≡ follows p j xs rs u
follows_same p k j h [] xs u = rw (h xs)
follows_same p k j h (r ∷ rs) xs u = rw (h xs, follows_same p k j h rs (xs ++ content p r.number ∷ []) u)

-- THE BOOK

module _ (p : Pool) where
  replace_own_true : (q : Record) → true_in p q ≡ true → (rs : List Record) → OwnTrue p rs → OwnTrue p (replace q rs)
  replace_own_true q t [] h = tt
  replace_own_true q t (r ∷ rs) h = by (same_command q.command r.command) (replace_own_true q t rs h.1)
    where
      by : (b : Bool) → OwnTrue p (replace q rs) → OwnTrue p (cond b (q ∷ rs) (r ∷ replace q rs))
      by true ih = (λ _. t, h.1)
      by false ih = (h.0, ih)

  append_own_true : (q : Record) → true_in p q ≡ true → (rs : List Record) → OwnTrue p rs → OwnTrue p (rs ++ q ∷ [])
  append_own_true q t [] h = (λ _. t, tt)
  append_own_true q t (r ∷ rs) h = (h.0, append_own_true q t rs h.1)

  evict_own_true : (cs : List Command) (q : Record) → true_in p q ≡ true → (rs : List Record) → OwnTrue p rs → OwnTrue p (evict cs q rs)
  evict_own_true cs q t [] h = tt
  evict_own_true cs q t (r ∷ rs) h = by (in_script r.command cs) (evict_own_true cs q t rs h.1)
    where
      by : (b : Bool) → OwnTrue p (evict cs q rs) → OwnTrue p (cond b (r ∷ evict cs q rs) (q ∷ rs))
      by true ih = (h.0, ih)
      by false ih = (λ _. t, h.1)

  keep_own_true : (cs : List Command) (places : ℕ) (q : Record) → true_in p q ≡ true → (rs : List Record) → OwnTrue p rs → OwnTrue p (keep cs places q rs)
  keep_own_true cs places q t rs h = by (has_record q.command rs) (ltb (length rs) places)
    where
      by : (b c : Bool) → OwnTrue p (cond b (replace q rs) (cond c (rs ++ q ∷ []) (evict cs q rs)))
      by true c = replace_own_true q t rs h
      by false true = append_own_true q t rs h
      by false false = evict_own_true cs q t rs h

  abbrev Truths : List Entry → ℕ → List Command → Type 0
  Truths es l [] = Unit {0}
  Truths es l (c ∷ left) = (true_in p (recorded l c es) ≡ true) × Truths es (suc l) left

  keeps_own_true : (cs : List Command) (places : ℕ) (es : List Entry) (l : ℕ) (left : List Command) (rs : List Record) → Truths es l left → OwnTrue p rs → OwnTrue p (keeps cs places es l left rs)
  keeps_own_true cs places es l [] rs t h = h
  keeps_own_true cs places es l (c ∷ left) rs t h = keeps_own_true cs places es (suc l) left (keep cs places (recorded l c es) rs) t.1 (keep_own_true cs places (recorded l c es) t.0 rs h)

  -- a hint is not own
  pub hint_own_true : (q : Record) → q.standing ≡ Hint → (rs : List Record) → OwnTrue p rs → OwnTrue p (hint q rs)
  hint_own_true q e [] h = (λ o. absurd (let z : Hint ≡ Own = sym e ∙ o in let y : ◌≡◌ {A = ℕ} 0 1 = cc in omega arith), tt)
  hint_own_true q e (r ∷ rs) h = by (same_command q.command r.command) (own r.standing) (hint_own_true q e rs h.1)
    where
      by : (b c : Bool) → OwnTrue p (hint q rs) → OwnTrue p (cond b (cond c (r ∷ rs) (q ∷ rs)) (r ∷ hint q rs))
      by true true ih = h
      by true false ih = (λ o. absurd (let z : Hint ≡ Own = sym e ∙ o in let y : ◌≡◌ {A = ℕ} 0 1 = cc in omega arith), h.1)
      by false c ih = (h.0, ih)

module _ (cs : List Command) (fs : List ℕ) (p₀ : Pool) (s : State) (t : Trace) (b : Corresponds (start cs fs p₀) s t) (r : Steps (start cs fs p₀) t) where
  line_true : (l : ℕ) → ended l s.entries ≡ true → follows s.pool (wants cs l) [] (reads_of l s.entries) (write_of l s.entries) ≡ true
  line_true l d = kept_true s.pool (wants cs l) l s.entries [] b.numbered (rw b.traced (told_mine (start cs fs p₀) t r l)) refl d

  truths : (l : ℕ) (left : List Command) → ((i : ℕ) (ys : List Content) → wants cs (l + i) ys ≡ wants left i ys) → ((i : ℕ) → i < length left → ended (l + i) s.entries ≡ true) → Truths s.pool s.entries l left
  truths l [] h d = tt
  truths l (c ∷ left) h d =
      let none : l + 0 ≡ l = omega arith in
      let one : (i : ℕ) → suc l + i ≡ l + suc i = λ i. omega arith in (
        follows_same s.pool (want c) (wants cs l) (λ ys. sym (rw none at (h 0 ys))) (reads_of l s.entries) [] (write_of l s.entries) ∙ line_true l (rw none at (d 0 (omega arith))),
        truths (suc l) left (λ i ys. rw (one i) (h (suc i) ys)) (λ i lt. rw (one i) (d (suc i) (omega arith))),
      )

  pub kept_own_true : (places : ℕ) (rs : List Record) → ((l : ℕ) → l < length cs → ended l s.entries ≡ true) → OwnTrue s.pool rs → OwnTrue s.pool (keeps cs places s.entries 0 cs rs)
  kept_own_true places rs d h =
      let none : (i : ℕ) → 0 + i ≡ i = λ i. omega arith in
      keeps_own_true s.pool cs places s.entries 0 cs rs (truths 0 cs (λ i ys. rw (none i)) (λ i lt. rw (none i) (d i lt))) h
