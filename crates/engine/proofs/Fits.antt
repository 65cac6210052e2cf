-- Contents that have to fit, added one after another.
use Rattle.std.proofs.Common.{◌≡◌, ℕ, suc, ◌+◌, ◌<◌, ◌≤◌, leb, List, [], ◌∷◌, ◌++◌, get_or, Bor, map, length, drop, Some, None, Option, sym, refl, ap, ◌∙◌, inl, inr, arith}
use Rattle.std.proofs.lemmas.List.{append_assoc, append-nil, length-append, drop-map, length-map}
use Rattle.std.proofs.lemmas.Bool.{cond-true, cond-false, cases_Bool, le-leb, lt-leb, leb-false}
use Rattle.std.proofs.lemmas.Iterator.{YieldsList}
use Rattle.std.proofs.lemmas.Iterator.Consumers.{YieldsList-turn, YieldsList-end}
use Rattle.std.proofs.lemmas.Option.{slice_get-get_or, slice_get-map, slice_get_past}
use Rattle.std.specs.Iterator.{Yields}
use Rattle.std.specs.List.{slice_get}
use Rattle.std.specs.Option.{option_map}
use Rattle.model.specs.declared.run.Entry.{Entry}
use Rattle.model.specs.Commands.{all_bytes}
use Rattle.model.specs.Hazards.{has_read}
use Rattle.model.specs.Contents.{Content, Pool, content}
use Rattle.engine.specs.Fits.{fitting}
use Rattle.engine.specs.Reads.{reads_in, numbers}
use Rattle.engine.proofs.Nexts.{nth_drop, nth_end, read_numbers}

-- what does not fit does not fit with more
over : (a b : Content) (m : ℕ) → None ≡ fitting m a → None ≡ fitting m (a ++ b)
over a b m e =
    elim (cases_Bool (leb (length a) m)) [
      | inl t ↦ (let s = cond-true (leb (length a) m) (Some a) None t in let z : ◌≡◌ {A = ℕ} 0 1 = cc in absurd (omega arith))
      | inr f ↦ sym (cond-false (leb (length (a ++ b)) m) (Some (a ++ b)) None (lt-leb (length (a ++ b)) m (omega (arith, length-append a b, leb-false (length a) m f))))
    ]

-- what was held is what fits
pub same_held : (a z : Content) (m : ℕ) → Some z ≡ fitting m a → z ≡ a
same_held a z m e =
    elim (cases_Bool (leb (length a) m)) [
      | inl t ↦ (let s = cond-true (leb (length a) m) (Some a) None t in cc)
      | inr f ↦ (let s = cond-false (leb (length a) m) (Some a) None f in let z : ◌≡◌ {A = ℕ} 0 1 = cc in absurd (omega arith))
    ]

-- two contents: the first does not fit, or fits and the second follows
both_over : (h x y : Content) (m : ℕ) → None ≡ fitting m (h ++ x) → None ≡ fitting m (h ++ (x ++ y))
both_over h x y m e = over (h ++ x) y m e ∙ ap (fitting m) (append_assoc h x y)

both_added : (h x y z : Content) (m n : ℕ) (o : Option Content) → Some z ≡ fitting m (h ++ x) → n ≡ m → o ≡ fitting n (z ++ y) → o ≡ fitting m (h ++ (x ++ y))
both_added h x y z m n o e r f =
    f ∙ ap (λ k. fitting k (z ++ y)) r ∙ ap (λ t. fitting m (t ++ y)) (same_held (h ++ x) z m e) ∙ ap (fitting m) (append_assoc h x y)

short : (h : Content) (m : ℕ) → length h ≤ m → Some h ≡ fitting m h
short h m l = sym (cond-true (leb (length h) m) (Some h) None (le-leb (length h) m l))

-- GATHER: what is left to add at a place of the reads
abbrev pub left : Pool → List ℕ → ℕ → Content
left p ns at = all_bytes (map (content p) (drop at ns))

-- a loop over what line l read after its list: `xs` are the reads that came so far
at_turn : (ds : List Entry) (k : ℕ) (e : Entry) → k < length (drop 1 ds) → e ≡ get_or (drop 1 ds) k e → Some e.number ≡ slice_get (map (λ d. d.number) ds) (k + 1)
at_turn [] k e h is = absurd (omega arith)
at_turn (d ∷ ds) k e h is =
    let s : k + 1 ≡ suc k = omega arith in
    ap (λ (q : Entry). Some q.number) is
    ∙ ap (option_map (λ q. q.number)) (sym (slice_get-get_or ds k e h))
    ∙ sym (slice_get-map (λ q. q.number) ds k)
    ∙ ap (slice_get (map (λ q. q.number) (d ∷ ds))) (sym s)

at_end : (ds : List Entry) (k : ℕ) → k ≡ length (drop 1 ds) → None ≡ slice_get (map (λ d. d.number) ds) (k + 1)
at_end ds k is = sym (slice_get_past (map (λ d. d.number) ds) (k + 1) (by ds is))
  where
    by : (ds : List Entry) → k ≡ length (drop 1 ds) → length (map (λ d. d.number) ds) ≤ k + 1
    by [] is = omega arith
    by (d ∷ ds) is = omega (arith, length-map ds (λ q. q.number))

module _ {S : Type 0} {steps : S → Option (Bor Entry) → S → Type 0} {s : S} (l : ℕ) (es : List Entry) (xs : List (Bor Entry)) (t : S) (y : Yields steps s xs t) (r : Option (Bor Entry)) (u : S) (then : steps t r u) where
  pub next_read : (x : Bor Entry) → r ≡ Some x → YieldsList steps (λ e. e.now) s (drop 1 (reads_in l es)) → Some x.now.number ≡ slice_get (numbers l es) (length xs + 1)
  next_read x is road =
      let h = YieldsList-turn road xs t y r u x is then in
      at_turn (reads_in l es) (length xs) x.now h.0 h.1

  pub all_read : r ≡ None → YieldsList steps (λ e. e.now) s (drop 1 (reads_in l es)) → None ≡ slice_get (numbers l es) (length xs + 1)
  all_read is road =
      let h = YieldsList-end road xs t y r u is then in
      at_end (reads_in l es) (length xs) h.1

pub left_all : (p : Pool) (l : ℕ) (es : List Entry) → left p (numbers l es) 1 ≡ all_bytes (drop 1 (has_read p l es))
left_all p l es = ap all_bytes (sym (drop-map (content p) 1 (numbers l es)) ∙ ap (drop 1) (sym (read_numbers p l es)))

module _ (p : Pool) (ns : List ℕ) (k n : ℕ) (h : Content) (m : ℕ) (o : Option Content) (inv : fitting m (h ++ left p ns k) ≡ o) where
  pub gather_over : Some n ≡ slice_get ns k → None ≡ fitting m (h ++ content p n) → None ≡ o
  gather_over e f = both_over h (content p n) (left p ns (k + 1)) m f ∙ ap (λ t. fitting m (h ++ all_bytes (map (content p) t))) (sym (nth_drop ns k n e)) ∙ inv

  pub gather_more : (z : Content) → Some n ≡ slice_get ns k → Some z ≡ fitting m (h ++ content p n) → fitting m (z ++ left p ns (k + 1)) ≡ o
  gather_more z e f =
      both_added h (content p n) (left p ns (k + 1)) z m m _ f refl refl ∙ ap (λ t. fitting m (h ++ all_bytes (map (content p) t))) (sym (nth_drop ns k n e)) ∙ inv

  pub gather_done : None ≡ slice_get ns k → length h ≤ m → Some h ≡ o
  gather_done e l =
      short h m l ∙ ap (fitting m) (sym (append-nil h)) ∙ ap (λ t. fitting m (h ++ all_bytes (map (content p) t))) (sym (nth_end ns k e)) ∙ inv
