-- The table of places: a number has its place there exactly if it is listed, and one more number that is listed changes
-- its own place alone.
use Rattle.std.proofs.Common.{◌≡◌, ℕ, ◌+◌, ◌<◌, ◌≤◌, Bool, true, false, cond, not, ◌||◌, eqb, List, [], ◌∷◌, ◌++◌, length, sym, refl, ap, ◌∙◌, arith}
use Rattle.std.proofs.lemmas.Bool.{eq-eqb, ne_eqb, cond-true, cond-false}
use Rattle.std.proofs.lemmas.List.Folds.{list_any-append, position_or_len_push}
use Rattle.std.proofs.Math.Bool.{or-false}
use Rattle.std.proofs.lemmas.List.Sums.{prefix_len-le-length}
use Rattle.std.specs.List.{AllByRecursion, list_any, position_or_len}
use Rattle.trace_write.proofs.Lists.{place_low, place_past, place_there}
use Rattle.trace_write.specs.Rooms.{Number}
use Rattle.trace_write.specs.Saves.{place, place_listed}

-- WHAT THE TABLE TELLS

-- a number above those of a pool is not there
none_above : (n : ℕ) (ns : List ℕ) → AllByRecursion Number ns → 1024 < n → list_any (λ m. eqb m n) ns ≡ false
none_above n [] all far = refl
none_above n (m ∷ ms) all far =
    ap (λ b. b || list_any (λ k. eqb k n) ms) (ne_eqb m n (λ e. let low = all.0.1 in omega arith)) ∙ none_above n ms all.1 far

unlisted : (n : ℕ) (ns : List ℕ) → list_any (λ m. eqb m n) ns ≡ false → place_listed n ns ≡ 0
unlisted n ns e = cond-false (list_any (λ m. eqb m n) ns) (place n ns) 0 e

pub far_unlisted : (n : ℕ) (ns : List ℕ) → AllByRecursion Number ns → 1024 < n → place_listed n ns ≡ 0
far_unlisted n ns all far = unlisted n ns (none_above n ns all far)

pub is_new : (n : ℕ) (ns : List ℕ) → place_listed n ns ≡ 0 → list_any (λ m. eqb m n) ns ≡ false
is_new n ns = by (list_any (λ m. eqb m n) ns)
  where
    by : (b : Bool) → cond b (place n ns) 0 ≡ 0 → b ≡ false
    by true e = absurd (let low = place_low n ns in omega arith)
    by false e = refl

is_old : (n : ℕ) (ns : List ℕ) → (place_listed n ns ≡ 0 → ⊥) → list_any (λ m. eqb m n) ns ≡ true
is_old n ns = by (list_any (λ m. eqb m n) ns)
  where
    by : (b : Bool) → (cond b (place n ns) 0 ≡ 0 → ⊥) → b ≡ true
    by true ne = refl
    by false ne = absurd (ne refl)

-- a number that is not there has the place past the last
pub place_new : (n : ℕ) (ns : List ℕ) → place_listed n ns ≡ 0 → length ns + 1 ≡ place n ns
place_new n ns e = omega (arith, place_past n ns (is_new n ns e), prefix_len-le-length (λ m. not (eqb m n)) ns)

pub place_old : (n : ℕ) (ns : List ℕ) → (place_listed n ns ≡ 0 → ⊥) → place_listed n ns ≡ place n ns
place_old n ns ne = cond-true (list_any (λ m. eqb m n) ns) (place n ns) 0 (is_old n ns ne)

pub low_listed : (n : ℕ) (ns : List ℕ) → place_listed n ns ≤ length ns
low_listed n ns = by (list_any (λ m. eqb m n) ns) (place_there n ns)
  where
    by : (b : Bool) → (b ≡ true → place n ns ≤ length ns) → cond b (place n ns) 0 ≤ length ns
    by true h = h refl
    by false h = omega arith

-- ONE MORE NUMBER

module _ (n : ℕ) (ns : List ℕ) where
  -- it is listed at the end
  pub push_same : list_any (λ m. eqb m n) ns ≡ false → place_listed n (ns ++ n ∷ []) ≡ length ns + 1
  push_same e =
      cond-true (list_any (λ m. eqb m n) (ns ++ n ∷ [])) (place n (ns ++ n ∷ [])) 0 there
      ∙ ap (λ k. k + 1) (position_or_len_push (λ m. eqb m n) ns n ∙ at_end)
    where
      here : eqb n n ≡ true
      here = eq-eqb n n refl

      there : list_any (λ m. eqb m n) (ns ++ n ∷ []) ≡ true
      there = list_any-append (λ m. eqb m n) ns (n ∷ []) ∙ ap (λ b. b || (eqb n n || false)) e ∙ ap (λ b. b || false) here

      last : position_or_len (λ m. eqb m n) ns ≡ length ns
      last = omega (arith, place_past n ns e, prefix_len-le-length (λ m. not (eqb m n)) ns)

      at_end : cond (eqb (position_or_len (λ m. eqb m n) ns) (length ns)) (length ns + cond (eqb n n) 0 1) (position_or_len (λ m. eqb m n) ns) ≡ length ns
      at_end =
          cond-true (eqb (position_or_len (λ m. eqb m n) ns) (length ns)) _ _ (eq-eqb _ _ last)
          ∙ ap (λ b. length ns + cond b 0 1) here
          ∙ omega arith

  -- the others stay where they are
  pub push_other : (m : ℕ) → (m ≡ n → ⊥) → place_listed m (ns ++ n ∷ []) ≡ place_listed m ns
  push_other m ne = ap (λ b. cond b (place m (ns ++ n ∷ [])) 0) any ∙ by (list_any (λ k. eqb k m) ns) (place_there m ns)
    where
      any : list_any (λ k. eqb k m) (ns ++ n ∷ []) ≡ list_any (λ k. eqb k m) ns
      any =
          list_any-append (λ k. eqb k m) ns (n ∷ [])
          ∙ ap (λ b. list_any (λ k. eqb k m) ns || (b || false)) (ne_eqb n m (λ e. ne (sym e)))
          ∙ or-false (list_any (λ k. eqb k m) ns)

      by : (b : Bool) → (b ≡ true → place m ns ≤ length ns) → cond b (place m (ns ++ n ∷ [])) 0 ≡ cond b (place m ns) 0
      by false h = refl
      by true h =
          ap (λ k. k + 1)
          (position_or_len_push (λ k. eqb k m) ns n
          ∙ cond-false (eqb (position_or_len (λ k. eqb k m) ns) (length ns)) _ _ (ne_eqb _ _ (λ e. let low = h refl in omega arith)))
