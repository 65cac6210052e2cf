-- Places of numbers in a list, numbers that are listed once, and how many there can be.
use Rattle.std.proofs.Common.{◌≡◌, ℕ, zero, suc, ◌+◌, ◌<◌, ◌≤◌, Bool, true, false, cond, not, ◌||◌, eqb, leb, ltb, List, [], ◌∷◌, ◌++◌, length, Some, None, unwrap_or, sym, refl, ap, ◌∙◌, subst, inl, inr, arith}
use Rattle.std.proofs.ByRecursion.{All-push}
use Rattle.std.proofs.lemmas.Bool.{or_parts, cond-true, cond-false, eq-eqb, ne_eqb, eqb-false, le-leb, lt-leb, lt-ltb, le-ltb, cases_eq, cases_lt}
use Rattle.std.proofs.lemmas.Iterator.Adapters.{position_from-zero}
use Rattle.std.proofs.lemmas.List.Sums.{prefix_len-le-length}
use Rattle.std.specs.List.{AllByRecursion, list_any, position_from, position_or_len}
use Rattle.trace_write.specs.Rooms.{Apart}
use Rattle.trace_write.specs.Saves.{place, listed}

-- PLACES

pub place_same : (n m : ℕ) (ms : List ℕ) → n ≡ m → place n (m ∷ ms) ≡ 1
place_same n m ms e = ap (λ b. cond (not b) (1 + position_or_len (λ k. eqb k n) ms) 0 + 1) (eq-eqb m n (sym e))

pub place_other : (n m : ℕ) (ms : List ℕ) → (n ≡ m → ⊥) → place n (m ∷ ms) ≡ suc (place n ms)
place_other n m ms ne =
    let rest = position_or_len (λ k. eqb k n) ms in
    let z : 1 + rest + 1 ≡ suc (rest + 1) = omega arith in
    ap (λ b. cond (not b) (1 + rest) 0 + 1) (ne_eqb m n (λ e. ne (sym e))) ∙ z

pub place_low : (n : ℕ) (ms : List ℕ) → 1 ≤ place n ms
place_low n ms = omega arith

-- as a search tells it
pub place_told : (n : ℕ) (ms : List ℕ) → unwrap_or (position_from (λ m. eqb m n) 0 ms) (length ms) + 1 ≡ place n ms
place_told n ms =
    ap (λ o. unwrap_or o (length ms) + 1) (sym (position_from-zero (λ m. eqb m n) ms))
    ∙ ap (λ k. k + 1) (by (position_or_len (λ m. eqb m n) ms) (length ms) (prefix_len-le-length (λ m. not (eqb m n)) ms))
  where
    by : (k l : ℕ) → k ≤ l → unwrap_or (cond (ltb k l) (Some k) None) l ≡ k
    by k l h =
        elim (cases_lt k l) [
          | inl lt ↦ ap (λ o. unwrap_or o l) (cond-true (ltb k l) (Some k) None (lt-ltb k l lt))
          | inr le ↦ ap (λ o. unwrap_or o l) (cond-false (ltb k l) (Some k) None (le-ltb k l le)) ∙ omega arith
        ]

-- a number is there where its place is no more than the last
pub place_there : (n : ℕ) (ms : List ℕ) → list_any (λ m. eqb m n) ms ≡ true → place n ms ≤ length ms
place_there n [] e = let z : ◌≡◌ {A = ℕ} 0 1 = cc in absurd (omega arith)
place_there n (m ∷ ms) e =
    elim (cases_eq n m) [
      | inl s ↦ (let a = place_same n m ms s in omega arith)
      | inr ne ↦
          (let a = place_other n m ms ne in
          let rest = ap (λ b. b || list_any (λ k. eqb k n) ms) (sym (ne_eqb m n (λ s. ne (sym s)))) ∙ e in
          let b = place_there n ms rest in omega arith)
    ]

pub place_past : (n : ℕ) (ms : List ℕ) → list_any (λ m. eqb m n) ms ≡ false → length ms < place n ms
place_past n [] e = omega arith
place_past n (m ∷ ms) e =
    let t = or_parts (eqb m n) (list_any (λ k. eqb k n) ms) e in
    let a = place_other n m ms (λ s. eqb-false m n t.0 (sym s)) in
    let b = place_past n ms t.1 in
    omega arith

pub not_there : (n : ℕ) (ms : List ℕ) → list_any (λ m. eqb m n) ms ≡ false → AllByRecursion (λ m. m ≡ n → ⊥) ms
not_there n [] e = tt
not_there n (m ∷ ms) e = let t = or_parts (eqb m n) (list_any (λ k. eqb k n) ms) e in (eqb-false m n t.0, not_there n ms t.1)

-- so it is listed where it is past the last, and only there
pub listed_old : (ns : List ℕ) (n : ℕ) → place n ns ≤ length ns → listed ns n ≡ ns
listed_old ns n h = by (list_any (λ m. eqb m n) ns) (place_past n ns)
  where
    by : (b : Bool) → (b ≡ false → length ns < place n ns) → cond b ns (ns ++ n ∷ []) ≡ ns
    by true f = refl
    by false f = absurd (let z = f refl in omega arith)

pub listed_new : (ns : List ℕ) (n : ℕ) → length ns < place n ns → listed ns n ≡ ns ++ n ∷ []
listed_new ns n h = by (list_any (λ m. eqb m n) ns) (place_there n ns)
  where
    by : (b : Bool) → (b ≡ true → place n ns ≤ length ns) → cond b ns (ns ++ n ∷ []) ≡ ns ++ n ∷ []
    by true f = absurd (let z = f refl in omega arith)
    by false f = refl

-- NUMBERS THAT ARE LISTED ONCE

pub apart_push : (ns : List ℕ) (n : ℕ) → Apart ns → AllByRecursion (λ m. m ≡ n → ⊥) ns → Apart (ns ++ n ∷ [])
apart_push [] n a b = (tt, tt)
apart_push (m ∷ ns) n a b = (All-push (λ k. m ≡ k → ⊥) ns n a.0 b.0, apart_push ns n a.1 b.1)

-- how many are at most k, and how often k stands there
up_to : ℕ → List ℕ → ℕ
up_to k [] = 0
up_to k (n ∷ ns) = cond (leb n k) 1 0 + up_to k ns

times : ℕ → List ℕ → ℕ
times k [] = 0
times k (n ∷ ns) = cond (eqb n k) 1 0 + times k ns

never : (k : ℕ) (ns : List ℕ) → AllByRecursion (λ m. k ≡ m → ⊥) ns → times k ns ≡ 0
unfolding times
never k [] a = refl
never k (n ∷ ns) a = omega (arith, cond-false {A = ℕ} (eqb n k) 1 0 (ne_eqb n k (λ e. a.0 (sym e))), never k ns a.1)

once : (k : ℕ) (ns : List ℕ) → Apart ns → times k ns ≤ 1
unfolding times
once k [] a = omega arith
once k (n ∷ ns) a =
    elim (cases_eq n k) [
      | inl e ↦ omega (arith, cond-true {A = ℕ} (eqb n k) 1 0 (eq-eqb n k e), never k ns (subst (λ j. AllByRecursion (λ m. j ≡ m → ⊥) ns) e a.0))
      | inr ne ↦ omega (arith, cond-false {A = ℕ} (eqb n k) 1 0 (ne_eqb n k ne), once k ns a.1)
    ]

one_more : (k : ℕ) (ns : List ℕ) → up_to (suc k) ns ≡ up_to k ns + times (suc k) ns
unfolding up_to times
one_more k [] = refl
one_more k (n ∷ ns) =
    let more = one_more k ns in
    elim (cases_lt k n) [
      | inl h ↦
          elim (cases_eq n (suc k)) [
            | inl e ↦ omega (arith, cond-true {A = ℕ} (leb n (suc k)) 1 0 (le-leb n (suc k) (omega arith)), cond-false {A = ℕ} (leb n k) 1 0 (lt-leb n k h), cond-true {A = ℕ} (eqb n (suc k)) 1 0 (eq-eqb n (suc k) e))
            | inr ne ↦ omega (arith, cond-false {A = ℕ} (leb n (suc k)) 1 0 (lt-leb n (suc k) (omega arith)), cond-false {A = ℕ} (leb n k) 1 0 (lt-leb n k h), cond-false {A = ℕ} (eqb n (suc k)) 1 0 (ne_eqb n (suc k) ne))
          ]
      | inr h ↦ omega (arith, cond-true {A = ℕ} (leb n (suc k)) 1 0 (le-leb n (suc k) (omega arith)), cond-true {A = ℕ} (leb n k) 1 0 (le-leb n k h), cond-false {A = ℕ} (eqb n (suc k)) 1 0 (ne_eqb n (suc k) (λ e. omega arith)))
    ]

none_at_zero : (ns : List ℕ) → AllByRecursion (λ n. 1 ≤ n) ns → up_to 0 ns ≡ 0
unfolding up_to
none_at_zero [] a = refl
none_at_zero (n ∷ ns) a = omega (arith, cond-false {A = ℕ} (leb n 0) 1 0 (lt-leb n 0 (omega (arith, a.0))), none_at_zero ns a.1)

at_most : (k : ℕ) (ns : List ℕ) → AllByRecursion (λ n. 1 ≤ n) ns → Apart ns → up_to k ns ≤ k
at_most zero ns a b = omega (arith, none_at_zero ns a)
at_most (suc k) ns a b = omega (arith, one_more k ns, once (suc k) ns b, at_most k ns a b)

all_up_to : (k : ℕ) (ns : List ℕ) → AllByRecursion (λ n. n ≤ k) ns → up_to k ns ≡ length ns
unfolding up_to
all_up_to k [] a = refl
all_up_to k (n ∷ ns) a = omega (arith, cond-true {A = ℕ} (leb n k) 1 0 (le-leb n k a.0), all_up_to k ns a.1)

-- so there are no more of them than the highest can be
pub no_more : (k : ℕ) (ns : List ℕ) → AllByRecursion (λ n. 1 ≤ n) ns → AllByRecursion (λ n. n ≤ k) ns → Apart ns → length ns ≤ k
no_more k ns low high apart = omega (arith, all_up_to k ns high, at_most k ns low apart)
