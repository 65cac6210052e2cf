-- The newest element of a bucket that passes a test: which it is, and what it does not depend on.
use Rattle.std.proofs.Common.{◌≡◌, ℕ, zero, suc, ◌<◌, ◌≤◌, ◌≢◌, ◌⊎◌, Bool, true, false, cond, ◌&&◌, ◌==◌, List, get_or, take, set, sym, refl, ap, ◌∙◌, inl, inr, arith}
use Rattle.std.proofs.lemmas.Bool.{cond-true, cond-false, cond_both, cases_eq, and_from, and_left, and_right, and_parts, eq-eqb, eqb-true, ne_eqb, cases_Bool}
use Rattle.std.proofs.lemmas.List.{get_or-set_other, get_or-take}
use Rattle.index.specs.Newest.{newest, last}

module _ (is : ℕ → Bool) (bs : List ℕ) (b : ℕ) where
  pub taken : (n : ℕ) → is (suc n) ≡ true → get_or bs n 0 ≡ b → newest is bs b (suc n) ≡ suc n
  taken n e f =
      cond-true (is (suc n) && (get_or bs n 0 == b)) (suc n) (newest is bs b n) (and_from (is (suc n)) (get_or bs n 0 == b) e (eq-eqb (get_or bs n 0) b f))

  -- an element that does not pass, and one of another bucket
  pub not_passed : (n : ℕ) → is (suc n) ≡ false → newest is bs b (suc n) ≡ newest is bs b n
  not_passed n e =
      cond-false (is (suc n) && (get_or bs n 0 == b)) (suc n) (newest is bs b n) (and_left (is (suc n)) (get_or bs n 0 == b) e)

  pub not_there : (n : ℕ) → (get_or bs n 0 ≡ b → ⊥) → newest is bs b (suc n) ≡ newest is bs b n
  not_there n ne =
      cond-false (is (suc n) && (get_or bs n 0 == b)) (suc n) (newest is bs b n) (and_right (is (suc n)) (get_or bs n 0 == b) (ne_eqb (get_or bs n 0) b ne))

  pub low : (n : ℕ) → newest is bs b n ≤ n
  low zero = omega arith
  low (suc n) =
      cond_both (is (suc n) && (get_or bs n 0 == b)) (suc n) (newest is bs b n) (λ x. x ≤ suc n) (λ e. omega arith) (λ e. omega (arith, low n))

  -- the last element is the one, or it does not matter
  one_more : (n : ℕ) → ((is (suc n) ≡ true) × (get_or bs n 0 ≡ b)) ⊎ (newest is bs b (suc n) ≡ newest is bs b n)
  one_more n =
      elim (cases_Bool (is (suc n) && (get_or bs n 0 == b))) [
        | inl t ↦ (let parts = and_parts (is (suc n)) (get_or bs n 0 == b) t in inl (parts.0, eqb-true (get_or bs n 0) b parts.1))
        | inr f ↦ inr (cond-false (is (suc n) && (get_or bs n 0 == b)) (suc n) (newest is bs b n) f)
      ]

  -- where none is found, no element of the bucket passes
  pub none_passes : (n : ℕ) → newest is bs b n ≡ 0 → (k : ℕ) → k < n → get_or bs k 0 ≡ b → is (suc k) ≡ false
  none_passes zero e k h f = absurd (omega arith)
  none_passes (suc n) e k h f =
      elim (cases_eq k n) [
        | inl z ↦ elim (cases_Bool (is (suc k))) [
          | inl t ↦ (let u = taken n (ap (λ m. is (suc m)) (sym z) ∙ t) (ap (λ m. get_or bs m 0) (sym z) ∙ f) in absurd (omega arith))
          | inr u ↦ u
        ]
        | inr ne ↦ elim (one_more n) [
          | inl p ↦ (let u = taken n p.0 p.1 in absurd (omega arith))
          | inr same ↦ none_passes n (sym same ∙ e) k (omega arith) f
        ]
      ]

  -- the one that is found passes
  pub passes : (n m : ℕ) → newest is bs b n ≡ suc m → (m < n) × (is (suc m) ≡ true)
  passes zero m e = absurd (omega arith)
  passes (suc n) m e =
      elim (one_more n) [
        | inl p ↦ (let u = taken n p.0 p.1 in let z : n ≡ m = omega arith in (omega arith, ap (λ k. is (suc k)) (sym z) ∙ p.0))
        | inr same ↦ (let r = passes n m (sym same ∙ e) in (omega (arith, r.0), r.1))
      ]

module _ (is : ℕ → Bool) (b : ℕ) where
  -- it depends on the buckets of the elements alone
  pub agree : (xs ys : List ℕ) (n : ℕ) → ((k : ℕ) → k < n → get_or xs k 0 ≡ get_or ys k 0) → newest is xs b n ≡ newest is ys b n
  agree xs ys zero h = refl
  agree xs ys (suc n) h =
      ap (λ v. cond (is (suc n) && (v == b)) (suc n) (newest is xs b n)) (h n (omega arith))
      ∙ ap (λ m. cond (is (suc n) && (get_or ys n 0 == b)) (suc n) m) (agree xs ys n (λ k l. h k (omega arith)))

  pub set_kept : (bs : List ℕ) (n x k : ℕ) → k ≤ n → newest is (set bs n x) b k ≡ newest is bs b k
  set_kept bs n x k h =
      agree (set bs n x) bs k (λ j l. let ne : j ≢ n = omega arith in get_or-set_other bs n j x 0 ne)

  pub take_kept : (bs : List ℕ) (n k : ℕ) → k ≤ n → newest is (take n bs) b k ≡ newest is bs b k
  take_kept bs n k h =
      agree (take n bs) bs k (λ j l. get_or-take n bs j 0 (omega arith))

module _ (bs : List ℕ) (b : ℕ) where
  pub last_in : (k : ℕ) → last bs b (suc k) ≡ suc k → get_or bs k 0 ≡ b
  last_in k e =
      elim (cases_eq (get_or bs k 0) b) [
        | inl f ↦ f
        | inr ne ↦ (let u = not_there (λ _. true) bs b k ne in let v = low (λ _. true) bs b k in absurd (omega arith))
      ]

  -- the newest of the elements up to the newest is the same one
  pub last_same : (n : ℕ) → last bs b (last bs b n) ≡ last bs b n
  last_same zero = refl
  last_same (suc n) =
      elim (cases_eq (get_or bs n 0) b) [
        | inl f ↦ ap (last bs b) (taken (λ _. true) bs b n refl f)
        | inr ne ↦ (let u = not_there (λ _. true) bs b n ne in ap (last bs b) u ∙ last_same n ∙ sym u)
      ]

  -- so the search may begin there
  pub begin_last : (is : ℕ → Bool) (n : ℕ) → newest is bs b (last bs b n) ≡ newest is bs b n
  begin_last is zero = refl
  begin_last is (suc n) =
      elim (cases_eq (get_or bs n 0) b) [
        | inl f ↦ ap (newest is bs b) (taken (λ _. true) bs b n refl f)
        | inr ne ↦ ap (newest is bs b) (not_there (λ _. true) bs b n ne) ∙ begin_last is n ∙ sym (not_there is bs b n ne)
      ]
