-- A search for a string of bytes by its bucket: an equal one has the same bucket, so that it is looked at.
use Rattle.std.proofs.Common.{◌≡◌, ℕ, suc, ◌-◌, ◌<◌, true, false, cond, ltb, List, [], ◌∷◌, ◌++◌, map, length, get_or, sym, ap, ◌∙◌, inl, inr, arith}
use Rattle.std.proofs.lemmas.Bool.{cases_Bool, cond-true, lt-ltb}
use Rattle.std.proofs.lemmas.List.{length-map, get_or-map, map_push}
use Rattle.std.proofs.lemmas.Slice.Eq.{bytes_eq-Decides}
use Rattle.std.specs.Str.{bytes_eq}
use Rattle.index.proofs.Newests.{none_passes, passes}
use Rattle.index.specs.Equal.{equal}
use Rattle.index.specs.Newest.{newest}

-- whatever tells the bucket of a string
module _ (bucket : List ℕ → ℕ) (x : List ℕ) (xs : List (List ℕ)) (bs : List ℕ) (b : ℕ) (each : bs ≡ map bucket xs) (its : b ≡ bucket x) where
  at_number : (k : ℕ) → equal x xs (suc k) ≡ bytes_eq x (get_or xs k [])
  at_number k = let same : suc k - 1 ≡ k = omega arith in ap (λ i. bytes_eq x (get_or xs i [])) same

  as_many : length bs ≡ length xs
  as_many = ap length each ∙ length-map xs bucket

  same_bucket : (k : ℕ) → k < length xs → bytes_eq x (get_or xs k []) ≡ true → get_or bs k 0 ≡ b
  same_bucket k l t =
      ap (λ ds. get_or ds k 0) each ∙ get_or-map bucket xs k [] 0 l ∙ ap bucket (sym ((bytes_eq-Decides x (get_or xs k [])).0 t)) ∙ sym its

  pub none_equal : newest (equal x xs) bs b (length bs) ≡ 0 → (k : ℕ) → k < length xs → bytes_eq x (get_or xs k []) ≡ false
  none_equal e k l =
      elim (cases_Bool (bytes_eq x (get_or xs k []))) [
        | inl t ↦ sym (at_number k) ∙ none_passes (equal x xs) bs b (length bs) e k (omega (arith, as_many)) (same_bucket k l t)
        | inr f ↦ f
      ]

  pub one_equal : (m : ℕ) → newest (equal x xs) bs b (length bs) ≡ suc m → (m < length xs) × (bytes_eq x (get_or xs m []) ≡ true)
  one_equal m e =
      let p = passes (equal x xs) bs b (length bs) m e in
      (omega (arith, as_many, p.0), sym (at_number m) ∙ p.1)

  -- the buckets with the one of this string, where there is room
  pub added : length xs < 1024 → cond (ltb (length bs) 1024) (bs ++ b ∷ []) bs ≡ map bucket (xs ++ x ∷ [])
  added room =
      cond-true (ltb (length bs) 1024) (bs ++ b ∷ []) bs (lt-ltb (length bs) 1024 (omega (arith, as_many)))
      ∙ ap (λ ds. ds ++ b ∷ []) each
      ∙ ap (λ d. map bucket xs ++ d ∷ []) its
      ∙ sym (map_push bucket xs x)
