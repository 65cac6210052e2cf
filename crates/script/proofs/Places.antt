-- What `position` says of each element.
use Rattle.std.proofs.Common.{◌≡◌, ℕ, ◌<◌, ◌≤◌, Bool, true, false, ltb, List, length, get_or, is_some, Some, None, Option, sym, ap, inl, inr, arith}
use Rattle.std.proofs.lemmas.Bool.{cond-true, both_ways, cases_lt, lt-ltb}
use Rattle.std.proofs.lemmas.List.Quantifiers.{position-Some}
use Rattle.std.proofs.lemmas.List.Sums.{fails_before_first}
use Rattle.std.specs.List.{position, position_or_len}
use Rattle.std.specs.Option.{unwrap_or}

module _ {X : Type 0} (p : X → Bool) (xs : List X) (d : X) where
  pub none_passes : is_some (position p xs) ≡ false → (k : ℕ) → k < length xs → p (get_or xs k d) ≡ false
  none_passes e k h =
      let past : length xs ≤ position_or_len p xs =
      elim (cases_lt (position_or_len p xs) (length xs)) [
        | inl t ↦ absurd (both_ways _ e (ap is_some (cond-true (ltb (position_or_len p xs) (length xs)) (Some (position_or_len p xs)) None (lt-ltb _ _ t))))
        | inr n ↦ n
      ] in
      fails_before_first p xs k d (omega arith)

  -- the first place that passes, or the end
  pub record First (n : ℕ) : Type 0 where
    pub within : n ≤ length xs
    pub before : (k : ℕ) → k < n → p (get_or xs k d) ≡ false
    pub here : n < length xs → p (get_or xs n d) ≡ true

  pub first_or_end : (o : Option ℕ) → o ≡ position p xs → First (unwrap_or o (length xs))
  first_or_end None e = record { within = omega arith; before = none_passes (ap is_some (sym e)); here = λ h. absurd (omega arith) }
  first_or_end (Some n) e = let f = position-Some p xs n d (sym e) in record { within = omega arith; before = f.2; here = λ h. f.1 }
