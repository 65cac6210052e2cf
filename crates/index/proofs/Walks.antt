-- The walk along a chain: what is found among the elements up to the one that is looked at is what is found among all.
use Rattle.std.proofs.Common.{◌≡◌, ℕ, suc, ◌-◌, ◌<◌, ◌≤◌, Bool, true, false, List, Some, None, length, get_or, take, sym, ap, ◌∙◌, arith}
use Rattle.std.proofs.lemmas.List.{length-take-le}
use Rattle.index.proofs.Newests.{taken, not_passed, low, take_kept, last_in, last_same, begin_last}
use Rattle.index.specs.Chained.{Chained}
use Rattle.index.specs.Newest.{newest, last, numbered}

-- the number that is looked at is 0 or that of an element of the bucket
pub record Walk (is : ℕ → Bool) (bs : List ℕ) (b count number : ℕ) : Type 0 where
  pub held : number ≤ count
  pub there : last bs b number ≡ number
  pub found : newest is bs b number ≡ newest is bs b count

module _ (is : ℕ → Bool) (hs os bs : List ℕ) (count b : ℕ) (h : Chained hs os bs count) where
  pub begins : b < 1024 → Walk is bs b count (get_or hs b 0)
  begins l =
      let e = h.newest b l in
      record {
        held = omega (arith, e, low (λ _. true) bs b count);
        there = ap (last bs b) e ∙ last_same bs b count ∙ sym e;
        found = ap (newest is bs b) e ∙ begin_last bs b is count;
      }

  module _ (number : ℕ) (w : Walk is bs b count number) where
    module _ (some : 0 < number) where
      abbrev k : ℕ
      k = number - 1

      one : number ≡ suc k
      one = omega arith

      next : get_or os k 0 ≡ last bs b k
      next =
          let in_bucket = last_in bs b k (ap (last bs b) (sym one) ∙ w.there ∙ one) in
          h.older k (omega (arith, w.held)) ∙ ap (λ c. last bs c k) in_bucket

      pub smaller : get_or os k 0 < number
      smaller = omega (arith, next, low (λ _. true) bs b k)

      pub goes_on : is number ≡ false → Walk is bs b count (get_or os k 0)
      goes_on other = record {
        held = omega (arith, smaller, w.held);
        there = ap (last bs b) next ∙ last_same bs b k ∙ sym next;
        found =
            ap (newest is bs b) next ∙ begin_last bs b is k
            ∙ sym (not_passed is bs b k (ap is (sym one) ∙ other)) ∙ ap (newest is bs b) (sym one) ∙ w.found;
      }

      found_here : is number ≡ true → newest is bs b number ≡ suc k
      found_here this =
          let in_bucket = last_in bs b k (ap (last bs b) (sym one) ∙ w.there ∙ one) in
          ap (newest is bs b) one ∙ taken is bs b k (ap is (sym one) ∙ this) in_bucket

    -- what the search answers
    module _ (xs : List ℕ) (view : take count bs ≡ xs) (within : count ≤ length bs) where
      same : newest is bs b count ≡ newest is xs b (length xs)
      same =
          let l = length-take-le count bs within in
          sym (take_kept is b bs count count (omega arith))
          ∙ ap (newest is (take count bs) b) (sym l)
          ∙ ap (λ ys. newest is ys b (length ys)) view

      pub ends_found : (some : 0 < number) → is number ≡ true → Some number ≡ numbered (newest is xs b (length xs))
      ends_found some this =
          ap Some (one some) ∙ ap numbered (sym (found_here some this) ∙ w.found ∙ same)

      pub ends_none : number ≡ 0 → None ≡ numbered (newest is xs b (length xs))
      ends_none z = ap numbered (ap (newest is bs b) (sym z) ∙ w.found ∙ same)
