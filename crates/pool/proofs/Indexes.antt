-- The index of a pool: a search by buckets finds the content that a search of all finds.
use Rattle.std.proofs.Common.{◌≡◌, ℕ, zero, suc, ◌+◌, ◌<◌, true, false, List, [], map, length, get_or, take, sym, refl, ap, ◌∙◌, inl, inr, arith}
use Rattle.std.proofs.lemmas.Bool.{cases_Bool}
use Rattle.std.proofs.lemmas.List.{take-map}
use Rattle.std.proofs.lemmas.Slice.Eq.{bytes_eq-Decides}
use Rattle.std.specs.Str.{bytes_eq}
use Rattle.index.proofs.Equals.{none_equal, one_equal}
use Rattle.index.specs.Equal.{equal}
use Rattle.index.specs.Newest.{newest}
use Rattle.index.specs.Sums.{bucket_of_ends}
use Rattle.model.specs.Contents.{find}
use Rattle.pool.specs.Sound.{Apart}
use Rattle.pool.proofs.Finds.{find_at, find_none}

-- no two contents are equal, so the newest that is equal is the first
module _ (x : List ℕ) (xs : List (List ℕ)) (apart : Apart xs) where
  not_before : (m : ℕ) → m < length xs → bytes_eq x (get_or xs m []) ≡ true → (k : ℕ) → k < m → bytes_eq x (get_or xs k []) ≡ false
  not_before m l t k h =
      elim (cases_Bool (bytes_eq x (get_or xs k []))) [
        | inl u ↦ absurd (apart k m h l (sym ((bytes_eq-Decides x (get_or xs k [])).0 u) ∙ (bytes_eq-Decides x (get_or xs m [])).0 t))
        | inr f ↦ f
      ]

  module _ (bs : List ℕ) (b : ℕ) (each : bs ≡ map bucket_of_ends xs) (its : b ≡ bucket_of_ends x) where
    newest_is : (m : ℕ) → newest (equal x xs) bs b (length bs) ≡ m → m ≡ find x xs
    newest_is zero e = find_none x xs (none_equal bucket_of_ends x xs bs b each its e)
    newest_is (suc m) e =
        let p = one_equal bucket_of_ends x xs bs b each its m e in
        let more : suc m ≡ m + 1 = omega arith in
        more ∙ find_at x xs m p.0 p.1 (not_before m p.0 p.1)

    pub found_newest : newest (equal x xs) bs b (length bs) ≡ find x xs
    found_newest = newest_is (newest (equal x xs) bs b (length bs)) refl

-- the first contents
pub indexed_front : (bs : List ℕ) (xs ys : List (List ℕ)) (k : ℕ) → bs ≡ map bucket_of_ends xs → take k xs ≡ ys → take k bs ≡ map bucket_of_ends ys
indexed_front bs xs ys k e f = ap (take k) e ∙ take-map bucket_of_ends k xs ∙ ap (map bucket_of_ends) f
