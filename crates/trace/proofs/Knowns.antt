-- A content among earlier ones, by the index of their buckets.
use Rattle.std.proofs.Common.{◌≡◌, ℕ, zero, suc, ◌<◌, false, List, [], ◌∷◌, map, length, get_or, sym, refl, arith}
use Rattle.std.proofs.lemmas.Bool.{or_from}
use Rattle.std.proofs.lemmas.List.Folds.{list_any_at}
use Rattle.std.specs.Option.{is_some}
use Rattle.std.specs.Str.{bytes_eq}
use Rattle.index.proofs.Equals.{none_equal, one_equal}
use Rattle.index.specs.Equal.{equal}
use Rattle.index.specs.Newest.{newest, numbered}
use Rattle.index.specs.Sums.{bucket_of_ends}
use Rattle.model.specs.Contents.{mem}

none_mem : (x : List ℕ) (xs : List (List ℕ)) → ((k : ℕ) → k < length xs → bytes_eq x (get_or xs k []) ≡ false) → mem x xs ≡ false
none_mem x [] h = refl
none_mem x (y ∷ xs) h =
    or_from (bytes_eq x y) (mem x xs) (h 0 (omega arith)) (none_mem x xs (λ k l. h (suc k) (omega arith)))

module _ (x : List ℕ) (xs : List (List ℕ)) (bs : List ℕ) (b : ℕ) (each : bs ≡ map bucket_of_ends xs) (its : b ≡ bucket_of_ends x) where
  newest_known : (m : ℕ) → newest (equal x xs) bs b (length bs) ≡ m → is_some (numbered m) ≡ mem x xs
  newest_known zero e = sym (none_mem x xs (none_equal bucket_of_ends x xs bs b each its e))
  newest_known (suc m) e =
      let p = one_equal bucket_of_ends x xs bs b each its m e in
      sym (list_any_at (bytes_eq x) xs m [] p.0 p.1)

  pub known : is_some (numbered (newest (equal x xs) bs b (length bs))) ≡ mem x xs
  known = newest_known (newest (equal x xs) bs b (length bs)) refl
