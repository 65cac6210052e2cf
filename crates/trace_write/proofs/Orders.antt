-- Numbers that are listed in order of first use.
use Rattle.std.proofs.Common.{◌≡◌, ℕ, ◌<◌, ◌≤◌, false, eqb, List, [], ◌∷◌, ◌++◌, map, length, arith}
use Rattle.std.proofs.ByRecursion.{All-push, All-weaker}
use Rattle.std.proofs.lemmas.List.{length_push}
use Rattle.std.specs.List.{AllByRecursion, list_any}
use Rattle.trace_write.proofs.Lists.{not_there, apart_push, no_more}
use Rattle.trace_write.specs.Rooms.{Number, Apart}

-- a number that is not listed yet
module _ (ns : List ℕ) (all : AllByRecursion Number ns) (one : Apart ns) (n : ℕ) (number : Number n) (new : list_any (λ m. eqb m n) ns ≡ false) where
  pub note_numbers : AllByRecursion Number (ns ++ n ∷ [])
  note_numbers = All-push Number ns n all number

  pub note_apart : Apart (ns ++ n ∷ [])
  note_apart = apart_push ns n one (not_there n ns new)

  -- one more number of a pool has a place
  pub note_room : length ns < 1024
  note_room =
      let few =
      no_more 1024 (ns ++ n ∷ []) (All-weaker Number (λ k. 1 ≤ k) (λ k h. h.0) _ note_numbers) (All-weaker Number (λ k. k ≤ 1024) (λ k h. h.1) _ note_numbers) note_apart in
      omega (arith, length_push ns n, few)

-- the numbers of a record
module _ {X : Type 0} (f : X → ℕ) where
  pub named_reads : (us : List X) (n : ℕ) → AllByRecursion Number (map f us ++ n ∷ []) → AllByRecursion (λ u. Number (f u)) us
  named_reads [] n a = tt
  named_reads (u ∷ us) n a = (a.0, named_reads us n a.1)

  pub named_write : (us : List X) (n : ℕ) → AllByRecursion Number (map f us ++ n ∷ []) → Number n
  named_write [] n a = a.0
  named_write (u ∷ us) n a = named_write us n a.1
