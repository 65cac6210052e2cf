-- What is told of builds, where memory is lent in part and a buffer is longer than what is used of it.
use Rattle.std.proofs.Common.{◌≡◌, ℕ, ◌≤◌, min, List, [], ◌++◌, take, drop, length, ap, ◌∙◌, arith}
use Rattle.std.proofs.lemmas.List.{length-take}
use Rattle.model.specs.Contents.{Pool}
use Rattle.script.specs.Text.{reading}
use Rattle.boundary.specs.Accounts.{account, FromStart}
use Rattle.boundary.specs.Puts.{fresh_pool}
use Rattle.boundary.specs.Rounds.{last_text, labels_by}
use Rattle.boundary.proofs.Parts.{into_front}

pub same_pool : (lent places room : ℕ) → min lent 1024 ≡ min places 1024 → fresh_pool lent room ≡ fresh_pool places room
same_pool lent places room e = let make : ℕ → Pool = λ n. record { contents = []; places = n; room = min room 65536 } in ap make e

module _ {m times n : ℕ} {first second old new : List ℕ} where
  pub in_part : {lent_places lent_log lent_book places room log book : ℕ} → fresh_pool lent_places room ≡ fresh_pool places room → lent_log ≡ log → min lent_book 256 ≡ min book 256 →
      FromStart lent_places room lent_log lent_book m first second times old new n → FromStart places room log book m first second times old new n
  in_part pool_is log_is book_is x = record {
    start = x.start;
    starts = record { fresh = x.starts.fresh; pool = x.starts.pool ∙ pool_is; log_places = x.starts.log_places ∙ log_is; book_places = x.starts.book_places ∙ book_is };
    accounted = x.accounted;
  }

module _ {places room log book m times n : ℕ} {first second new : List ℕ} (out : List ℕ) (long : 90000 ≤ length out) (fits : n ≤ 90000) where
  pub in_longer : FromStart places room log book m first second times (take 90000 out) new n → FromStart places room log book m first second times out (new ++ drop 90000 out) n
  in_longer x =
      let a = x.accounted in
      record {
        start = x.start;
        starts = x.starts;
        accounted = record {
          answer = a.answer;
          world = a.world;
          chained = a.chained;
          bytes = ap (λ r. r ++ drop 90000 out) a.bytes ∙ into_front 90000 (account 90000 (labels_by (reading (last_text first second times))) a.answer a.world) out (omega (arith, a.len)) long;
          len = a.len;
        };
      }

-- how much is lent of what there is
pub lent_is : {X : Type 0} (k n most : ℕ) (xs : List X) → length xs ≡ most → k ≡ min n most → length (take k xs) ≡ min n most
lent_is k n most xs size is = omega (arith, length-take k xs)

pub used_is : {X : Type 0} (k n most : ℕ) (xs : List X) → length xs ≡ most → k ≡ min n most → min (length (take k xs)) most ≡ min n most
used_is k n most xs size is = omega (arith, length-take k xs)
