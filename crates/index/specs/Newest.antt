-- The newest element of a bucket that passes a test.
use Rattle.std.specs.Prelude.{ℕ, zero, suc, Bool, true, cond, ◌&&◌, ◌==◌, List, Some, None, Option, slice_index_or}

-- The number of the newest of the first n elements that lies in the bucket and passes the test, 0 if none does.
-- Elements are numbered from 1, and `buckets` tells the bucket of each.
abbrev pub newest : (ℕ → Bool) → List ℕ → ℕ → ℕ → ℕ
newest is buckets bucket zero = 0
newest is buckets bucket (suc n) =
    cond (is (suc n) && (slice_index_or buckets n 0 == bucket)) (suc n) (newest is buckets bucket n)

-- the newest of them that lies in the bucket
abbrev pub last : List ℕ → ℕ → ℕ → ℕ
last = newest (λ _. true)

-- a number, none for 0
abbrev pub numbered : ℕ → Option ℕ
numbered zero = None
numbered (suc n) = Some (suc n)
