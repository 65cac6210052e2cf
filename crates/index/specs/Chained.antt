-- What the tables of an index hold.
use Rattle.std.specs.Prelude.{◌≡◌, ℕ, ◌<◌, ◌≤◌, List, slice_index_or}
use Rattle.index.specs.Newest.{last}

-- The head of a bucket is the newest of its elements; before an element is the next older one of its bucket.
pub record Chained (heads before buckets : List ℕ) (count : ℕ) : Type 0 where
  pub fits : count ≤ 1024
  pub low : (k : ℕ) → k < count → slice_index_or buckets k 0 < 1024
  pub newest : (b : ℕ) → b < 1024 → slice_index_or heads b 0 ≡ last buckets b count
  pub older : (k : ℕ) → k < count → slice_index_or before k 0 ≡ last buckets (slice_index_or buckets k 0) k
