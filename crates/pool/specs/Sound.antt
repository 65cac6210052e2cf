-- What holds of every pool of the code, told of the model's pool that it means.
use Rattle.std.specs.Prelude.{ℕ, ◌<◌, ◌≤◌, List, [], length, ◌≢◌, slice_index_or}
use Rattle.model.specs.Contents as Model

-- no two contents are equal
abbrev pub Apart : List (List ℕ) → Type 0
Apart xs = (i j : ℕ) → i < j → j < length xs → slice_index_or xs i [] ≢ slice_index_or xs j []

-- A pool is within its places and its room, its contents are short, and no two are equal.
pub record Sound (p : Model.Pool) : Type 0 where
  pub count : Model.count p ≤ p.places
  pub used : Model.used p.contents ≤ p.room
  pub places : p.places ≤ 1024
  pub room : p.room ≤ 65536
  pub short : (k : ℕ) → k < Model.count p → length (slice_index_or p.contents k []) ≤ 4096
  pub apart : Apart p.contents
