-- What a word shows: the part of the text that it is, and where it starts.
use Rattle.std.specs.Prelude.{◌≡◌, ℕ, ◌+◌, ◌<◌, ◌≤◌, List, ◌∷◌, length, take, drop}
use Rattle.script.specs.Text.{words}

-- The first word of a text from a place on is this part of it, which is as long as it can be: the other words come after it.
pub record FirstWord (text : List ℕ) (from start : ℕ) (word : List ℕ) : Type 0 where
  pub first : words (drop from text) ≡ word ∷ words (drop (start + length word) text)
  pub part : word ≡ take (length word) (drop start text)
  pub after : from ≤ start
  pub some : 0 < length word
  pub within : start + length word ≤ length text
