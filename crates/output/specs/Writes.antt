-- Bytes that are written into a buffer.
use Rattle.std.specs.Prelude.{◌≡◌, ℕ, ◌+◌, ◌≤◌, List, ◌++◌, length, take, drop}
use Rattle.output.specs.declared.writing.Output.{Output}

-- the bytes of the buffer, and how many of them are written
abbrev pub buffer : Output → List ℕ
buffer o = o.bytes.now

abbrev pub written : Output → ℕ
written o = o.len

-- it writes into a buffer that it was given, by the name of the borrow
abbrev pub Into : ℕ → Output → Type 0
Into name o = o.bytes.ghost_name ≡ name

-- a buffer with other bytes from a place on, and the same before and after them
abbrev pub laid : ℕ → List ℕ → List ℕ → List ℕ
laid at xs out = take at out ++ (xs ++ drop (at + length xs) out)

-- so many bytes more fit
abbrev pub Room : ℕ → Output → Type 0
Room n o = written o + n ≤ length (buffer o)

-- some bytes fit and are written after those before them, and the buffer is the same one
pub record Writes (piece : List ℕ) (old new : Output) : Type 0 where
  pub fits : Room (length piece) old
  pub bytes : buffer new ≡ laid (written old) piece (buffer old)
  pub len : written new ≡ written old + length piece
  pub size : length (buffer new) ≡ length (buffer old)
  pub same : new.bytes.ghost_name ≡ old.bytes.ghost_name
