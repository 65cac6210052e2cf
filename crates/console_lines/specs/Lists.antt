-- The lists of lines that a policy wishes for.
use Rattle.std.specs.Prelude.{ℕ, cond, List, [], ◌∷◌, ◌++◌, length, Some, None, Option, ◌==◌, nat_lt}
use Rattle.console_lines.specs.Numbers.{number_up_to}

-- a line behind others, of which a list has 64 at most
abbrev pub added : List ℕ → Option ℕ → Option (List ℕ)
added lines None = None
added lines (Some line) = cond (nat_lt (length lines) 64) (Some (lines ++ line ∷ [])) None

-- the line that a piece writes, behind others
abbrev pub push : Option (List ℕ) → List ℕ → Option (List ℕ)
push None piece = None
push (Some lines) piece = added lines (number_up_to piece 63)

-- some lines, then those of a piece that has begun and of the bytes after it; a comma ends a piece
abbrev pub lines_from : Option (List ℕ) → List ℕ → List ℕ → Option (List ℕ)
lines_from lines piece [] = push lines piece
lines_from lines piece (b ∷ bs) = cond (b == 44) (lines_from (push lines piece) [] bs) (lines_from lines (piece ++ b ∷ []) bs)

-- the lines that a word lists
abbrev pub lines_written : List ℕ → Option (List ℕ)
lines_written word = lines_from (Some []) [] word
