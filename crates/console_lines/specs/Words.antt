-- What the words after a command's name say.
use Rattle.std.specs.Prelude.{ℕ, cond, List, [], ◌∷◌, Some, None, Option, codes}
use Rattle.std.specs.Str.{bytes_eq}
use Rattle.model.specs.declared.answers.Wish.{Wish}
use Rattle.model.specs.declared.answers.Wish.TheVariants.{Keep, PutBack}
use Rattle.console_lines.specs.Numbers.{number_up_to}

-- one word, a place of the book
abbrev pub place : List (List ℕ) → Option ℕ
place [] = None
place (w ∷ []) = number_up_to w 65535
place (w ∷ x ∷ ws) = None

abbrev pub wish_word : List ℕ → Option Wish
wish_word w = cond (bytes_eq w (codes "keep")) (Some Keep) (cond (bytes_eq w (codes "back")) (Some PutBack) None)

-- one word, the wish of a close
abbrev pub wish : List (List ℕ) → Option Wish
wish [] = None
wish (w ∷ []) = wish_word w
wish (w ∷ x ∷ ws) = None
