-- What the text of a script means: its text lines and words, what each text line adds or why it is refused, and so for the whole text.
use Rattle.std.specs.Prelude.{ℕ, ◌+◌, Bool, false, cond, not, ◌&&◌, ◌||◌, List, [], ◌∷◌, ◌++◌, length, replicate, is_some, Some, None, Ok, Err, codes, Option, Result, ◌==◌, nat_le, nat_lt, slice_index, slice_index_or, slice_set, find}
use Rattle.std.specs.List.{list_all, position_from}
use Rattle.std.specs.Option.{option_map}
use Rattle.std.specs.Str.{bytes_eq}
use Rattle.model.specs.Digits.{digit, file_number}
use Rattle.model.specs.Numbers.{arity, kind_name}
use Rattle.model.specs.declared.command.Command.{Command}
use Rattle.model.specs.declared.command.Kind.{Kind}
use Rattle.model.specs.declared.command.Kind.TheVariants.{Copy, Join, Gather, Choose, Tally, Check}
use Rattle.model.specs.declared.refusal.Refusal.{Refusal}
use Rattle.model.specs.declared.refusal.Refusal.TheVariants.{TextTooLong, BadTextLine, BadLabel, ScriptFull, HaveTooLong}
use Rattle.script.specs.declared.answer.Refused.{Refused}
use Rattle.script.specs.declared.verb.Verb.{Verb}
use Rattle.script.specs.declared.verb.Verb.TheVariants as verb

-- WHAT A SCRIPT SAYS

-- a starting content and its file
pub record Start : Type 0 where
  pub file : ℕ
  pub content : List ℕ

-- the label of each of the 64 files, empty where it has none; the starting contents; the lines
pub record Meaning : Type 0 where
  pub labels : List (List ℕ)
  pub haves : List Start
  pub commands : List Command

abbrev pub nothing : Meaning
nothing = record { labels = replicate 64 []; haves = []; commands = [] }

-- TEXT LINES AND WORDS

-- a byte put before the first piece
abbrev pub onto : ℕ → List (List ℕ) → List (List ℕ)
onto b [] = (b ∷ []) ∷ []
onto b (p ∷ ps) = (b ∷ p) ∷ ps

-- the pieces of a text, each of which ends at the next byte c or at the end of the text
abbrev pub cut : ℕ → List ℕ → List (List ℕ)
cut c [] = []
cut c (b ∷ bs) = cond (b == c) ([] ∷ cut c bs) (onto b (cut c bs))

-- the pieces that hold something
abbrev pub filled : List (List ℕ) → List (List ℕ)
filled [] = []
filled ([] ∷ ps) = filled ps
filled ((b ∷ bs) ∷ ps) = (b ∷ bs) ∷ filled ps

-- text lines end with byte 10, words are separated by spaces
abbrev pub lines : List ℕ → List (List ℕ)
lines text = cut 10 text

abbrev pub words : List ℕ → List (List ℕ)
words line = filled (cut 32 line)

-- a byte of a word, or a space
abbrev pub plain : ℕ → Bool
plain b = nat_le 32 b && nat_le b 126

-- SINGLE WORDS

-- the command of a name
abbrev pub kind_of : List ℕ → Option Kind
kind_of w = find (λ k. bytes_eq w (kind_name k)) (Copy ∷ Join ∷ Gather ∷ Choose ∷ Tally ∷ Check ∷ [])

-- byte 35 is `#`
abbrev pub comment : List ℕ → Bool
comment [] = false
comment (b ∷ bs) = b == 35

-- what a first word says that its text line is
abbrev pub verb_of : List ℕ → Option Verb
verb_of w =
    cond (comment w) (Some verb.Comment)
    (cond (bytes_eq w (codes "file")) (Some verb.File)
    (cond (bytes_eq w (codes "have")) (Some verb.Have) (option_map verb.Command (kind_of w))))

-- a to z, 0 to 9, full stop, minus
abbrev pub label_byte : ℕ → Bool
label_byte b = (nat_le 97 b && nat_le b 122) || digit b || b == 46 || b == 45

-- at most 16 bytes; a word has one at least
abbrev pub is_label : List ℕ → Bool
is_label w = nat_le (length w) 16 && list_all label_byte w

-- the file that has a label; a file without one has [] in the list, which is no word
abbrev pub file_of : List (List ℕ) → List ℕ → Option ℕ
file_of ls w = position_from (λ l. bytes_eq l w) 0 ls

-- the files of several labels, if all have one
abbrev pub before : Option ℕ → Option (List ℕ) → Option (List ℕ)
before None fs = None
before (Some f) fs = option_map (λ gs. f ∷ gs) fs

abbrev pub files_of : List (List ℕ) → List (List ℕ) → Option (List ℕ)
files_of ls [] = Some []
files_of ls (w ∷ ws) = before (file_of ls w) (files_of ls ws)

-- WHAT ONE TEXT LINE ADDS

abbrev pub with_label : Meaning → ℕ → List ℕ → Meaning
with_label s n l = record { labels = slice_set s.labels n l; haves = s.haves; commands = s.commands }

abbrev pub with_have : Meaning → ℕ → List ℕ → Meaning
with_have s f c = record { labels = s.labels; haves = s.haves ++ record { file = f; content = c } ∷ []; commands = s.commands }

abbrev pub with_command : Meaning → Command → Meaning
with_command s k = record { labels = s.labels; haves = s.haves; commands = s.commands ++ k ∷ [] }

-- neither the number nor the label is given yet
abbrev pub free : Meaning → ℕ → List ℕ → Bool
free s n l = length (slice_index_or s.labels n []) == 0 && not (is_some (file_of s.labels l))

abbrev pub add_label : Meaning → ℕ → List ℕ → Result Meaning Refusal
add_label s n l = cond (is_label l && free s n l) (Ok (with_label s n l)) (Err BadLabel)

abbrev pub add_have : Meaning → ℕ → List ℕ → Result Meaning Refusal
add_have s f c = cond (nat_lt 4096 (length c)) (Err HaveTooLong) (cond (nat_lt (length s.haves) 64) (Ok (with_have s f c)) (Err ScriptFull))

abbrev pub add_command : Meaning → Command → Result Meaning Refusal
add_command s k = cond (nat_lt (length s.commands) 64) (Ok (with_command s k)) (Err ScriptFull)

-- what follows where a number or a label is known, and a refusal where it is not
abbrev pub given : {X : Type 0} → Option X → (X → Result Meaning Refusal) → Result Meaning Refusal
given None more = Err BadLabel
given (Some x) more = more x

-- two words after the first
abbrev pub two : List (List ℕ) → (List ℕ → List ℕ → Result Meaning Refusal) → Result Meaning Refusal
two [] more = Err BadTextLine
two (a ∷ []) more = Err BadTextLine
two (a ∷ b ∷ []) more = more a b
two (a ∷ b ∷ x ∷ xs) more = Err BadTextLine

-- `file NN label`
abbrev pub file_line : Meaning → List (List ℕ) → Result Meaning Refusal
file_line s ws = two ws (λ n l. given (file_number n) (λ f. add_label s f l))

-- `have label content`
abbrev pub have_line : Meaning → List (List ℕ) → Result Meaning Refusal
have_line s ws = two ws (λ l c. given (file_of s.labels l) (λ f. add_have s f c))

-- a command and its labels; the files that it does not name are 0
abbrev pub command_on : Kind → List ℕ → Command
command_on k fs = record { kind = k; a = slice_index fs 0; b = slice_index fs 1; c = slice_index fs 2; d = slice_index fs 3 }

abbrev pub command_line : Meaning → Kind → List (List ℕ) → Result Meaning Refusal
command_line s k ws =
    cond (length ws == arity k) (given (files_of s.labels ws) (λ fs. add_command s (command_on k fs))) (Err BadTextLine)

abbrev pub verb_line : Meaning → Option Verb → List (List ℕ) → Result Meaning Refusal
verb_line s None ws = Err BadTextLine
verb_line s (Some verb.Comment) ws = Ok s
verb_line s (Some verb.File) ws = file_line s ws
verb_line s (Some verb.Have) ws = have_line s ws
verb_line s (Some (verb.Command k)) ws = command_line s k ws

abbrev pub words_line : Meaning → List (List ℕ) → Result Meaning Refusal
words_line s [] = Ok s
words_line s (w ∷ ws) = verb_line s (verb_of w) ws

abbrev pub line_adds : Meaning → List ℕ → Result Meaning Refusal
line_adds s line = cond (list_all plain line) (words_line s (words line)) (Err BadTextLine)

-- THE WHOLE TEXT

-- a refused text line ends the reading, and its number is told
abbrev pub then : ℕ → Result Meaning Refusal → (Meaning → Result Meaning Refused) → Result Meaning Refused
then n (Ok s) more = more s
then n (Err c) more = Err (record { refusal = c; line = n })

abbrev pub from_line : List (List ℕ) → ℕ → Meaning → Result Meaning Refused
from_line [] n s = Ok s
from_line (l ∷ ls) n s = then n (line_adds s l) (from_line ls (n + 1))

abbrev pub reading : List ℕ → Result Meaning Refused
reading text = cond (nat_lt 16384 (length text)) (Err (record { refusal = TextTooLong; line = 0 })) (from_line (lines text) 1 nothing)
