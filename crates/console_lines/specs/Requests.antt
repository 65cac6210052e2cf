-- What each line of the console asks for.
use Rattle.std.specs.Prelude.{ℕ, cond, List, [], ◌∷◌, Some, None, Option, codes}
use Rattle.std.specs.Option.{option_map}
use Rattle.std.specs.Str.{bytes_eq}
use Rattle.model.specs.declared.answers.Wish.{Wish}
use Rattle.script.specs.Text.{words, comment}
use Rattle.console_lines.specs.Hex.{bytes_written}
use Rattle.console_lines.specs.Lists.{lines_written}
use Rattle.console_lines.specs.Names.{named}
use Rattle.console_lines.specs.Numbers.{number_up_to}
use Rattle.console_lines.specs.Words.{place, wish}
use Rattle.console_lines.specs.declared.plain.Plain.{Plain}
use Rattle.console_lines.specs.declared.start.Store.{Store}
use Rattle.console_lines.specs.declared.start.Store.TheVariants.{Table, Image}

-- WHAT MAY BE ASKED FOR

-- fresh parts: the store, and how much is lent to pool, log and book
pub record Fresh : Type 0 where
  pub store : Store
  pub bytes : ℕ
  pub places : ℕ
  pub entries : ℕ
  pub records : ℕ

-- a policy: three have a patience, and the last one also the lines that it wishes for
pub data PolicyAsked : Type 0 where
  in_order : PolicyAsked
  by_last : ℕ → PolicyAsked
  by_highest : ℕ → PolicyAsked
  by_list : ℕ → List ℕ → PolicyAsked

-- a name alone; fresh parts; the text of a script; a policy; a trace file; the record in a place of the book; a wish;
-- the bytes of an image
pub data Asked : Type 0 where
  plainly : Plain → Asked
  fresh : Fresh → Asked
  script_text : List ℕ → Asked
  policy : PolicyAsked → Asked
  trace_file : List ℕ → Asked
  audit : ℕ → Asked
  close : Wish → Asked
  image_bytes : List ℕ → Asked

-- a line is passed over, or is malformed, or asks for something
pub data Said : Type 0 where
  passed_over : Said
  malformed : Said
  asks : Asked → Said

-- what follows where a word is well formed
abbrev pub then : {X Y : Type 0} → Option X → (X → Option Y) → Option Y
then None more = None
then (Some x) more = more x

-- START STORE BYTES PLACES LOG BOOK

abbrev pub store_word : List ℕ → Option Store
store_word w = cond (bytes_eq w (codes "table")) (Some Table) (cond (bytes_eq w (codes "image")) (Some Image) None)

abbrev pub fresh_of : Store → ℕ → ℕ → ℕ → ℕ → Fresh
fresh_of s b p e r = record { store = s; bytes = b; places = p; entries = e; records = r }

abbrev pub fresh_words : List ℕ → List ℕ → List ℕ → List ℕ → List ℕ → Option Fresh
fresh_words s b p e r =
    then (store_word s) (λ s.
    then (number_up_to b 65536) (λ b.
    then (number_up_to p 1024) (λ p.
    then (number_up_to e 2048) (λ e.
    then (number_up_to r 256) (λ r. Some (fresh_of s b p e r))))))

abbrev pub fresh_written : List (List ℕ) → Option Fresh
fresh_written (s ∷ b ∷ p ∷ e ∷ r ∷ []) = fresh_words s b p e r
fresh_written _ = None

-- POLICY ORDER, POLICY LAST W, POLICY HIGH W, POLICY LIST W A,B,C

abbrev pub order_word : List ℕ → Option PolicyAsked
order_word w = cond (bytes_eq w (codes "order")) (Some in_order) None

abbrev pub patient_word : List ℕ → ℕ → Option PolicyAsked
patient_word w n = cond (bytes_eq w (codes "last")) (Some (by_last n)) (cond (bytes_eq w (codes "high")) (Some (by_highest n)) None)

abbrev pub patient_words : List ℕ → List ℕ → Option PolicyAsked
patient_words w n = then (number_up_to n 255) (patient_word w)

abbrev pub list_word : List ℕ → ℕ → List ℕ → Option PolicyAsked
list_word w n lines = cond (bytes_eq w (codes "list")) (Some (by_list n lines)) None

abbrev pub list_words : List ℕ → List ℕ → List ℕ → Option PolicyAsked
list_words w n l = then (number_up_to n 255) (λ n. then (lines_written l) (list_word w n))

abbrev pub policy_written : List (List ℕ) → Option PolicyAsked
policy_written [] = None
policy_written (w ∷ []) = order_word w
policy_written (w ∷ n ∷ []) = patient_words w n
policy_written (w ∷ n ∷ l ∷ []) = list_words w n l
policy_written (w ∷ n ∷ l ∷ x ∷ ws) = None

-- SCRIPT HEX, LOAD HEX, IMAGE HEX

abbrev pub bytes_word : List ℕ → List ℕ → Option Asked
bytes_word name bytes =
    cond (bytes_eq name (codes "script")) (Some (script_text bytes))
    (cond (bytes_eq name (codes "load")) (Some (trace_file bytes))
    (cond (bytes_eq name (codes "image")) (Some (image_bytes bytes)) None))

abbrev pub bytes_words : List ℕ → List ℕ → Option Asked
bytes_words name w = then (bytes_written w) (bytes_word name)

-- a name alone, or a name and one word in hexadecimal
abbrev pub short_written : List ℕ → List (List ℕ) → Option Asked
short_written name [] = option_map plainly (named name)
short_written name (w ∷ []) = bytes_words name w
short_written name (w ∷ x ∷ ws) = None

-- `audit I`, `close keep`, `close back`, or a shorter one
abbrev pub other_written : List ℕ → List (List ℕ) → Option Asked
other_written name ws =
    cond (bytes_eq name (codes "audit")) (option_map audit (place ws))
    (cond (bytes_eq name (codes "close")) (option_map close (wish ws)) (short_written name ws))

-- A LINE

-- what a first word and those after it ask for
abbrev pub request_written : List ℕ → List (List ℕ) → Option Asked
request_written name ws =
    cond (bytes_eq name (codes "start")) (option_map fresh (fresh_written ws))
    (cond (bytes_eq name (codes "policy")) (option_map policy (policy_written ws)) (other_written name ws))

-- a line that asks for nothing is malformed
abbrev pub said : Option Asked → Said
said None = malformed
said (Some a) = asks a

-- a line without words, and a comment, is passed over
abbrev pub words_say : List (List ℕ) → Said
words_say [] = passed_over
words_say (w ∷ ws) = cond (comment w) passed_over (said (request_written w ws))

abbrev pub line_written : List ℕ → Said
line_written line = words_say (words line)
