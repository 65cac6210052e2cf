-- The report of a build, byte for byte.
use Rattle.std.specs.Prelude.{ℕ, suc, ◌+◌, ◌/◌, ◌%◌, List, [], ◌∷◌, ◌++◌, length, Some, None, Ok, Err, codes, decimal, Option, Result, slice_index_or}
use Rattle.model.specs.Answers.{fault_refusal}
use Rattle.model.specs.Contents.{Content, Pool, told}
use Rattle.model.specs.Numbers.{number_of}
use Rattle.model.specs.declared.answers.BuildRefusal.{BuildRefusal}
use Rattle.model.specs.declared.answers.BuildRefusal.TheVariants as why
use Rattle.model.specs.declared.answers.Built.{Built}
use Rattle.model.specs.declared.run.Fault.{Fault}
use Rattle.model.specs.declared.run.Fault.TheVariants.{TooLong, NoRoom, Hazard, Absent, BadList}
use Rattle.model.specs.declared.run.HazardKind.{HazardKind}
use Rattle.model.specs.declared.run.HazardKind.TheVariants.{WriteWrite, ReadWrite, SpeculativeWriteRead}

-- NUMBERS AND WORDS

-- a file number, two digits
abbrev pub two_digits : ℕ → List ℕ
two_digits f = (48 + f / 10) ∷ (48 + f % 10) ∷ []

-- a space, then a number
abbrev pub then_number : ℕ → List ℕ
then_number n = 32 ∷ decimal n

abbrev pub kind_word : HazardKind → List ℕ
kind_word WriteWrite = codes "write-write"
kind_word ReadWrite = codes "read-write"
kind_word SpeculativeWriteRead = codes "speculative-write-read"

-- THE FIRST LINE

-- at a hazard its kind, its file, and the lines of the earlier and of the later act; else the line that stopped
abbrev pub where_stopped : ℕ → Fault → List ℕ
where_stopped l (Hazard h) = 32 ∷ kind_word h.kind ++ 32 ∷ two_digits h.file ++ then_number h.earlier.line ++ then_number h.later.line
where_stopped l TooLong = then_number l
where_stopped l NoRoom = then_number l
where_stopped l Absent = then_number l
where_stopped l BadList = then_number l

abbrev pub first_words : Result Built BuildRefusal → List ℕ
first_words (Ok b) = codes "kept executed" ++ then_number b.executed ++ codes " skipped" ++ then_number b.skipped
first_words (Err (why.Stopped y b)) = codes "stopped" ++ then_number (number_of (fault_refusal y.fault)) ++ where_stopped y.line y.fault
first_words (Err (why.By r)) = codes "refused" ++ then_number (number_of r)

-- A HELD FILE: two digits, its label, or `-` where it has none, and its length

abbrev pub label_word : List ℕ → List ℕ
label_word [] = 45 ∷ []
label_word (b ∷ bs) = b ∷ bs

abbrev pub file_words : ℕ → List ℕ → ℕ → List ℕ
file_words f label n = two_digits f ++ 32 ∷ label_word label ++ then_number n

abbrev pub held_line : ℕ → List ℕ → Option Content → List ℕ
held_line f label None = []
held_line f label (Some x) = file_words f label (length x) ++ 10 ∷ []

-- the files from f on, of which these are the numbers
abbrev pub file_lines : List (List ℕ) → Pool → ℕ → List ℕ → List ℕ
file_lines labels p f [] = []
file_lines labels p f (n ∷ ns) = held_line f (slice_index_or labels f []) (told p n) ++ file_lines labels p (suc f) ns

-- THE REPORT
abbrev pub report_bytes : Result Built BuildRefusal → List (List ℕ) → Pool → List ℕ → List ℕ
report_bytes a labels p fs = (first_words a ++ 10 ∷ []) ++ file_lines labels p 0 fs
