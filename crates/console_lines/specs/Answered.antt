-- The lines that the console answers.
use Rattle.std.specs.Prelude.{ℕ, ◌+◌, cond, ◌==◌, List, [], ◌∷◌, ◌++◌, length, codes, decimal, Ok, Err, Result}
use Rattle.model.specs.Numbers.{number_of}
use Rattle.model.specs.Records.{Record}
use Rattle.model.specs.declared.answers.BuildRefusal.{BuildRefusal}
use Rattle.model.specs.declared.answers.BuildRefusal.TheVariants as unbuilt
use Rattle.model.specs.declared.answers.Built.{Built}
use Rattle.model.specs.declared.answers.CloseRefusal.{CloseRefusal}
use Rattle.model.specs.declared.answers.CloseRefusal.TheVariants as unclosed
use Rattle.model.specs.declared.answers.Closed.{Closed}
use Rattle.model.specs.declared.answers.Closed.TheVariants.{Kept, PutBack}
use Rattle.model.specs.declared.answers.StepRefusal.{StepRefusal}
use Rattle.model.specs.declared.answers.StepRefusal.TheVariants as unstepped
use Rattle.model.specs.declared.answers.Stepped.{Stepped}
use Rattle.model.specs.declared.record.Standing.{Standing}
use Rattle.model.specs.declared.record.Use.{Use}
use Rattle.model.specs.declared.refusal.Refusal.{Refusal}
use Rattle.model.specs.declared.refusal.Refusal.TheVariants.{RunStopped}
use Rattle.model.specs.declared.run.Entry.{Entry}
use Rattle.script.specs.Text.{Meaning}
use Rattle.script.specs.declared.answer.Refused.{Refused}
use Rattle.console_lines.specs.Hex.{word}
use Rattle.console_lines.specs.Told.{stop_words, step_words, built_words, entry_words, standing_word, command_words, use_words}

-- a line of its own
abbrev pub line : List ℕ → List ℕ
line words = words ++ codes "\n"

-- the last line of those that tell what files, pool, log and book hold
abbrev pub end_line : List ℕ
end_line = codes ".\n"

-- ANSWERS OF ONE LINE

abbrev pub refused_line : Refusal → List ℕ
refused_line r = line (codes "refused " ++ decimal (number_of r))

abbrev pub done_line : Result (Unit {0}) Refusal → List ℕ
done_line (Ok x) = codes "ok\n"
done_line (Err r) = refused_line r

-- what a text means, and how reading it ended
abbrev pub script_line : Meaning → Result (Unit {0}) Refused → List ℕ
script_line m (Ok x) = line (codes "lines " ++ decimal (length m.commands) ++ codes " haves " ++ decimal (length m.haves))
script_line m (Err e) = line (codes "refused " ++ decimal (number_of e.refusal) ++ codes " " ++ decimal e.line)

abbrev pub audit_line : Result Standing Refusal → List ℕ
audit_line (Ok s) = line (standing_word s)
audit_line (Err r) = refused_line r

abbrev pub step_line : Result Stepped StepRefusal → List ℕ
step_line (Ok s) = line (step_words s)
step_line (Err (unstepped.By r)) = refused_line r
step_line (Err (unstepped.Stopped y)) = line (codes "refused " ++ decimal (number_of RunStopped) ++ codes " " ++ stop_words y)

abbrev pub close_line : Result Closed CloseRefusal → List ℕ
close_line (Ok Kept) = codes "kept\n"
close_line (Ok PutBack) = codes "put back\n"
close_line (Err (unclosed.By r)) = refused_line r
close_line (Err (unclosed.Stopped y)) = line (stop_words y)

abbrev pub build_line : Result Built BuildRefusal → List ℕ
build_line (Ok b) = line (codes "kept " ++ built_words b)
build_line (Err (unbuilt.By r)) = refused_line r
build_line (Err (unbuilt.Stopped y b)) = line (stop_words y ++ codes " " ++ built_words b)

abbrev pub bytes_line : List ℕ → List ℕ
bytes_line bytes = line (word bytes)

-- WHAT FILES, POOL, LOG AND BOOK HOLD

abbrev pub use_of : ℕ → ℕ → Use
use_of f n = record { file = f; number = n }

-- a file, if it has a number above 0
abbrev pub file_line : ℕ → ℕ → List ℕ
file_line f n = cond (n == 0) [] (line (use_words (use_of f n)))

-- the files from f on, of which these are the numbers
abbrev pub file_lines : ℕ → List ℕ → List ℕ
file_lines f [] = []
file_lines f (n ∷ ns) = file_line f n ++ file_lines (f + 1) ns

abbrev pub content_line : ℕ → List ℕ → List ℕ
content_line n x = decimal n ++ codes " " ++ bytes_line x

-- the contents from number n on
abbrev pub content_lines : ℕ → List (List ℕ) → List ℕ
content_lines n [] = []
content_lines n (x ∷ xs) = content_line n x ++ content_lines (n + 1) xs

abbrev pub entry_lines : List Entry → List ℕ
entry_lines [] = []
entry_lines (e ∷ es) = line (entry_words e) ++ entry_lines es

abbrev pub read_words : List Use → List ℕ
read_words [] = []
read_words (u ∷ us) = codes " " ++ use_words u ++ read_words us

-- the standing, the command, its reads in order, and its write
abbrev pub record_line : Record → List ℕ
record_line r = standing_word r.standing ++ codes " " ++ command_words r.command ++ codes " :" ++ read_words r.reads ++ line (codes " > " ++ use_words r.write)

abbrev pub record_lines : List Record → List ℕ
record_lines [] = []
record_lines (r ∷ rs) = record_line r ++ record_lines rs
