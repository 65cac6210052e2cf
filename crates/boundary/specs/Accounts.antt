-- What is told of builds, in bytes.
use Rattle.std.specs.Prelude.{◌≡◌, ℕ, ◌+◌, ◌-◌, ◌/◌, ◌%◌, cond, List, ◌∷◌, ◌++◌, length, Some, None, Ok, Err, Option, Result, nat_le}
use Rattle.std.specs.List.{flat_map}
use Rattle.model.specs.Answers.{fault_refusal, unbuilt}
use Rattle.model.specs.Load.{Traced}
use Rattle.model.specs.Numbers.{number_of}
use Rattle.model.specs.World.{World}
use Rattle.model.specs.declared.answers.BuildRefusal.{BuildRefusal}
use Rattle.model.specs.declared.answers.BuildRefusal.TheVariants.{By, Stopped}
use Rattle.model.specs.declared.answers.Built.{Built}
use Rattle.model.specs.declared.run.Stop.{Stop}
use Rattle.output.specs.Writes.{laid}
use Rattle.report.specs.Report.{report_bytes}
use Rattle.script.specs.Text.{reading}
use Rattle.trace.specs.Format.{encoded}
use Rattle.trace.specs.Reads.{two_bytes}
use Rattle.trace_write.specs.Saves.{to_save}
use Rattle.boundary.specs.Rounds.{Start, Chained, last_text, labels_by}

-- THE HEAD: the number of the end, 0 where it was kept, and that of the first stop, 0 where there was none; the lines
-- executed and skipped; the files

-- what the runs of a build did
abbrev pub did : Result Built BuildRefusal → Built
did (Ok b) = b
did (Err (Stopped y b)) = b
did (Err (By r)) = record { first = None; executed = 0; skipped = 0 }

abbrev pub end_number : Result Built BuildRefusal → ℕ
end_number (Ok b) = 0
end_number (Err e) = number_of (unbuilt e)

abbrev pub stop_number : Option Stop → ℕ
stop_number None = 0
stop_number (Some y) = number_of (fault_refusal y.fault)

abbrev pub head : Result Built BuildRefusal → List ℕ → List ℕ
head a fs =
    (end_number a ∷ stop_number (did a).first ∷ (two_bytes (did a).executed ++ two_bytes (did a).skipped)) ++ flat_map two_bytes fs

-- THE REPORT, after its length
abbrev pub after_length : List ℕ → List ℕ
after_length xs = two_bytes (length xs) ++ xs

-- THE TRACE FILE, after its length in four bytes; where it has no room, the length 0
abbrev pub four_bytes : ℕ → List ℕ
four_bytes n = two_bytes (n / 65536) ++ two_bytes (n % 65536)

abbrev pub trace_part : ℕ → Traced → List ℕ
trace_part room t = cond (nat_le (length (encoded t)) room) (four_bytes (length (encoded t)) ++ encoded t) (four_bytes 0)

-- THE WHOLE, in a buffer of so many bytes
abbrev pub before_trace : List (List ℕ) → Result Built BuildRefusal → World → List ℕ
before_trace labels a v = head a v.files ++ after_length (report_bytes a labels v.pool v.files)

abbrev pub account : ℕ → List (List ℕ) → Result Built BuildRefusal → World → List ℕ
account size labels a v =
    let xs = before_trace labels a v in
    xs ++ trace_part (size - (length xs + 4)) (to_save v.pool v.records)

-- ACCOUNTED: a buffer begins with what is told of texts that were released from a start, and n is how long that is
pub record Accounted (start : World) (m : ℕ) (first second : List ℕ) (times : ℕ) (old new : List ℕ) (n : ℕ) : Type 0 where
  pub answer : Result Built BuildRefusal
  pub world : World
  pub chained : Chained m first second times answer start world
  pub bytes : new ≡ laid 0 (account 90000 (labels_by (reading (last_text first second times))) answer world) old
  pub len : n ≡ length (account 90000 (labels_by (reading (last_text first second times))) answer world)

-- the same from some start over so much lent memory
pub record FromStart (places room log book m : ℕ) (first second : List ℕ) (times : ℕ) (old new : List ℕ) (n : ℕ) : Type 0 where
  pub start : World
  pub starts : Start places room log book start
  pub accounted : Accounted start m first second times old new n
