-- The text in which the console tells hazards, stops, entries, and what steps, closes and builds came to.
use Rattle.std.specs.Prelude.{ℕ, ◌/◌, ◌%◌, Bool, cond, List, [], ◌++◌, codes, decimal, Some, None, Option}
use Rattle.model.specs.Answers.{fault_refusal}
use Rattle.model.specs.Numbers.{kind_number, number_of}
use Rattle.model.specs.declared.answers.Built.{Built}
use Rattle.model.specs.declared.answers.Stepped.{Stepped}
use Rattle.model.specs.declared.command.Command.{Command}
use Rattle.model.specs.declared.record.Standing.{Standing}
use Rattle.model.specs.declared.record.Standing.TheVariants.{Hint, Own, Struck}
use Rattle.model.specs.declared.record.Use.{Use}
use Rattle.model.specs.declared.run.Entry.{Entry}
use Rattle.model.specs.declared.run.Fault.{Fault}
use Rattle.model.specs.declared.run.Fault.TheVariants.{TooLong, NoRoom, Hazard, Absent, BadList}
use Rattle.model.specs.declared.run.Hazard.{Hazard as HazardMeant}
use Rattle.model.specs.declared.run.Stop.{Stop}
use Rattle.report.specs.Report.{kind_word}

-- a file, in two digits
abbrev pub file_word : ℕ → List ℕ
file_word f = decimal (f / 10) ++ decimal (f % 10)

abbrev pub pair_words : ℕ → ℕ → List ℕ
pair_words a b = decimal a ++ codes " " ++ decimal b

-- the kind, the file, the lines of the two entries, and their contents
abbrev pub hazard_words : HazardMeant → List ℕ
hazard_words h = kind_word h.kind ++ codes " " ++ file_word h.file ++ codes " " ++ pair_words h.earlier.line h.later.line ++ codes " " ++ pair_words h.earlier.number h.later.number

abbrev pub where_words : ℕ → Fault → List ℕ
where_words l (Hazard h) = hazard_words h
where_words l TooLong = decimal l
where_words l NoRoom = decimal l
where_words l Absent = decimal l
where_words l BadList = decimal l

abbrev pub stop_words : Stop → List ℕ
stop_words s = codes "stopped " ++ decimal (number_of (fault_refusal s.fault)) ++ codes " " ++ where_words s.line s.fault

-- a stop behind other words, if there is one
abbrev pub stop_behind : List ℕ → Option Stop → List ℕ
stop_behind before None = []
stop_behind before (Some s) = before ++ stop_words s

abbrev pub step_word : Bool → List ℕ
step_word skipped = cond skipped (codes "skip") (codes "act")

abbrev pub step_words : Stepped → List ℕ
step_words s = step_word s.skipped ++ codes " " ++ decimal s.line ++ stop_behind (codes " ") s.stop

abbrev pub count_words : Built → List ℕ
count_words b = codes "executed " ++ decimal b.executed ++ codes " skipped " ++ decimal b.skipped

abbrev pub built_words : Built → List ℕ
built_words b = count_words b ++ stop_behind (codes " first ") b.first

abbrev pub act_word : Bool → List ℕ
act_word wrote = cond wrote (codes "w") (codes "r")

abbrev pub entry_words : Entry → List ℕ
entry_words e = decimal e.line ++ codes " " ++ act_word e.wrote ++ codes " " ++ file_word e.file ++ codes " " ++ decimal e.number

abbrev pub standing_word : Standing → List ℕ
standing_word Hint = codes "hint"
standing_word Own = codes "own"
standing_word Struck = codes "struck"

abbrev pub command_words : Command → List ℕ
command_words c = decimal (kind_number c.kind) ++ codes " " ++ pair_words c.a c.b ++ codes " " ++ pair_words c.c c.d

abbrev pub use_words : Use → List ℕ
use_words u = file_word u.file ++ codes " " ++ decimal u.number
