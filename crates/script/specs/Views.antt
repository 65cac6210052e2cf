-- What the tables of a script hold, as values without references.
use Rattle.std.specs.Prelude.{ℕ, ◌-◌, List, ◌++◌, map, length, replicate, Ok, Err, Result}
use Rattle.script.specs.Text.{Start, Meaning}
use Rattle.script.specs.declared.answer.Have.{Have}
use Rattle.script.specs.declared.tables.Tables.{Tables}

-- what a `have` that was handed out says
abbrev pub start_of : Have → Start
start_of h = record { file = h.file; content = h.content.now }

-- the files of a command in four places, unused ones 0
abbrev pub four : List ℕ → List ℕ
four fs = fs ++ replicate (4 - length fs) 0

abbrev pub held : Tables → Meaning
held s =
    record {
      labels = map (λ x. x.now) s.labels;
      haves = map start_of s.haves.items;
      commands = s.commands.items;
    }

-- what a call that changes tables comes to
abbrev pub changed : {U E : Type 0} → Result U E → Tables → Result Meaning E
changed (Ok x) s = Ok (held s)
changed (Err e) s = Err e

-- what a call that makes tables comes to
abbrev pub made : {E : Type 0} → Result Tables E → Result Meaning E
made (Ok s) = Ok (held s)
made (Err e) = Err e
