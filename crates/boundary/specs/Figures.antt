-- What is told of a text that is read as a script.
use Rattle.std.specs.Prelude.{ℕ, length, Ok, Err, Result}
use Rattle.model.specs.Numbers.{number_of}
use Rattle.script.specs.Text.{Meaning}
use Rattle.script.specs.declared.answer.Refused.{Refused}
use Rattle.boundary.specs.declared.figures.Figures.{Figures}

-- the counts of a script's lines and starting contents
abbrev pub counted : Meaning → Figures
counted m = record { lines = length m.commands; haves = length m.haves; refused_at = 0 }

-- 0, or the number of the refusal
abbrev pub number_read : Result Meaning Refused → ℕ
number_read (Ok m) = 0
number_read (Err e) = number_of e.refusal

abbrev pub figures_read : Result Meaning Refused → Figures
figures_read (Ok m) = counted m
figures_read (Err e) = record { lines = 0; haves = 0; refused_at = e.line }
