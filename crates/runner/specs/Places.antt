-- The place of a record in a book.
use Rattle.std.specs.Prelude.{ℕ, not, List, Option}
use Rattle.std.specs.List.{position}
use Rattle.model.specs.Book.{same_command, in_script}
use Rattle.model.specs.Records.{Record}
use Rattle.model.specs.declared.command.Command.{Command}

-- of the record of a command
abbrev pub place_of : Command → List Record → Option ℕ
place_of c rs = position (λ r. same_command c r.command) rs

-- the lowest whose command is not in the script
abbrev pub free_place : List Command → List Record → Option ℕ
free_place cs rs = position (λ r. not (in_script r.command cs)) rs
