-- What a record of the code says.
use Rattle.std.specs.Prelude.{min, List, take}
use Rattle.model.specs.declared.command.Command.{Command}
use Rattle.model.specs.declared.record.Record as Code
pub use Rattle.model.specs.declared.record.Standing.{Standing}
pub use Rattle.model.specs.declared.record.Use.{Use}

-- A command, its reads in order, its write, and its standing.
pub record Record : Type 0 where
  pub command : Command
  pub reads : List Use
  pub write : Use
  pub standing : Standing

-- the record that the code holds in sixteen places and a count
abbrev pub said : Code.Record → Record
said r = record { command = r.command; reads = take (min r.count 16) r.reads; write = r.write; standing = r.standing }
