-- The three ways in which entries meet, by their kind.
use Rattle.std.specs.Prelude.{Bool, List, None, Option}
use Rattle.model.specs.declared.run.Entry.{Entry}
use Rattle.model.specs.declared.run.Hazard.{Hazard}
use Rattle.model.specs.declared.run.HazardKind.{HazardKind}
use Rattle.model.specs.declared.run.HazardKind.TheVariants.{WriteWrite, ReadWrite, SpeculativeWriteRead}
use Rattle.model.specs.Hazards.{write_write, read_write, speculative_write_read, earliest, hazard_or}

-- a new entry meets an earlier one in this way
abbrev pub meets : HazardKind → Entry → Entry → Bool
meets WriteWrite = write_write
meets ReadWrite = read_write
meets SpeculativeWriteRead = speculative_write_read

-- the hazard of a new write
abbrev pub write_hazard : Entry → List Entry → Option Hazard
write_hazard n es = hazard_or WriteWrite n (earliest (write_write n) es) (hazard_or ReadWrite n (earliest (read_write n) es) None)
