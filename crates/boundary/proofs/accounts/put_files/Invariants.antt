-- The numbers of the files so far are written.
use Rattle.std.proofs.Common.{take}
use Rattle.std.specs.List.{flat_map}
use Rattle.output.specs.Writes.{Writes}
use Rattle.trace.specs.Reads.{two_bytes}
use Rattle.boundary.proofs.accounts.put_files.Given as goal

abbrev pub invariant-loop-file : goal.invariant-loop-file
invariant-loop-file g l = Writes (flat_map two_bytes (take l.file (g.F.FileStore.map l.files))) l.initial.out l.out
