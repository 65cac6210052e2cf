-- A turn writes the number of its file; after 64 of them all are written.
use Rattle.std.proofs.Common.{ap, arith}
use Rattle.output.proofs.Steps.{as_bytes}
use Rattle.trace.specs.Reads.{two_bytes}
use Rattle.boundary.proofs.Accounting.{room, more}
use Rattle.boundary.proofs.accounts.put_files.Goals as goal

pub put_number-requires : goal.put_number-requires
put_number-requires g c =
    room (g.F.FileStore.map c.args.files.now) (g.met.F.FileStore.long c.args.files.now) c.loop-file.file (omega arith) c.loop-file.invariant c.requires

pub loop-file-preserved : goal.loop-file-preserved
loop-file-preserved g c =
    more (g.F.FileStore.map c.args.files.now) (g.met.F.FileStore.long c.args.files.now) c.loop-file.file (omega arith) c.loop-file.invariant
    (as_bytes _ (ap two_bytes c.tell.ensures) c.put_number.ensures)
