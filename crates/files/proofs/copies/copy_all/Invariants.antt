-- The files below the counter have their numbers.
use Rattle.std.proofs.Common.{◌≡◌, take}
use Rattle.files.proofs.copies.copy_all.Given as goal

abbrev pub invariant-loop-file : goal.invariant-loop-file
invariant-loop-file g l = take l.file (g.G.FileStore.map l.to) ≡ take l.file (g.F.FileStore.map l.from)
