-- What is left of the starting contents gives the files and the pool.
use Rattle.pool.specs.Contents.{meant}
use Rattle.script.specs.Scripts.{meaning}
use Rattle.script.specs.Haves.{haves_of}
use Rattle.runner.proofs.Laying.{Left}
use Rattle.runner.proofs.log.laying.put_starts.Given as goal

abbrev pub invariant-loop-have : goal.invariant-loop-have
invariant-loop-have g l = Left (haves_of (meaning l.script).haves) (g.F.FileStore.map l.initial.files) (g.F.FileStore.map l.files) (meant l.initial.pool) (meant l.pool) l.have-index
