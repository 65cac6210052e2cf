-- What is left to put gives the pool.
use Rattle.pool.specs.Contents.{meant}
use Rattle.trace_load.proofs.Puts.{Left}
use Rattle.trace_load.proofs.contents.put_contents.Given as goal

abbrev pub invariant-loop-content : goal.invariant-loop-content
invariant-loop-content l = Left l.contents (meant l.initial.pool) (meant l.pool) l.content-index
