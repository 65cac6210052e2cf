-- The reads so far have their numbers.
use Rattle.std.proofs.Common.{◌≡◌, map, length, take}
use Rattle.model.specs.Load.{numbered}
use Rattle.pool.specs.Contents.{meant}
use Rattle.trace_load.proofs.hints.renumbered_reads.Given as goal

abbrev pub invariant-loop-i : goal.invariant-loop-i
invariant-loop-i l =
    (take l.i l.list ≡ map (numbered (map (λ x. x.now) l.contents) (meant l.pool)) (take l.i l.reads)) × (length l.list ≡ 16)
