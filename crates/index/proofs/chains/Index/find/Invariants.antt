-- The search walks along the chain of the bucket.
use Rattle.index.proofs.Walks.{Walk}
use Rattle.index.proofs.chains.Index.find.Given as goal

abbrev pub invariant-loop-number : goal.invariant-loop-number
invariant-loop-number g l =
    Walk (g.S.Sought.is l.sought) l.self-inside.buckets l.fn.bucket.at l.self-inside.count l.number

abbrev pub decreases-loop-number : goal.decreases-loop-number
decreases-loop-number g l = l.number
