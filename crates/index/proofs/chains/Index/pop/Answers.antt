-- The newest element is the head of its bucket, and what is kept before it takes its place.
use Rattle.std.proofs.Common.{◌-◌, arith}
use Rattle.index.proofs.Steps.{popped}
use Rattle.index.proofs.chains.Index.pop.Goals as goal

pub invariant_of-self : goal.invariant_of-self
invariant_of-self c =
    let i = c.self.inside in
    let at = i.count - 1 in
    let low = c.self.invariant.low at (omega arith) in
    popped i.heads i.before i.buckets i.count at c.self.invariant (omega arith) (omega arith)
