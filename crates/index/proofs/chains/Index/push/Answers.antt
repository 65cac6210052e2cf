-- The new element is the newest of its bucket, and the head before it is the next older one.
use Rattle.std.proofs.Common.{arith}
use Rattle.index.proofs.Steps.{pushed}
use Rattle.index.proofs.chains.Index.push.Goals as goal

pub invariant_of-self : goal.invariant_of-self
invariant_of-self c =
    let i = c.self.inside in
    let low = c.args.bucket.low in
    pushed i.heads i.before i.buckets i.count c.args.bucket.at c.self.invariant (omega arith) (omega arith) (omega arith) (omega arith) low
