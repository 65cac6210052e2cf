-- The chain begins at the newest element of the bucket and goes back to the next older one.
use Rattle.std.proofs.Common.{sym, ◌∙◌, arith}
use Rattle.index.proofs.Walks.{begins, smaller, goes_on, ends_found, ends_none}
use Rattle.index.proofs.chains.Index.find.Goals as goal

pub loop-number-init : goal.loop-number-init
loop-number-init g c =
    let i = c.self.inside in
    begins (g.S.Sought.is c.args.sought.now) i.heads i.before i.buckets i.count c.args.bucket.at c.self.invariant c.args.bucket.low

pub loop-number-smaller : goal.loop-number-smaller
loop-number-smaller g c =
    let i = c.self.inside in
    smaller (g.S.Sought.is c.args.sought.now) i.heads i.before i.buckets i.count c.args.bucket.at c.self.invariant c.loop-number.number c.loop-number.invariant
    c.loop-number-test.true

pub loop-number-preserved : goal.loop-number-preserved
loop-number-preserved g c =
    let i = c.self.inside in
    goes_on (g.S.Sought.is c.args.sought.now) i.heads i.before i.buckets i.count c.args.bucket.at c.self.invariant c.loop-number.number c.loop-number.invariant
    c.loop-number-test.true (sym c.is.ensures ∙ c.if-is.false)

pub returns-then-is : goal.returns-then-is
returns-then-is g c =
    let i = c.self.inside in
    ends_found (g.S.Sought.is c.args.sought.now) i.heads i.before i.buckets i.count c.args.bucket.at c.self.invariant c.loop-number.number c.loop-number.invariant
    c.args.self.now c.self.view_is (omega arith) c.loop-number-test.true (sym c.is.ensures ∙ c.if-is.true)

pub returns : goal.returns
returns g c =
    let i = c.self.inside in
    ends_none (g.S.Sought.is c.args.sought.now) i.heads i.before i.buckets i.count c.args.bucket.at c.self.invariant c.loop-number.number c.loop-number.invariant
    c.args.self.now c.self.view_is (omega arith) (omega arith)
