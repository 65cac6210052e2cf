-- The first places, and the bytes before the first place that is left out: the first contents.
use Rattle.std.proofs.Common.{◌<◌, ◌∙◌, arith}
use Rattle.pool.specs.Contents.{meant, held}
use Rattle.pool.proofs.Cuts.{cut_is, apart_front}
use Rattle.pool.proofs.Indexes.{indexed_front}
use Rattle.pool.proofs.Places.{take_pieces, inside}
use Rattle.pool.proofs.holder.Pool.cut.Goals as goal

pub invariant_of-self : goal.invariant_of-self
invariant_of-self c =
    let p = c.args.self.now in
    let fewer : c.args.count < p.count = omega (arith, c.if-count-self.true) in
    let before = inside p c.args.count fewer in
    let first = take_pieces p.bytes.now c.args.count p.count p.places.now (omega arith) in
    record {
      bytes_fit = omega (arith, p.bytes_fit);
      places_fit = omega (arith, p.places_fit);
      packed = λ k h. p.packed k (omega arith);
      filled = p.packed c.args.count fewer;
      short = λ k h. p.short k (omega arith);
      apart = apart_front (held p) _ c.args.count first p.apart;
      indexed = c.cut.ensures ∙ indexed_front p.index (held p) _ c.args.count p.indexed first;
    }

pub returns-then-count-self : goal.returns-then-count-self
returns-then-count-self c =
    let p = c.args.self.now in
    cut_is (meant p) _ c.args.count (take_pieces p.bytes.now c.args.count p.count p.places.now (omega (arith, c.if-count-self.true)))
