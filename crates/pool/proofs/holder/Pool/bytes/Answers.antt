-- Every content is short.
use Rattle.std.proofs.Common.{◌≡◌, ◌-◌, length, ap, arith, rules}
use Rattle.model.specs.Contents.{content}
use Rattle.pool.specs.Contents.{meant}
use Rattle.pool.proofs.Sounds.{short_held}
use Rattle.pool.proofs.holder.Pool.bytes.Goals as goal

pub returns-in-Some-clause-short : goal.returns-in-Some-clause-short
returns-in-Some-clause-short c =
    let p = c.args.self.now in
    let value : c.in-Some.content.bytes.now ≡ content (meant p) c.args.number = search rules in
    omega (arith, ap length value, short_held p (c.args.number - 1))
