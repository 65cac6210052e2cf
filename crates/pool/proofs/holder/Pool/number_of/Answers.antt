-- The search looks at the contents of the bucket, and an equal content is among them.
use Rattle.std.proofs.Common.{ap, ◌∙◌}
use Rattle.index.specs.Newest.{numbered}
use Rattle.pool.specs.Contents.{held}
use Rattle.pool.proofs.Indexes.{found_newest}
use Rattle.pool.proofs.holder.Pool.number_of.Goals as goal

pub returns : goal.returns
returns c =
    let p = c.args.self.now in
    c.find.ensures ∙ ap numbered (found_newest c.args.content.now (held p) p.apart p.index c.args.bucket.at p.indexed c.requires)
