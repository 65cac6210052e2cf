-- The search looks at the contents of the bucket, and an equal content is among them.
use Rattle.std.proofs.Common.{map, ap, ◌∙◌}
use Rattle.std.specs.Option.{is_some}
use Rattle.trace.proofs.Knowns.{known}
use Rattle.trace.proofs.known.known_content.Goals as goal

pub returns : goal.returns
returns c =
    c.is_some.ensures ∙ ap is_some c.find.ensures
    ∙ known c.args.content.now (map (λ x. x.now) c.args.earlier.now) c.args.index.now c.args.bucket.at c.requires.index c.requires.bucket
