-- The length of pieces is the sum of their lengths.
use Rattle.std.proofs.Common.{◌≡◌, length, rules, sym, ◌∙◌}
use Rattle.std.proofs.lemmas.List.Concat.{length-flat_map}
use Rattle.std.specs.List.{sum_by}
use Rattle.pool.specs.Contents.{meant}
use Rattle.trace_write.specs.Puts.{content_of}
use Rattle.trace_write.proofs.saves.sizes.contents_size.Goals as goal

pub returns : goal.returns
returns c =
    let each = content_of (meant c.args.pool.now) in
    let sum : c.sum.result ≡ sum_by (λ n. length (each n)) c.args.numbers.now = search rules in
    sum ∙ sym (length-flat_map each c.args.numbers.now)
