-- The length of pieces is the sum of their lengths.
use Rattle.std.proofs.Common.{◌≡◌, length, rules, sym, ◌∙◌}
use Rattle.std.proofs.lemmas.List.Concat.{length-flat_map}
use Rattle.std.specs.List.{sum_by}
use Rattle.trace_write.specs.Puts.{record_of}
use Rattle.trace_write.proofs.saves.sizes.records_size.Goals as goal

pub returns : goal.returns
returns c numbers =
    let sum : c.sum.result ≡ sum_by (λ r. length (record_of numbers r)) c.args.list.now = search rules in
    sum ∙ sym (length-flat_map (record_of numbers) c.args.list.now)
