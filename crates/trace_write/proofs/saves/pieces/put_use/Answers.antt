-- The file, then the place of the number.
use Rattle.std.proofs.Common.{◌∷◌, ap}
use Rattle.output.proofs.Steps.{then, as_bytes}
use Rattle.trace.specs.Reads.{two_bytes}
use Rattle.trace_write.specs.Puts.{use_of}
use Rattle.trace_write.proofs.saves.pieces.put_use.Goals as goal

pub returns : goal.returns
returns c =
    let u = c.args.u in
    as_bytes (use_of c.args.order.now.numbers.items u) (ap (λ n. u.file ∷ two_bytes n) c.place.ensures.value) (then c.put_byte.ensures c.put_number.ensures)
