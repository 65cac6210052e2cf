-- What is accepted is lawful, and written as it was.
use Rattle.std.proofs.Common.{◌≡◌, ◌<◌, arith, rules}
use Rattle.std.proofs.ByRecursion.{All-from_get_or}
use Rattle.trace.proofs.Whole.{made_lawful, made_written}
use Rattle.trace.proofs.file.methods.check.Goals as goal
use Rattle.trace.specs.Format.{decoded}
use Rattle.trace.specs.Laws.{Bytes}
use Rattle.trace.specs.Told.{checked}

pub returns : goal.returns
returns c =
    let bs = c.args.bytes.now in
    let ok : Bytes bs = All-from_get_or (λ b. b < 256) bs 0 (λ i h. omega (arith, c.type_inv.bytes i)) in
    let value : checked c.trace.result ≡ decoded bs = search rules in
    record { value = value; lawful = made_lawful c.trace.result bs ok value; written = made_written c.trace.result bs ok value }
