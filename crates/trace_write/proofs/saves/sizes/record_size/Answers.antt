-- The fields of a record, in bytes.
use Rattle.std.proofs.Common.{length, ap, arith}
use Rattle.trace_write.proofs.Sizes.{record_size}
use Rattle.trace_write.proofs.saves.sizes.record_size.Goals as goal

pub returns-clause-value : goal.returns-clause-value
returns-clause-value c numbers = let s = record_size numbers c.args.rec.now in let e = ap length c.reads.ensures.value in omega arith
