-- There are at most sixteen reads.
use Rattle.std.proofs.Common.{arith}
use Rattle.engine.proofs.Listing.{count_made}
use Rattle.engine.proofs.line.record_of.Goals as goal

pub overflow_cast-result : goal.overflow_cast-result
overflow_cast-result c = omega (arith, c.count.ensures, count_made c.args.acts.now.line c.args.acts.now.entries.now, c.requires)
