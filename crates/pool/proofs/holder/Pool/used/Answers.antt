-- The bytes that are used are those of the contents.
use Rattle.pool.proofs.Places.{used_held}
use Rattle.pool.proofs.holder.Pool.used.Goals as goal

pub returns : goal.returns
returns c = used_held c.args.self.now
