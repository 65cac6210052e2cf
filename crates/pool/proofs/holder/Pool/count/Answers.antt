-- What holds of every pool.
use Rattle.pool.proofs.Sounds.{sound}
use Rattle.pool.proofs.holder.Pool.count.Goals as goal

pub returns-clause-sound : goal.returns-clause-sound
returns-clause-sound c = sound c.args.self.now
