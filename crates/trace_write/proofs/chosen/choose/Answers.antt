-- The numbers of what is chosen are in the pool.
use Rattle.std.proofs.Common.{map, take}
use Rattle.model.specs.Records.{said}
use Rattle.pool.specs.Contents.{meant}
use Rattle.pool.proofs.Sounds.{sound}
use Rattle.trace_write.proofs.Tables.{kept_named}
use Rattle.trace_write.proofs.chosen.choose.Goals as goal

pub returns-clause-named : goal.returns-clause-named
returns-clause-named c =
    kept_named (meant c.args.pool.now) (sound c.args.pool.now) (map said (take c.loop-r.r-index c.args.records.now)) c.loop-r.list.items c.loop-r.invariant
