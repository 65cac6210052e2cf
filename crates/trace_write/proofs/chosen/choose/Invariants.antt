-- The records so far are chosen from.
use Rattle.std.proofs.Common.{◌≡◌, map, take}
use Rattle.model.specs.Records.{said}
use Rattle.pool.specs.Contents.{meant}
use Rattle.trace_write.specs.Saves.{chosen}
use Rattle.trace_write.proofs.chosen.choose.Given as goal

abbrev pub invariant-loop-r : goal.invariant-loop-r
invariant-loop-r l = map said l.list.items ≡ chosen (meant l.pool) (map said (take l.r-index l.records))
