-- The records so far are listed.
use Rattle.std.proofs.Common.{◌≡◌, map, take}
use Rattle.model.specs.Records.{said}
use Rattle.trace_write.specs.Saves.{order}
use Rattle.trace_write.proofs.order.notes.order_of.Given as goal

abbrev pub invariant-loop-r : goal.invariant-loop-r
invariant-loop-r l = l.order.numbers.items ≡ order (map said (take l.r-index l.records))
