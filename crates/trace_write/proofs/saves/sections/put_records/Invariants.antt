-- The records so far are written.
use Rattle.std.proofs.Common.{take}
use Rattle.std.specs.List.{flat_map}
use Rattle.output.specs.Writes.{Writes}
use Rattle.trace_write.specs.Puts.{record_of}
use Rattle.trace_write.proofs.saves.sections.put_records.Given as goal

abbrev pub invariant-loop-r : goal.invariant-loop-r
invariant-loop-r l = Writes (flat_map (record_of l.order.numbers.items) (take l.r-index l.list)) l.initial.out l.out
