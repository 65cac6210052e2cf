-- The uses so far are written.
use Rattle.std.proofs.Common.{take}
use Rattle.std.specs.List.{flat_map}
use Rattle.output.specs.Writes.{Writes}
use Rattle.trace_write.specs.Puts.{use_of}
use Rattle.trace_write.proofs.saves.pieces.put_uses.Given as goal

abbrev pub invariant-loop-u : goal.invariant-loop-u
invariant-loop-u l = Writes (flat_map (use_of l.order.numbers.items) (take l.u-index l.list)) l.initial.out l.out
