-- The uses so far are listed.
use Rattle.std.proofs.Common.{◌≡◌, map, take}
use Rattle.trace.specs.Reads.{after}
use Rattle.trace_write.specs.Puts.{number_of_use}
use Rattle.trace_write.specs.Saves.{listed}
use Rattle.trace_write.proofs.order.Order.note_uses.Given as goal

abbrev pub invariant-loop-u : goal.invariant-loop-u
invariant-loop-u l = l.self.numbers.items ≡ after listed l.initial.self.numbers.items (map number_of_use (take l.u-index l.uses))
