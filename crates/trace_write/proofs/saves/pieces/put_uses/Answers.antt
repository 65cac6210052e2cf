-- The uses are written one after the other.
use Rattle.output.proofs.Steps.{each_more, each_room}
use Rattle.trace_write.specs.Puts.{use_of}
use Rattle.trace_write.proofs.saves.pieces.put_uses.Goals as goal

pub put_use-requires : goal.put_use-requires
put_use-requires c = each_room (use_of c.args.order.now.numbers.items) c.args.list.now c.loop-u.u-index (record { file = 0; number = 0 }) c.loop-u-test.true c.requires c.loop-u.invariant

pub loop-u-preserved : goal.loop-u-preserved
loop-u-preserved c = each_more (use_of c.args.order.now.numbers.items) c.args.list.now c.loop-u.u-index (record { file = 0; number = 0 }) c.loop-u-test.true c.loop-u.invariant c.put_use.ensures
