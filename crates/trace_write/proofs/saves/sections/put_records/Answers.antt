-- The records are written one after the other.
use Rattle.output.proofs.Steps.{each_more, each_room}
use Rattle.trace_write.specs.Puts.{record_of}
use Rattle.trace_write.proofs.saves.sections.put_records.Goals as goal

pub put_record-requires : goal.put_record-requires
put_record-requires c = each_room (record_of c.args.order.now.numbers.items) c.args.list.now c.loop-r.r-index _ c.loop-r-test.true c.requires c.loop-r.invariant

pub loop-r-preserved : goal.loop-r-preserved
loop-r-preserved c = each_more (record_of c.args.order.now.numbers.items) c.args.list.now c.loop-r.r-index _ c.loop-r-test.true c.loop-r.invariant c.put_record.ensures
