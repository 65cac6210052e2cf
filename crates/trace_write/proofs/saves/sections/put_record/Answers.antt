-- The fields of a record are written one after the other.
use Rattle.std.proofs.Common.{length, ap, ◌∙◌, arith}
use Rattle.output.proofs.Steps.{then, as_bytes}
use Rattle.trace_write.proofs.Sizes.{fields, fields_are, record_size, uses_size}
use Rattle.trace_write.specs.Puts.{record_of}
use Rattle.trace_write.proofs.saves.sections.put_record.Goals as goal

pub put_uses-requires : goal.put_uses-requires
put_uses-requires c =
    let ns = c.args.order.now.numbers.items in
    let s = record_size ns c.args.rec.now in
    let t = uses_size ns c.reads-reads.result.now in
    let e = ap length c.reads-reads.ensures.value in
    omega arith

pub put_use-requires : goal.put_use-requires
put_use-requires c =
    let ns = c.args.order.now.numbers.items in
    let s = record_size ns c.args.rec.now in
    let t = uses_size ns c.reads-reads.result.now in
    let e = ap length c.reads-reads.ensures.value in
    omega arith

pub returns : goal.returns
returns c =
    let ns = c.args.order.now.numbers.items in
    let r = c.args.rec.now in
    as_bytes (record_of ns r) (ap (fields ns r) c.reads-reads.ensures.value ∙ fields_are ns r)
    (then (then (then c.put_command.ensures c.put_byte.ensures) c.put_uses.ensures) c.put_use.ensures)
