-- A number above those of a pool is not listed.
use Rattle.trace_write.proofs.Listed.{far_unlisted}
use Rattle.std.proofs.Common.{sym}
use Rattle.trace_write.proofs.order.Order.listed.Goals as goal

pub returns-then-number-gt1024 : goal.returns-then-number-gt1024
returns-then-number-gt1024 c =
    let o = c.args.self.now in
    record { value = sym (far_unlisted c.args.number o.numbers.items o.all c.if-number-gt1024.true) }
