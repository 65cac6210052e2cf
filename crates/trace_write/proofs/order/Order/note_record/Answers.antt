-- The reads of a record are listed, then its write.
use Rattle.std.proofs.Common.{sym, subst}
use Rattle.std.specs.List.{AllByRecursion}
use Rattle.model.specs.Records.{said}
use Rattle.trace_write.proofs.Orders.{named_reads, named_write}
use Rattle.trace_write.specs.Puts.{number_of_use}
use Rattle.trace_write.specs.Rooms.{Number}
use Rattle.trace_write.proofs.order.Order.note_record.Goals as goal

pub note_uses-requires : goal.note_uses-requires
note_uses-requires c =
    let r = said c.args.rec.now in
    subst (AllByRecursion (λ u. Number u.number)) (sym c.reads.ensures.value) (named_reads number_of_use r.reads r.write.number c.requires)

pub note-requires : goal.note-requires
note-requires c = let r = said c.args.rec.now in named_write number_of_use r.reads r.write.number c.requires
