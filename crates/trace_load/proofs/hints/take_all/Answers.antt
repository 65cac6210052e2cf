-- The hints are taken one after the other.
use Rattle.std.proofs.Common.{map, length, ap, arith}
use Rattle.lists.specs.Held.{held, room}
use Rattle.model.specs.Records.{said}
use Rattle.pool.specs.Contents.{meant}
use Rattle.trace.specs.Told.{coming}
use Rattle.trace_load.proofs.Taken.{hint_fits}
use Rattle.trace_load.proofs.hints.take_all.Goals as goal

pub take_hint-requires : goal.take_hint-requires
take_hint-requires c =
    let xs = map (λ x. x.now) c.args.contents.now in
    let l = c.loop-rec in
    let same = ap length l.invariant.0 in
    hint_fits xs (meant c.args.pool.now) (said c.in-Some.rec) (coming l.rec-iterator) (coming c.next.new.self) (map said (held l.book)) c.in-Some.ensures.steps
    (said c.as_hint.result) (room l.book) c.as_hint.ensures (omega (arith, c.requires, l.invariant.1))
