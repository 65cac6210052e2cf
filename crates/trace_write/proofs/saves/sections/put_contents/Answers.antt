-- The contents are written one after the other.
use Rattle.std.proofs.Common.{length, sym, ap, subst}
use Rattle.output.specs.Writes.{Room}
use Rattle.output.proofs.Steps.{as_bytes, each_more, each_room}
use Rattle.pool.specs.Contents.{meant}
use Rattle.trace.specs.Format.{content_bytes}
use Rattle.trace_write.specs.Puts.{content_of}
use Rattle.trace_write.proofs.saves.sections.put_contents.Goals as goal

pub put_content-requires-clause-room : goal.put_content-requires-clause-room
put_content-requires-clause-room c =
    let room = each_room (content_of (meant c.args.pool.now)) c.args.numbers.now c.loop-n.n-index 0 c.loop-n-test.true c.requires c.loop-n.invariant in
    subst (λ x. Room (length (content_bytes x)) c.loop-n.out) (sym c.bytes.ensures.value) room

pub loop-n-preserved : goal.loop-n-preserved
loop-n-preserved c =
    each_more (content_of (meant c.args.pool.now)) c.args.numbers.now c.loop-n.n-index 0 c.loop-n-test.true c.loop-n.invariant
    (as_bytes _ (ap content_bytes c.bytes.ensures.value) c.put_content.ensures)
