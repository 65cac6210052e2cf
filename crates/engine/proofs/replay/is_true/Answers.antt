-- Each read is the one that the command wants next, and then the write.
use Rattle.std.proofs.Common.{◌≡◌, [], ◌∷◌, ◌++◌, length, get_or, ap, ◌∙◌, arith}
use Rattle.std.proofs.lemmas.List.{length_push}
use Rattle.lists.specs.Held.{held, room}
use Rattle.model.specs.declared.record.Use.{Use}
use Rattle.model.specs.Commands.{want}
use Rattle.model.specs.Hazards.{has_read}
use Rattle.model.specs.Truth.{asks}
use Rattle.pool.specs.Contents.{meant}
use Rattle.engine.proofs.Turns.{has_read_one}
use Rattle.engine.proofs.Replays.{pushed, onward}
use Rattle.engine.proofs.replay.is_true.Goals as goal

abbrev none : Use
none = record { file = 0; number = 0 }

pub loop-act-preserved : goal.loop-act-preserved
loop-act-preserved c =
    let p = meant c.args.pool.now in
    let k = want c.args.rec.now.command in
    let r = get_or c.reads-reads.result.now c.loop-act.act-index none in
    let inv = c.loop-act.invariant in
    let made = held c.loop-act.made in
    let more : held c.push.new.self ≡ made ++ c.entry.result ∷ [] =
    pushed (length made) (room c.loop-act.made) c.push.result made (held c.push.new.self) c.entry.result c.push.ensures.fits (omega (arith, inv.1, inv.2)) c.push.ensures.held in (
      onward p k (has_read p 0 made) c.reads-reads.result.now c.args.rec.now.write c.loop-act.act-index _ inv.0 none c.loop-act-test.true _ c.if-not-holds.ensures
          (c.if-not-is_read_of.ensures ∙ ap (λ w. asks w r.file) c.next_of-next.ensures ∙ ap (λ es. asks (k (has_read p 0 es)) r.file) c.as_slice.ensures)
          (ap (has_read p 0) (more ∙ ap (λ x. made ++ x ∷ []) c.entry.ensures) ∙ has_read_one p 0 r.file r.number made),
      omega (arith, inv.1, ap length more, length_push made c.entry.result),
      c.push.ensures.room ∙ inv.2,
    )
