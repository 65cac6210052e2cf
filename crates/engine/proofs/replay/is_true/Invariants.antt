-- What is left of the reads follows from those that were replayed.
use Rattle.std.proofs.Common.{◌≡◌, [], length, drop}
use Rattle.lists.specs.Held.{held, room}
use Rattle.model.specs.Commands.{want}
use Rattle.model.specs.Hazards.{has_read}
use Rattle.model.specs.Truth.{follows}
use Rattle.model.specs.Records.{said}
use Rattle.pool.specs.Contents.{meant}
use Rattle.engine.proofs.replay.is_true.Given as goal

abbrev pub invariant-loop-act : goal.invariant-loop-act
invariant-loop-act l =
    (follows (meant l.pool) (want l.rec.command) (has_read (meant l.pool) 0 (held l.made)) (drop l.act-index l.reads) l.rec.write
    ≡ follows (meant l.pool) (want l.rec.command) [] (said l.rec).reads l.rec.write)
    × (length (held l.made) ≡ l.act-index)
    × (room l.made ≡ 16)
