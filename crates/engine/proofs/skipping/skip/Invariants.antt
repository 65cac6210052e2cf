-- What is left of the record is to be made, whatever the pool.
use Rattle.std.proofs.Common.{◌≡◌, ◌+◌, length, drop}
use Rattle.lists.specs.Held.{held, room}
use Rattle.model.specs.Step.{skip}
use Rattle.model.specs.Contents.{Pool}
use Rattle.engine.proofs.skipping.skip.Given as goal

abbrev pub invariant-loop-act : goal.invariant-loop-act
invariant-loop-act g l =
    ((p : Pool) →
    skip l.line (drop l.act-index l.reads) l.write (record { files = g.F.FileStore.map l.files; pool = p; entries = held l.entries })
    ≡ skip l.line l.reads l.write (record { files = g.F.FileStore.map l.files; pool = p; entries = held l.initial.entries }))
    × (length (held l.entries) ≡ length (held l.initial.entries) + l.act-index)
    × (room l.entries ≡ room l.initial.entries)
