-- What is left to take gives the book.
use Rattle.std.proofs.Common.{◌≡◌, map}
use Rattle.lists.specs.Held.{held, room}
use Rattle.model.specs.Records.{said}
use Rattle.model.specs.Load.{hints}
use Rattle.pool.specs.Contents.{meant}
use Rattle.trace.specs.Told.{coming}
use Rattle.trace_load.proofs.hints.take_all.Given as goal

abbrev pub invariant-loop-rec : goal.invariant-loop-rec
invariant-loop-rec l =
    (hints (map (λ x. x.now) l.contents) (meant l.pool) (coming l.rec-iterator) (map said (held l.book))
    ≡ hints (map (λ x. x.now) l.contents) (meant l.pool) (coming l.fn.records) (map said (held l.initial.book)))
    × (room l.book ≡ room l.initial.book)
