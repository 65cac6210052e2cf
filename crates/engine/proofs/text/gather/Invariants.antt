-- What was added and what is left to add is all that was read after the list.
use Rattle.std.proofs.Common.{◌≡◌, ◌+◌, ◌++◌, length}
use Rattle.lists.specs.Held.{held, room}
use Rattle.pool.specs.Contents.{meant}
use Rattle.engine.specs.Fits.{fitting}
use Rattle.engine.specs.Reads.{numbers}
use Rattle.engine.proofs.Fits.{left}
use Rattle.engine.proofs.text.gather.Given as goal

abbrev pub invariant-loop-read : goal.invariant-loop-read
invariant-loop-read l = record {
  added : fitting (room l.initial.out) (held l.out ++ left (meant l.pool) (numbers l.acts.line l.acts.entries.now) (length l.yielded + 1))
      ≡ fitting (room l.initial.out) (held l.initial.out ++ left (meant l.pool) (numbers l.acts.line l.acts.entries.now) 1);
  room : room l.out ≡ room l.initial.out;
}
