-- The reads so far lie in the first places.
use Rattle.std.proofs.Common.{◌≡◌, length, take, map}
use Rattle.model.specs.Book.{use_of}
use Rattle.engine.specs.Reads.{reads_in}
use Rattle.engine.proofs.acts.Acts.reads.Given as goal

abbrev pub invariant-loop-place : goal.invariant-loop-place
invariant-loop-place l = record {
  made : take (length l.yielded) l.reads ≡ map use_of (take (length l.yielded) (reads_in l.self.line l.self.entries.now));
  long : length l.reads ≡ 16;
}
