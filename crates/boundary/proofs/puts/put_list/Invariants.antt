-- The numbers so far are written, and the rest of the list gives those that are left.
use Rattle.std.proofs.Common.{take}
use Rattle.std.specs.List.{flat_map}
use Rattle.output.specs.Writes.{Writes}
use Rattle.pool.specs.Contents.{meant}
use Rattle.trace.specs.Reads.{two_bytes}
use Rattle.boundary.specs.Puts.{numbers_given}
use Rattle.boundary.proofs.Putting.{SoFar}
use Rattle.boundary.proofs.puts.put_list.Given as goal

abbrev pub invariant-loop-done : goal.invariant-loop-done
invariant-loop-done l = record {
  so_far : SoFar l.most (meant l.initial.pool) (meant l.pool) l.list l.rest l.done;
  written : Writes (flat_map two_bytes (take l.done (numbers_given l.most (meant l.initial.pool) l.list))) l.initial.numbers l.numbers;
}
