-- What is left gives the contents, and the index holds the buckets of those so far.
use Rattle.std.proofs.Common.{◌≡◌, [], map, length}
use Rattle.index.specs.Sums.{bucket_of_ends}
use Rattle.trace.proofs.Pieces.{Rest, firsts}
use Rattle.trace.proofs.input.Input.contents.Given as goal
use Rattle.trace.specs.Reads.{many}
use Rattle.trace.specs.Told.{left}
use Rattle.trace.specs.Format.{a_content, push}

abbrev pub invariant-loop-i : goal.invariant-loop-i
invariant-loop-i l =
    record {
      rest : Rest (many a_content push l.count [] (left l.initial.self)) l.count l.list l.i (left l.self);
      long : length l.list ≡ 1024;
      indexed : l.index ≡ map bucket_of_ends (firsts l.i l.list);
    }
