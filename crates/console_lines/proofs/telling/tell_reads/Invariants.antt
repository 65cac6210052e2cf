-- The words so far, and those of the reads that are left, are all the words.
use Rattle.std.proofs.Common.{◌≡◌, ◌++◌, drop}
use Rattle.console_lines.specs.Answered.{read_words}
use Rattle.console_lines.proofs.telling.tell_reads.Given as goal

abbrev pub invariant-loop-read : goal.invariant-loop-read
invariant-loop-read l = l.out.items ++ read_words (drop l.read-index l.reads) ≡ l.fn.out.items ++ read_words l.reads
