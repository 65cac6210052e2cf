-- The lines so far, and those of the records that are left, are all the lines.
use Rattle.std.proofs.Common.{◌≡◌, ◌++◌, map, drop}
use Rattle.model.specs.Records.{said}
use Rattle.console_lines.specs.Answered.{record_lines}
use Rattle.console_lines.proofs.telling.tell_book.Given as goal

abbrev pub invariant-loop-record : goal.invariant-loop-record
invariant-loop-record l = l.out.items ++ record_lines (map said (drop l.record-index l.records)) ≡ l.fn.out.items ++ record_lines (map said l.records)
