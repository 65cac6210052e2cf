-- The contents so far are written.
use Rattle.std.proofs.Common.{take}
use Rattle.std.specs.List.{flat_map}
use Rattle.output.specs.Writes.{Writes}
use Rattle.pool.specs.Contents.{meant}
use Rattle.trace_write.specs.Puts.{content_of}
use Rattle.trace_write.proofs.saves.sections.put_contents.Given as goal

abbrev pub invariant-loop-n : goal.invariant-loop-n
invariant-loop-n l = Writes (flat_map (content_of (meant l.pool)) (take l.n-index l.numbers)) l.initial.out l.out
