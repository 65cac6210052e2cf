-- What is left gives the reads, and the highest index so far is known.
use Rattle.trace.proofs.Highs.{Rest}
use Rattle.trace.proofs.input.Input.uses.Given as goal
use Rattle.trace.specs.Reads.{many}
use Rattle.trace.specs.Told.{left}
use Rattle.trace.specs.Format.{a_use, higher}

abbrev pub invariant-loop-i : goal.invariant-loop-i
invariant-loop-i l =
    Rest (many (a_use l.contents) higher l.count l.high (left l.initial.self)) l.contents l.count l.high l.list l.top l.i (left l.self)
