-- What is left gives the highest index.
use Rattle.trace.proofs.Entries.{Rest}
use Rattle.trace.proofs.input.Input.records.Given as goal
use Rattle.trace.specs.Format.{all_records}
use Rattle.trace.specs.Told.{left, gathered, high_of}

abbrev pub invariant-loop : goal.invariant-loop
invariant-loop l =
    Rest (gathered high_of (all_records l.contents l.count (left l.initial.self))) l.contents l.count l.commands.items l.high l.counter (left l.self)
