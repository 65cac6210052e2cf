-- The line's own among the entries so far are listed.
use Rattle.std.proofs.Common.{◌≡◌, take}
use Rattle.lists.specs.Held.{held}
use Rattle.engine.specs.Owns.{own_in}
use Rattle.engine.proofs.own.list_unended.Given as goal

abbrev pub invariant-loop-entry : goal.invariant-loop-entry
invariant-loop-entry l = held l.own ≡ own_in l.line (take l.entry-index l.entries)
