-- The first elements are those that were there.
use Rattle.std.proofs.Common.{◌≡◌, length, take}
use Rattle.index.proofs.chains.Index.cut.Given as goal

abbrev pub invariant-loop-self : goal.invariant-loop-self
invariant-loop-self l = take l.count l.self ≡ take l.count l.fn.self

abbrev pub decreases-loop-self : goal.decreases-loop-self
decreases-loop-self l = length l.self
