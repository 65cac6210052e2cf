-- There is no element, so each bucket is empty.
use Rattle.std.proofs.Common.{arith}
use Rattle.std.proofs.lemmas.List.{get_or-replicate}
use Rattle.index.proofs.chains.Index.new.Goals as goal

pub invariant_of-result : goal.invariant_of-result
invariant_of-result c = record {
  fits = omega arith;
  low = λ k l. absurd (omega arith);
  newest = λ b l. get_or-replicate 1024 b 0 0 l;
  older = λ k l. absurd (omega arith);
}
