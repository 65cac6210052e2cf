-- Zeros are low numbers.
use Rattle.std.proofs.Common.{ℕ, zero, suc, ◌<◌, get_or, replicate, arith, rules}
use Rattle.files.proofs.table.Table.new.Goals as goal

low_zeros : (n k : ℕ) → get_or (replicate n 0) k 0 < 65536
low_zeros zero k = omega arith
low_zeros (suc n) zero = omega arith
low_zeros (suc n) (suc k) = low_zeros n k

pub invariant_of-result : goal.invariant_of-result
invariant_of-result c = record { long = search rules; fits = λ k. search (rules, low_zeros 64) }
