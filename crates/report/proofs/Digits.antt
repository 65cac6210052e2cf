-- How long a number can be.
use Rattle.std.proofs.Common.{ℕ, ◌<◌, ◌≤◌, length, arith}
use Rattle.std.proofs.lemmas.Fmt.{length-decimal-le}
use Rattle.report.specs.Report.{then_number}

-- a number of 8 bits takes at most 3 digits, one up to 4,096 at most 4
pub three_digits : (n : ℕ) → n < 256 → length (then_number n) ≤ 4
three_digits n h = let d = length-decimal-le 3 n (omega arith) (omega arith) (omega arith) in omega arith

pub four_digits : (n : ℕ) → n ≤ 4096 → length (then_number n) ≤ 5
four_digits n h = let d = length-decimal-le 4 n (omega arith) (omega arith) (omega arith) in omega arith
