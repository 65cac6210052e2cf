-- The sum goes over the whole string.
use Rattle.std.proofs.Common.{◌/◌, ◌^◌, ap}
use Rattle.index.specs.Sums.{bucket_of}
use Rattle.index.proofs.bucket.Bucket.of.Goals as goal

pub returns : goal.returns
unfolding bucket_of
returns c = ap (λ s. s / 2 ^ 54) c.summed-all.ensures
