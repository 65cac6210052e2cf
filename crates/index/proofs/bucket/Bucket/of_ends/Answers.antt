-- The sum goes over a short string, and over both ends of a long one.
use Rattle.std.proofs.Common.{◌/◌, ◌-◌, ◌^◌, ◌∙◌, nat_le, length, take, drop, sym, ap, arith}
use Rattle.std.proofs.lemmas.Bool.{cond-true, cond-false, le-leb, lt-leb}
use Rattle.std.proofs.lemmas.List.{length-take-le, length-drop, take_all}
use Rattle.index.specs.Sums.{summed, bucket_of_ends}
use Rattle.index.proofs.bucket.Bucket.of_ends.Goals as goal
use Rattle.index.proofs.bucket.Bucket.of_ends.Goals.{then-len-le64, else-len-le64}

pub slice_bounds-summed-end : goal.slice_bounds-summed-end
slice_bounds-summed-end c = sym (length-take-le 32 c.args.bytes.now (omega (arith, c.if-len-le64.false)))

pub returns : goal.returns
unfolding bucket_of_ends
returns c =
    let bytes = c.args.bytes.now in
    let n = length bytes in
    let all = take_all (n - (n - 32)) (drop (n - 32) bytes) (omega (arith, length-drop (n - 32) bytes)) in
    let ends = summed (summed n (take 32 bytes)) (drop (n - 32) bytes) in
    ap (λ s. s / 2 ^ 54) (elim c.if-len-le64.branch [
      | then-len-le64 w ↦ w.sum-is ∙ w.summed-sum.ensures ∙ sym (cond-true (nat_le n 64) (summed n bytes) ends (le-leb n 64 w.if-len-le64.true))
      | else-len-le64 w ↦ w.sum-is ∙ w.summed-sum-else-len-le64.ensures ∙ ap (summed w.summed-front.result) all ∙ ap (λ s. summed s (drop (n - 32) bytes)) w.summed-front.ensures ∙ sym (cond-false (nat_le n 64) (summed n bytes) ends (lt-leb n 64 (omega (arith, w.if-len-le64.false))))
    ])
