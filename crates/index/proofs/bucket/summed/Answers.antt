-- The sum goes over the words, and then over the bytes that are left.
use Rattle.std.proofs.Common.{◌/◌, ◌*◌, ◌∙◌, length, drop, ap, rules}
use Rattle.std.proofs.lemmas.Iterator.{YieldsList-from_slice}
use Rattle.std.proofs.lemmas.Iterator.Consumers.{fold_from_yields_List}
use Rattle.std.specs.List.{fold}
use Rattle.index.specs.Sums.{mixed, mixed_eight}
use Rattle.index.proofs.bucket.summed.Goals as goal

pub returns : goal.returns
returns c =
    let bytes = c.args.bytes.now in
    let p = c.as_chunks.result in
    let eights =
    fold_from_yields_List {all = p.0.now} _ mixed_eight _ _ c.fold-sum.ensures.ran (YieldsList-from_slice _ cc) (λ a x b q k. (search rules, search rules))
    ∙ ap (λ ws. fold mixed_eight c.args.sum ws) c.as_chunks.ensures.front in
    let rest =
    fold_from_yields_List {all = p.1.now} _ mixed _ _ c.fold.ensures.ran (YieldsList-from_slice _ cc) (λ a x b q k. (search rules, search rules))
    ∙ ap (λ bs. fold mixed c.fold-sum.result bs) c.as_chunks.ensures.back in
    rest ∙ ap (λ s. fold mixed s (drop (length bytes / 8 * 8) bytes)) eights
