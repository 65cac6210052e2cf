-- A pool that is cut back to its first contents.
use Rattle.std.proofs.Common.{◌≡◌, ℕ, ◌<◌, List, [], length, get_or, take, sym, ap, ◌∙◌, arith}
use Rattle.std.proofs.lemmas.List.{length-take, get_or-take}
use Rattle.model.specs.Contents.{Content, Pool, cut}
use Rattle.pool.specs.Sound.{Apart}

unfoldable pub with_contents : Pool → List Content → Pool
with_contents p cs = record { contents = cs; places = p.places; room = p.room }

-- a pool whose contents are the first of another's
pub cut_is : (p : Pool) (cs : List Content) (k : ℕ) → take k p.contents ≡ cs → record { contents = cs; places = p.places; room = p.room } ≡ cut k p
unfolding with_contents
cut_is p cs k e = ap (with_contents p) (sym e)

pub apart_front : (xs ys : List Content) (k : ℕ) → take k xs ≡ ys → Apart xs → Apart ys
apart_front xs ys k e apart i j h l same =
    let n = length-take k xs in
    let m = ap length e in
    let low : (n : ℕ) → n < k → get_or ys n [] ≡ get_or xs n [] = λ n lt. ap (λ zs. get_or zs n []) (sym e) ∙ get_or-take k xs n [] lt in
    apart i j h (omega arith) (sym (low i (omega arith)) ∙ same ∙ low j (omega arith))
