-- The lines of the held files, one after the other.
use Rattle.std.proofs.Common.{◌≡◌, ℕ, suc, ◌+◌, ◌<◌, List, [], ◌∷◌, ◌++◌, length, get_or, take, sym, ap, ◌∙◌, append_assoc, append-nil, arith}
use Rattle.std.proofs.lemmas.List.{take_more, length-take-le}
use Rattle.model.specs.Contents.{Pool, told}
use Rattle.report.specs.Report.{held_line, file_lines}

lines_push : (labels : List (List ℕ)) (p : Pool) (f : ℕ) (ns : List ℕ) (n : ℕ) → file_lines labels p f (ns ++ n ∷ []) ≡ file_lines labels p f ns ++ held_line (f + length ns) (get_or labels (f + length ns) []) (told p n)
lines_push labels p f [] n =
    let z : f + 0 ≡ f = omega arith in
    append-nil (held_line f (get_or labels f []) (told p n)) ∙ ap (λ k. held_line k (get_or labels k []) (told p n)) (sym z)
lines_push labels p f (m ∷ ns) n =
    let z : suc f + length ns ≡ f + suc (length ns) = omega arith in
    ap (λ l. held_line f (get_or labels f []) (told p m) ++ l)
    (lines_push labels p (suc f) ns n ∙ ap (λ k. file_lines labels p (suc f) ns ++ held_line k (get_or labels k []) (told p n)) z)
    ∙ sym (append_assoc (held_line f (get_or labels f []) (told p m)) _ _)

-- the lines of the files below one, and its own
pub lines_more : (labels : List (List ℕ)) (p : Pool) (ns : List ℕ) (f : ℕ) → f < length ns → file_lines labels p 0 (take f ns) ++ held_line f (get_or labels f []) (told p (get_or ns f 0)) ≡ file_lines labels p 0 (take (f + 1) ns)
lines_more labels p ns f h =
    let n = get_or ns f 0 in
    let z : 0 + length (take f ns) ≡ f = omega (arith, length-take-le f ns (omega arith)) in
    ap (λ k. file_lines labels p 0 (take f ns) ++ held_line k (get_or labels k []) (told p n)) (sym z)
    ∙ sym (lines_push labels p 0 (take f ns) n)
    ∙ ap (file_lines labels p 0) (sym (take_more ns f 0 h))
