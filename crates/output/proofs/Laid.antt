-- What a buffer holds after bytes are laid into it.
use Rattle.std.proofs.Common.{◌≡◌, ℕ, ◌+◌, ◌≤◌, List, ◌++◌, length, take, drop, sym, ap, ◌∙◌, append_assoc, arith}
use Rattle.std.proofs.lemmas.List.{drop-drop, drop_at, take_at, length-take-le, length-append}
use Rattle.output.specs.Writes.{laid}

pub laid_append : (at : ℕ) (xs ys out : List ℕ) → at + length xs ≤ length out → laid (at + length xs) ys (laid at xs out) ≡ laid at (xs ++ ys) out
laid_append at xs ys out h =
    let p = take at out ++ xs in
    let q = drop (at + length xs) out in
    let l = length-append (take at out) xs in
    let t = length-take-le at out (omega arith) in
    let n : length p ≡ at + length xs = omega arith in
    let shape : laid at xs out ≡ p ++ q = sym (append_assoc (take at out) xs q) in
    let front : take (at + length xs) (laid at xs out) ≡ p = ap (take (at + length xs)) shape ∙ take_at p q (at + length xs) n in
    let back : drop (at + length xs + length ys) (laid at xs out) ≡ drop (at + length (xs ++ ys)) out =
    ap (drop (at + length xs + length ys)) shape
    ∙ sym (drop-drop (length ys) (at + length xs) (p ++ q))
    ∙ ap (drop (length ys)) (drop_at p q (at + length xs) n)
    ∙ drop-drop (length ys) (at + length xs) out
    ∙ (let m = length-append xs ys in let z : at + length xs + length ys ≡ at + length (xs ++ ys) = omega arith in ap (λ k. drop k out) z) in
    ap (λ a. a ++ (ys ++ drop (at + length xs + length ys) (laid at xs out))) front
    ∙ ap (λ a. p ++ (ys ++ a)) back
    ∙ append_assoc (take at out) xs (ys ++ drop (at + length (xs ++ ys)) out)
    ∙ ap (λ a. take at out ++ a) (sym (append_assoc xs ys (drop (at + length (xs ++ ys)) out)))
