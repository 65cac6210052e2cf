-- Bytes that are laid into a part of a buffer are laid into the buffer.
use Rattle.std.proofs.Common.{◌≡◌, ℕ, ◌+◌, ◌-◌, ◌≤◌, List, [], ◌++◌, length, take, drop, sym, ap, ◌∙◌, append_assoc, append-nil, arith}
use Rattle.std.proofs.lemmas.List.{drop-drop, drop-append-le, drop_at, drop_all, take_all, take-append-drop, length-take-le, length-append, length-drop}
use borrow.Rule.Slice.PartMut.{mid_of, put_mid}
use Rattle.output.specs.Writes.{laid}
use Rattle.output.proofs.Laid.{laid_append}

-- into the first n bytes
pub into_front : (n : ℕ) (xs out : List ℕ) → length xs ≤ n → n ≤ length out → laid 0 xs (take n out) ++ drop n out ≡ laid 0 xs out
into_front n xs out short fits =
    let t = length-take-le n out fits in
    append_assoc xs (drop (0 + length xs) (take n out)) (drop n out)
    ∙ ap (λ r. xs ++ r) (sym (drop-append-le (0 + length xs) (take n out) (drop n out) (omega arith)) ∙ ap (drop (0 + length xs)) (take-append-drop n out))

-- into those from a place on
pub into_back : (at : ℕ) (xs out : List ℕ) → take at out ++ laid 0 xs (drop at out) ≡ laid at xs out
into_back at xs out =
    let same : at + (0 + length xs) ≡ at + length xs = omega arith in
    ap (λ r. take at out ++ (xs ++ r)) (drop-drop (0 + length xs) at out ∙ ap (λ k. drop k out) same)

-- before bytes that were laid
pub in_front : (at : ℕ) (xs ys out : List ℕ) → at ≡ length xs → at ≤ length out → laid 0 xs (laid at ys out) ≡ laid 0 (xs ++ ys) out
in_front at xs ys out e fits =
    let t = length-take-le at out fits in
    let start : 0 + length xs ≡ at = omega arith in
    let sizes : at + length ys ≡ 0 + length (xs ++ ys) = omega (arith, length-append xs ys) in
    ap (λ k. xs ++ drop k (laid at ys out)) start
    ∙ ap (λ r. xs ++ r) (drop_at (take at out) (ys ++ drop (at + length ys) out) at t)
    ∙ ap (λ k. xs ++ (ys ++ drop k out)) sizes
    ∙ sym (append_assoc xs ys (drop (0 + length (xs ++ ys)) out))

-- into the part from a place to the end
pub rest_is : (at : ℕ) (out : List ℕ) → mid_of at (length out - at) out ≡ drop at out
rest_is at out = take_all (length out - at) (drop at out) (omega (arith, length-drop at out))

pub put_rest : (at : ℕ) (out ys : List ℕ) → put_mid at (length out - at) out ys ≡ take at out ++ ys
put_rest at out ys =
    let none : drop (length out - at) (drop at out) ≡ [] = drop_all (length out - at) (drop at out) (omega (arith, length-drop at out)) in
    ap (λ r. take at out ++ (ys ++ r)) none ∙ ap (λ r. take at out ++ r) (append-nil ys)

pub into_rest : (at : ℕ) (xs out ys : List ℕ) → ys ≡ laid 0 xs (mid_of at (length out - at) out) → put_mid at (length out - at) out ys ≡ laid at xs out
into_rest at xs out ys is = put_rest at out ys ∙ ap (λ r. take at out ++ r) (is ∙ ap (laid 0 xs) (rest_is at out)) ∙ into_back at xs out

-- behind bytes that were laid, into the part from there to the end
pub behind_rest : (at : ℕ) (xs ys out whole part : List ℕ) → whole ≡ laid 0 xs out → at ≡ length xs → length xs ≤ length out → part ≡ laid 0 ys (mid_of at (length whole - at) whole) → put_mid at (length whole - at) whole part ≡ laid 0 (xs ++ ys) out
behind_rest at xs ys out whole part before e fits is =
    let same : at ≡ 0 + length xs = omega arith in
    into_rest at ys whole part is
    ∙ ap (laid at ys) before
    ∙ ap (λ k. laid k ys (laid 0 xs out)) same
    ∙ laid_append 0 xs ys out (omega arith)

-- a buffer keeps its length
pub laid_length : (xs out : List ℕ) → length xs ≤ length out → length (laid 0 xs out) ≡ length out
laid_length xs out fits = omega (arith, length-append xs (drop (0 + length xs) out), length-drop (0 + length xs) out)
