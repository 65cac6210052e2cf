-- Looking for a file among the entries of an image.
use Rattle.std.proofs.Common.{◌≡◌, ℕ, zero, suc, ◌+◌, ◌*◌, ◌/◌, ◌<◌, ◌≤◌, min, Bool, true, false, cond, ◌==◌, List, [], ◌∷◌, length, get_or, take, drop, find, Some, None, Option, sym, refl, ap, ◌∙◌, arith}
use Rattle.std.proofs.lemmas.List.{length-drop, take_all}
use Rattle.std.specs.Simd.{first_chunks}
use Rattle.files.specs.Layout.{told, mapped}
use Rattle.files.specs.Trips.{mapped_at}

-- the number that an entry tells
abbrev pub number_of : Option (List ℕ) → ℕ
number_of None = 0
number_of (Some e) = get_or e 1 0 * 256 + get_or e 2 0

-- the first n of k entries give a file what the first of them that is the file's tells
told_is : (f n k : ℕ) (bs : List ℕ) → n ≤ k → 3 * k ≤ length bs → told f n bs ≡ number_of (find (λ e. get_or e 0 0 == f) (take n (first_chunks 3 k bs)))
unfolding told
told_is f zero k bs h l = refl
told_is f (suc n) zero bs h l = absurd (omega arith)
told_is f (suc n) (suc k) [] h l = absurd (omega arith)
told_is f (suc n) (suc k) (g ∷ []) h l = absurd (omega arith)
told_is f (suc n) (suc k) (g ∷ a ∷ []) h l = absurd (omega arith)
told_is f (suc n) (suc k) (g ∷ a ∷ b ∷ bs) h l = by (told_is f n k bs (omega arith) (omega arith)) (g == f)
  where
    by : told f n bs ≡ number_of (find (λ e. get_or e 0 0 == f) (take n (first_chunks 3 k bs))) → (is : Bool) → cond is (a * 256 + b) (told f n bs) ≡ number_of (cond is (Some (g ∷ a ∷ b ∷ [])) (find (λ e. get_or e 0 0 == f) (take n (first_chunks 3 k bs))))
    by rest true = refl
    by rest false = rest

-- the search answers what the image gives the file
pub found_is : (f n : ℕ) (bs : List ℕ) (es : List (List ℕ)) (o : Option (List ℕ)) → length bs ≡ 193 → f < 64 → n ≡ min (get_or bs 0 0) 64 → es ≡ first_chunks 3 (length (take 192 (drop 1 bs)) / 3) (take 192 (drop 1 bs)) → o ≡ find (λ e. get_or e 0 0 == f) (take n es) → number_of o ≡ get_or (mapped bs) f 0
found_is f n bs es o long low count entries found =
    let l = length-drop 1 bs in
    let all : take 192 (drop 1 bs) ≡ drop 1 bs = take_all 192 (drop 1 bs) (omega arith) in
    let many : length (drop 1 bs) / 3 ≡ 64 = omega arith in
    let es_are : es ≡ first_chunks 3 64 (drop 1 bs) = entries ∙ ap (λ xs. first_chunks 3 (length xs / 3) xs) all ∙ ap (λ k. first_chunks 3 k (drop 1 bs)) many in
    ap number_of (found ∙ ap (λ xs. find (λ e. get_or e 0 0 == f) (take n xs)) es_are)
    ∙ sym (told_is f n 64 (drop 1 bs) (omega arith) (omega arith)) ∙ ap (λ m. told f m (drop 1 bs)) count ∙ sym (mapped_at bs f low)
