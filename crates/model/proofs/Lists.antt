-- Facts about lists that the library lacks.
use Rattle.std.proofs.Common.{◌≡◌, ℕ, zero, suc, Bool, true, false, cond, List, [], ◌∷◌, get_or, replicate, Some, find, map, refl, ◌+◌, not, ltb, length, None, sym, ap, ◌∙◌, arith}
use Rattle.std.proofs.lemmas.Bool.{lt-ltb}
use Rattle.std.specs.Option.{option_map}
use Rattle.std.specs.List.{position, position_or_len}

-- the first of what a list gives, by a test of what it gives
pub find_map : {X Y : Type 0} (g : X → Y) (t : Y → Bool) (xs : List X) → option_map g (find (λ x. t (g x)) xs) ≡ find t (map g xs)
find_map g t [] = refl
find_map g t (x ∷ xs) = by (t (g x)) (find_map g t xs)
  where
    by : (b : Bool) → option_map g (find (λ y. t (g y)) xs) ≡ find t (map g xs) → option_map g (cond b (Some x) (find (λ y. t (g y)) xs)) ≡ cond b (Some (g x)) (find t (map g xs))
    by true h = refl
    by false h = h

-- a list of one value gives it at every place, also past its end
pub get_or-same : {X : Type 0} (n i : ℕ) (x : X) → get_or (replicate n x) i x ≡ x
get_or-same zero i x = refl
get_or-same (suc n) zero x = refl
get_or-same (suc n) (suc i) x = get_or-same n i x

-- the place of the first that passes a test: step by step, and in what a list gives
pub position_more : {X : Type 0} (t : X → Bool) (x : X) (xs : List X) → position t (x ∷ xs) ≡ cond (t x) (Some 0) (option_map suc (position t xs))
position_more t x xs = by (t x)
  where
    later : (n : ℕ) (b : Bool) → cond b (Some (suc n)) None ≡ option_map suc (cond b (Some n) None)
    later n true = refl
    later n false = refl

    by : (b : Bool) → cond (ltb (cond (not b) (1 + position_or_len t xs) 0) (length (x ∷ xs))) (Some (cond (not b) (1 + position_or_len t xs) 0)) None ≡ cond b (Some 0) (option_map suc (position t xs))
    by true = ap (λ b. cond b (Some 0) None) (lt-ltb 0 (suc (length xs)) (omega arith))
    by false =
        let n = position_or_len t xs in
        let z : 1 + n ≡ suc n = omega arith in
        let same : ltb (suc n) (suc (length xs)) ≡ ltb n (length xs) = grind arith in
        ap (λ k. cond (ltb k (length (x ∷ xs))) (Some k) None) z ∙ ap (λ b. cond b (Some (suc n)) None) same ∙ later n (ltb n (length xs))

pub position_map : {X Y : Type 0} (t : Y → Bool) (f : X → Y) (xs : List X) → position t (map f xs) ≡ position (λ x. t (f x)) xs
position_map t f [] = refl
position_map t f (x ∷ xs) =
    position_more t (f x) (map f xs)
    ∙ ap (λ o. cond (t (f x)) (Some 0) (option_map suc o)) (position_map t f xs)
    ∙ sym (position_more (λ y. t (f y)) x xs)
