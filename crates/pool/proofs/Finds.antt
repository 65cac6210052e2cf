-- Numbers: which are held, what content each has, and which one a search finds.
use Rattle.std.proofs.Common.{◌≡◌, ℕ, zero, suc, ◌+◌, ◌-◌, ◌<◌, ◌≤◌, true, false, leb, List, [], ◌∷◌, length, get_or, sym, refl, ap, ◌∙◌, arith}
use Rattle.std.proofs.lemmas.Bool.{cond-true, cond-false, and_parts, leb-true}
use Rattle.std.specs.Str.{bytes_eq}
use Rattle.model.specs.Contents.{holds, find, up}
use Rattle.pool.specs.Contents.{held, meant}
use Rattle.pool.specs.declared.holder.Pool.{Pool}
use Rattle.pool.proofs.Places.{count_held}

-- a number that is held tells a place
pub held_place : (s : Pool) → (n : ℕ) → holds (meant s) n ≡ true → (1 ≤ n) × (n - 1 < s.count)
held_place s n e =
    let parts = and_parts (leb 1 n) (leb n (length (held s))) e in
    let low = leb-true 1 n parts.0 in
    let high = leb-true n (length (held s)) parts.1 in
    let count = count_held s in (low, omega arith)

-- the first index at which the bytes are the same
pub find_at : (x : List ℕ) (xs : List (List ℕ)) (i : ℕ) → i < length xs → bytes_eq x (get_or xs i []) ≡ true → ((k : ℕ) → k < i → bytes_eq x (get_or xs k []) ≡ false) → i + 1 ≡ find x xs
find_at x [] i h e none = absurd (omega arith)
find_at x (y ∷ xs) zero h e none = sym (cond-true (bytes_eq x y) 1 (up (find x xs)) e)
find_at x (y ∷ xs) (suc i) h e none =
    let rest = find_at x xs i (omega arith) e (λ k l. none (suc k) (omega arith)) in
    let more : suc i + 1 ≡ suc (suc i) = omega arith in
    let same : suc i ≡ i + 1 = omega arith in
    more ∙ ap up (same ∙ rest) ∙ sym (cond-false (bytes_eq x y) 1 (up (find x xs)) (none 0 (omega arith)))

pub find_none : (x : List ℕ) (xs : List (List ℕ)) → ((k : ℕ) → k < length xs → bytes_eq x (get_or xs k []) ≡ false) → 0 ≡ find x xs
find_none x [] none = refl
find_none x (y ∷ xs) none =
    ap up (find_none x xs (λ k l. none (suc k) (omega arith))) ∙ sym (cond-false (bytes_eq x y) 1 (up (find x xs)) (none 0 (omega arith)))
