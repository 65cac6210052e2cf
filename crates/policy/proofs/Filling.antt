-- What an array holds that a closure filled.
use Rattle.std.proofs.Common.{◌≡◌, ◌≢◌, ℕ, zero, suc, ◌+◌, ◌<◌, ◌≤◌, List, get_or, subst, ⊎_elim, arith}
use Rattle.std.proofs.lemmas.Bool.{cases_eq}
use Rattle.std.specs.Array.{IsFromFnResultFrom}
use Rattle.std.specs.Fn.{Called, Mut}

-- what each call of a closure that never changes gives, holds of the places that the calls fill
pub filled : {F B : Type 0} {g : Mut F (ℕ × Unit {0}) B} (f : F) (ys : List B) (P : ℕ → B → Type 0) → ((x : ℕ) (y : B) (q : F) → Called g f (x, tt) y q → (q ≡ f) × P x y) → (i n : ℕ) → IsFromFnResultFrom g f ys i n → (k : ℕ) → i ≤ k → k < i + n → (d : B) → P k (get_or ys k d)
filled f ys P each i zero h k le lt d = absurd (omega arith)
filled {g = g} f ys P each i (suc n) (q, y, at, call, rest) k le lt d =
    let made = each i y q call in
    ⊎_elim
    (λ (e : k ≡ i). rw (e, at.1 d) made.1)
    (λ (ne : k ≢ i). filled f ys P each (i + 1) n (subst (λ z. IsFromFnResultFrom g z ys (i + 1) n) made.0 rest) k (omega arith) (omega arith) d)
    (cases_eq k i)
