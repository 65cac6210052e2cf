-- Nine digits write less than 10 ^ 9.
use Rattle.std.proofs.Common.{◌≡◌, ℕ, zero, suc, ◌+◌, ◌-◌, ◌*◌, ◌^◌, ◌<◌, ◌≤◌, arith, subst, ap, ◌∙◌}
use Rattle.std.proofs.Math.Nat.{pow-suc}
use Rattle.console_lines.proofs.numbers.number.Goals as goal

grow : (i k : ℕ) → 10 ^ i ≤ 10 ^ (i + k)
grow i zero = let e : i + 0 ≡ i = omega arith in let P : ℕ → Type 0 = λ m. 10 ^ m ≤ 10 ^ (i + 0) in subst P e (omega arith)
grow i (suc k) =
    let e : i + suc k ≡ suc (i + k) = omega arith in
    let p : 10 ^ (i + suc k) ≡ 10 ^ (i + k) * 10 = ap (λ m. 10 ^ m) e ∙ pow-suc 10 (i + k) in
    omega (arith, p, grow i k)

bounded : (v i : ℕ) → v < 10 ^ i → i < 9 → v < 100000000
bounded v i h lt =
    let e : i + (8 - i) ≡ 8 = omega arith in
    let P : ℕ → Type 0 = λ m. 10 ^ i ≤ 10 ^ m in
    let g = subst P e (grow i (8 - i)) in
    omega (arith, h, g)

pub overflow_mul-value : goal.overflow_mul-value
overflow_mul-value c =
    let b = bounded c.loop-b.value c.loop-b.b-index c.loop-b.invariant.1 (omega arith) in
    omega (arith, b)

pub overflow_add-value : goal.overflow_add-value
overflow_add-value c =
    let b = bounded c.loop-b.value c.loop-b.b-index c.loop-b.invariant.1 (omega arith) in
    omega (arith, b)
