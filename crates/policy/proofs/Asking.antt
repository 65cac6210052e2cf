-- Asks of a policy that each passed the front by, and the one that answers it.
use Rattle.std.proofs.Common.{◌≡◌, ℕ, ◌+◌, ◌≤◌, Bool, refl, ap, arith}
use Rattle.std.proofs.lemmas.Bool.{eq-eqb, ne_eqb}
use Rattle.model.specs.Asks.{Asks, none, then, number, fronts, row}
use Rattle.model.specs.Policies.{Answered}
use Rattle.model.proofs.Asks.{never_longer}

-- n asks, each of which passed the front by
abbrev pub Passing : (patience front start end n : ℕ) → Type 0
Passing patience front start end n = (h : Asks patience front start end) × (number h ≡ n) × (fronts h ≡ 0) × (row h ≡ n)

pub passing_none : {patience front start : ℕ} → Passing patience front start start 0
passing_none = (none, refl, refl, refl)

pub passing_few : (patience front start end n : ℕ) → Passing patience front start end n → n ≤ patience
passing_few patience front start end n p = omega (arith, never_longer p.0, p.3)

module _ (patience front start before after n : ℕ) (left : ℕ → Bool) (answer now : ℕ) (p : Passing patience front start before n) (same : now ≡ patience) (a : Answered left front answer (record { patience = now; before = before; after = after })) where
  answered : Answered left front answer (record { patience = patience; before = before; after = after })
  answered = rw same at a

  pub passing_more : (answer ≡ front → ⊥) → Passing patience front start after (n + 1)
  passing_more ne =
      let no = ne_eqb answer front ne in
      (then p.0 left answer answered, ap (λ m. m + 1) p.1, rw no p.2, rw no (ap (λ m. m + 1) p.3))

  pub passing_ends : answer ≡ front → (h : Asks patience front start after) × (number h ≡ n + 1) × (fronts h ≡ 1)
  passing_ends e = (then p.0 left answer answered, ap (λ m. m + 1) p.1, rw (eq-eqb answer front e) (ap (λ m. m + 1) p.2))
