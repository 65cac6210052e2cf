-- A policy's front is served: the bounds follow from what an answer means, ask by ask.
use Rattle.std.proofs.Common.{◌≡◌, ℕ, ◌+◌, ◌*◌, ◌<◌, ◌≤◌, Bool, ◌⊎◌, inl, inr, ⊎_elim, add-mul, one-mul, arith}
use Rattle.std.proofs.lemmas.Bool.{cases_eq, eq-eqb, ne_eqb}
use Rattle.model.specs.Policies.{Answered}
use Rattle.model.specs.Asks.{Asks, none, then, number, fronts, row}

-- one ask: the front was answered, or it was passed by, which the patience allowed
pub record Taken (patience front answer before after : ℕ) : Type 0 where
  pub is : answer ≡ front
  pub zero : after ≡ 0
  pub bound : before ≤ patience

pub record Passed (patience front answer before after : ℕ) : Type 0 where
  pub isnt : answer ≡ front → ⊥
  pub more : after ≡ before + 1
  pub bound : before < patience

pub served : (left : ℕ → Bool) (patience front answer before after : ℕ) → Answered left front answer (record { patience = patience; before = before; after = after })
    → Taken patience front answer before after ⊎ Passed patience front answer before after
served left patience front answer before after a = ⊎_elim
    (λ e. inl (record { is = e; zero = a.taken e; bound = a.bound }))
    (λ ne. inr (record { isnt = ne; more = a.passed ne; bound = ⊎_elim (λ e. absurd (ne (a.due e))) (λ n. omega (arith, a.bound)) (cases_eq before patience) }))
    (cases_eq answer front)

-- the row at the end is counted by the passes
row_passes : {patience front start end : ℕ} (h : Asks patience front start end) → row h ≤ end
row_passes none = omega arith
row_passes {patience} {front} {start} {end} (then {before = before} h left answer a) = ⊎_elim
    (λ t. rw (eq-eqb answer front t.is) (omega arith))
    (λ p. rw (ne_eqb answer front p.isnt) (omega (arith, row_passes h, p.more)))
    (served left patience front answer before end a)

pub never_longer : {patience front start end : ℕ} (h : Asks patience front start end) → row h ≤ patience
never_longer none = omega arith
never_longer {patience} {front} {start} {end} (then {before = before} h left answer a) = ⊎_elim
    (λ t. rw (eq-eqb answer front t.is) (omega arith))
    (λ p. rw (ne_eqb answer front p.isnt) (omega (arith, row_passes h, p.bound)))
    (served left patience front answer before end a)

pub always_served : {patience front start end : ℕ} (h : Asks patience front start end) → number h ≤ fronts h * (patience + 1) + end
always_served none = omega arith
always_served {patience} {front} {start} {end} (then {before = before} h left answer a) = ⊎_elim
    (λ t. rw (eq-eqb answer front t.is) (omega (arith, always_served h, t.zero, t.bound, add-mul (fronts h) 1 (patience + 1), one-mul (patience + 1))))
    (λ p. rw (ne_eqb answer front p.isnt) (omega (arith, always_served h, p.more)))
    (served left patience front answer before end a)
