-- What is settled by patience is an answer of a policy's meaning; a set always has a line that waits on none of it.
use Rattle.std.proofs.Common.{◌≡◌, ℕ, zero, suc, ◌+◌, ◌≤◌, Bool, true, false, cond, not, eqb, sym, refl, ⊎_elim}
use Rattle.std.proofs.lemmas.Bool.{cases_Bool, and_parts, and_from, not-true, not_from_false, eqb-false}
use Rattle.model.specs.Policies.{Answered}
use Rattle.policy.specs.Lines.{some_below, leads, highest}
use Rattle.policy.specs.Choices.{may_pass, takes}
use Rattle.policy.specs.Waiting.{held_up, free}
use Rattle.policy.proofs.Lines.{some_to, leads_to}

-- the front was passed by: the choice was taken, and it is another line
module _ (set : ℕ → Bool) (front patience passes choice : ℕ) (taken : true ≡ takes set front patience passes choice) where
  may : may_pass set front patience passes ≡ true
  may = (and_parts (may_pass set front patience passes) (set choice) (sym taken)).0

  pub passed_by : passes ≤ patience → (choice ≡ front → ⊥) → Answered set front choice (record { patience = patience; before = passes; after = passes + 1 })
  passed_by le ne =
      let p = and_parts (not (eqb passes patience)) (leads set front) may in
      record {
        bound = le;
        member = λ _. (and_parts (may_pass set front patience passes) (set choice) (sym taken)).1;
        due = λ e. absurd (eqb-false passes patience (not-true _ p.0) e);
        astray = λ no. absurd (no (leads_to set front p.1));
        taken = λ e. absurd (ne e);
        passed = λ _. refl;
      }

-- what holds of each line that passes a test, and of the default, holds of the highest
highest_is : (P : ℕ → Type 0) (test : ℕ → Bool) (n d : ℕ) → ((k : ℕ) → test k ≡ true → P k) → P d → P (highest test n d)
unfolding highest
highest_is P test zero d h o = o
highest_is P test (suc n) d h o = by (test n) refl (highest_is P test n d h o)
  where
    by : (b : Bool) → test n ≡ b → P (highest test n d) → P (cond b n (highest test n d))
    by true e rest = h n e
    by false e rest = rest

-- the front of a set waits on no line of it
front_free : (waiting : ℕ → ℕ → Bool) (set : ℕ → Bool) (front : ℕ) → leads set front ≡ true → free waiting set front ≡ true
front_free waiting set front h =
    let f = leads_to set front h in
    and_from _ _ f.member (not_from_false _ (⊎_elim
    (λ e. let s = some_to (held_up waiting set front) front e in absurd (f.lowest s.0 s.1 (and_parts (set s.0) (waiting front s.0) s.2).0))
    (λ e. e)
    (cases_Bool (some_below (held_up waiting set front) front))))

-- so the highest line that waits on none is such a line
pub highest_free : (waiting : ℕ → ℕ → Bool) (set : ℕ → Bool) (front line : ℕ) → line ≡ highest (free waiting set) 64 front → leads set front ≡ true → free waiting set line ≡ true
highest_free waiting set front line e l = rw e (highest_is (λ k. free waiting set k ≡ true) (free waiting set) 64 front (λ k f. f) (front_free waiting set front l))
