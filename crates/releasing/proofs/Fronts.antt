-- Where every line waits on all earlier ones, the last-run policy answers the front.
use Rattle.std.proofs.Common.{◌≡◌, ℕ, ◌<◌, Bool, true, not, eqb, ltb, refl, ◌∙◌, ⊎_elim}
use Rattle.std.proofs.lemmas.Bool.{cases_order, and_parts, and_from, both_ways, cond_both, lt-ltb, not-true}
use Rattle.policy.specs.Choices.{may_pass, takes, last_run}
use Rattle.policy.specs.Lines.{leads, highest, some_below}
use Rattle.policy.specs.Waiting.{held_up, free}
use Rattle.policy.proofs.Choices.{highest_free}
use Rattle.policy.proofs.Lines.{some_from, leads_to}

module _ (waiting : ℕ → ℕ → Bool) (all : (line earlier : ℕ) → waiting line earlier ≡ ltb earlier line) (set : ℕ → Bool) (front : ℕ) where
  -- a line of the set that waits on none of it is the front
  free_front : (line : ℕ) → leads set front ≡ true → free waiting set line ≡ true → line ≡ front
  free_front line leads_it is_free =
      let f = leads_to set front leads_it in
      let p = and_parts (set line) (not (some_below (held_up waiting set line) line)) is_free in
      ⊎_elim (λ (e : line ≡ front). e) (⊎_elim
      (λ (low : line < front). absurd (f.lowest line low p.0))
      (λ (high : front < line). absurd (both_ways _ (not-true _ p.1) (some_from (held_up waiting set line) line front high (and_from _ _ f.member (all line front ∙ lt-ltb front line high))))))
      (cases_order line front)

  pub last_run_front : (patience passes answer : ℕ) → answer ≡ last_run waiting set front patience passes → answer ≡ front
  last_run_front patience passes answer is =
      let choice = highest (free waiting set) 64 front in
      is ∙ cond_both (takes set front patience passes choice) choice front (λ line. line ≡ front)
      (λ taken.
      let leads_it = (and_parts (not (eqb passes patience)) (leads set front) (and_parts (may_pass set front patience passes) (set choice) taken).0).1 in
      free_front choice leads_it (highest_free waiting set front choice refl leads_it))
      (λ _. refl)
