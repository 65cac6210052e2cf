-- Where the front is passed by, the lowest odd line was chosen.
use Rattle.std.proofs.Common.{◌≡◌, ℕ, ◌+◌, ◌≤◌, Bool, true, false, cond, List, [], ◌∷◌, Some, None, Option, sym, refl}
use Rattle.std.proofs.lemmas.Bool.{and_parts, and_from}
use Rattle.std.specs.List.{find, range_with_len}
use Rattle.std.specs.Option.{unwrap_or}
use Rattle.model.specs.Policies.{Answered}
use Rattle.policy.specs.Choices.{may_pass}
use Rattle.policy.specs.Lines.{has}
use Rattle.policy.proofs.Choices.{passed_by}
use Rattle.client.specs.Odd.{is_odd_in, odd_first}
use Rattle.client.proofs.odd_first.OddFirstPolicy.ask.Goals as goal

-- what is found passes the test
found_passes : (test : ℕ → Bool) (xs : List ℕ) (x : ℕ) → find test xs ≡ Some x → test x ≡ true
found_passes test [] x e = cc
found_passes test (y ∷ ys) x e = by (test y) refl e (found_passes test ys x)
  where
    by : (b : Bool) → test y ≡ b → cond b (Some y) (find test ys) ≡ Some x → (find test ys ≡ Some x → test x ≡ true) → test x ≡ true
    by true t e rest =
        let same : y ≡ x = cc in
        rw same at t
    by false t e rest = rest e

module _ (set : ℕ → Bool) (front passes line : ℕ) (other : line ≡ front → ⊥) (few : passes ≤ 3) where
  chosen : (o : Option ℕ) → find (is_odd_in set) (range_with_len 0 64) ≡ o → may_pass set front 3 passes ≡ true → line ≡ unwrap_or o front → Answered set front line (record { patience = 3; before = passes; after = passes + 1 })
  chosen None e may is = absurd (other is)
  chosen (Some x) e may is =
      let in_set = (and_parts _ (set x) (found_passes (is_odd_in set) (range_with_len 0 64) x e)).1 in
      passed_by set front 3 passes line (sym (and_from _ _ may (rw is in_set))) few other

  passed : line ≡ odd_first set front passes → Answered set front line (record { patience = 3; before = passes; after = passes + 1 })
  passed is = by (may_pass set front 3 passes) refl is
    where
      by : (b : Bool) → may_pass set front 3 passes ≡ b → line ≡ cond b (unwrap_or (find (is_odd_in set) (range_with_len 0 64)) front) front → Answered set front line (record { patience = 3; before = passes; after = passes + 1 })
      by false may is = absurd (other is)
      by true may is = chosen (find (is_odd_in set) (range_with_len 0 64)) refl may is

pub returns-else-line-front-clause-answers : goal.returns-else-line-front-clause-answers
returns-else-line-front-clause-answers c =
    let s = c.args.self.now in
    passed (has c.args.among.now) c.args.front s.passes c.choose-line.result c.if-line-front.false s.within c.choose-line.ensures
