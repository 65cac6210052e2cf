-- The highest line that passes a test, as the first that is found from above; and whether some line passes one, tested
-- from above.
use Rattle.std.proofs.Common.{◌≡◌, ℕ, zero, suc, ◌<◌, Bool, true, false, cond, ◌||◌, List, [], ◌∷◌, Some, Option, sym, refl, ap, ◌∙◌, ⊎_elim, arith}
use Rattle.std.proofs.Math.Bool.{or-true}
use Rattle.std.proofs.lemmas.Bool.{cases_lt, both_ways}
use Rattle.std.proofs.lemmas.Iterator.{YieldsList}
use Rattle.std.proofs.lemmas.Iterator.Adapters.{option_map_id}
use Rattle.std.proofs.iter.runs.Sources.{nat_range_steps_back}
use Rattle.std.specs.Iterator.{AlwaysYields}
use Rattle.std.specs.Iterator.Adapters.{rev_source, rev_steps}
use Rattle.std.specs.List.{find, list_any}
use Rattle.std.specs.Option.{option_map, unwrap_or}
use Rattle.std.specs.declared.iter.Rev.{Rev}
use Rattle.std.specs.declared.ops.Range.{Range}
use Rattle.policy.proofs.Lines.{some_from, some_to}
use Rattle.policy.specs.Lines.{highest, some_below}

-- the numbers below n, from above
unfoldable pub down : ℕ → List ℕ
down zero = []
down (suc n) = n ∷ down n

gives : (n : ℕ) (s : Rev (Range ℕ)) → (rev_source s).start ≡ 0 → (rev_source s).end ≡ n → AlwaysYields (rev_steps nat_range_steps_back) (λ x. x) s (down n)
unfolding down
gives zero s z e = λ x j p. omega (arith, e, p.1.0)
gives (suc n) s z e = ((λ j p. omega (arith, e, z, p.1.0)), λ x j p. (omega (arith, e, p.1.1, p.1.2), gives n j (p.0 ∙ z) (omega (arith, e, p.1.2))))

-- a range gives them from its end
pub from_above : (n : ℕ) (s : Rev (Range ℕ)) → rev_source s ≡ record { start = 0; end = n } → YieldsList (rev_steps nat_range_steps_back) (λ x. x) s (down n)
from_above n s e = record { runs = gives n s (ap (λ r. r.start) e) (ap (λ r. r.end) e) }

found_down : (test : ℕ → Bool) (n d : ℕ) → unwrap_or (find test (down n)) d ≡ highest test n d
unfolding highest down
found_down test zero d = refl
found_down test (suc n) d = by (test n) (found_down test n d)
  where
    by : (b : Bool) → unwrap_or (find test (down n)) d ≡ highest test n d → unwrap_or (cond b (Some n) (find test (down n))) d ≡ cond b n (highest test n d)
    by true h = refl
    by false h = h

-- the highest line that passes a test is the first that is found from above
pub highest_found : (test : ℕ → Bool) (n d : ℕ) (o : Option ℕ) → option_map (λ x. x) o ≡ find test (down n) → unwrap_or o d ≡ highest test n d
highest_found test n d o e = ap (λ p. unwrap_or p d) (sym (option_map_id o) ∙ e) ∙ found_down test n d

-- TESTED FROM ABOVE

any_from : (test : ℕ → Bool) (n k : ℕ) → k < n → test k ≡ true → list_any test (down n) ≡ true
unfolding down
any_from test zero k l h = absurd (omega arith)
any_from test (suc n) k l h = ⊎_elim
    (λ low. ap (λ b. test n || b) (any_from test n k low h) ∙ or-true (test n))
    (λ high. (let is : k ≡ n = omega arith in ap (λ b. b || list_any test (down n)) (rw is at h)))
    (cases_lt k n)

any_to : (test : ℕ → Bool) (n : ℕ) → list_any test (down n) ≡ true → (k : ℕ) × (k < n) × (test k ≡ true)
unfolding down
any_to test zero h = absurd (both_ways false refl h)
any_to test (suc n) h = by (test n) refl h (any_to test n)
  where
    by : (b : Bool) → test n ≡ b → (b || list_any test (down n)) ≡ true → (list_any test (down n) ≡ true → (k : ℕ) × (k < n) × (test k ≡ true)) → (k : ℕ) × (k < suc n) × (test k ≡ true)
    by true e a lower = (n, omega arith, e)
    by false e a lower = let found = lower a in (found.0, omega (arith, found.1), found.2)

-- some line below n passes the test, looked for from above
pub any_below : (test : ℕ → Bool) (n : ℕ) → list_any test (down n) ≡ some_below test n
any_below test n = by (list_any test (down n)) (some_below test n)
    (λ e. let found = any_to test n e in some_from test n found.0 found.1 found.2)
    (λ e. let found = some_to test n e in any_from test n found.0 found.1 found.2)
  where
    by : (a b : Bool) → (a ≡ true → b ≡ true) → (b ≡ true → a ≡ true) → a ≡ b
    by true b f g = sym (f refl)
    by false true f g = g refl
    by false false f g = refl
