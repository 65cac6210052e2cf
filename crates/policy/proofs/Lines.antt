-- Sets of lines: whether some line passes a test, and which line is the lowest.
use Rattle.std.proofs.Common.{◌≡◌, ℕ, ◌<◌, ◌≤◌, Bool, true, false, not, get_or, Some, None, Option, sym, ◌∙◌, ⊎_elim, arith}
use Rattle.std.proofs.lemmas.List.Folds.{list_any_at, Any-from_list_any}
use Rattle.std.proofs.lemmas.List.FromFn.{length-range_with_len, get_or-range_with_len}
use Rattle.std.proofs.lemmas.Bool.{cases_lt, both_ways, and_parts, not-true}
use Rattle.std.specs.List.{range_with_len}
use Rattle.std.specs.Option.{MatchOption}
use Rattle.model.specs.Policies.{Front}
use Rattle.policy.specs.Lines.{some_below, leads, Lowest}

-- a line below n passes the test
pub some_from : (test : ℕ → Bool) (n k : ℕ) → k < n → test k ≡ true → some_below test n ≡ true
some_from test n k l h =
    let at : get_or (range_with_len 0 n) k 0 ≡ k = get_or-range_with_len 0 n k 0 l ∙ omega arith in
    let long = length-range_with_len 0 n in
    list_any_at test (range_with_len 0 n) k 0 (omega (arith, long)) (rw at h)

pub some_to : (test : ℕ → Bool) (n : ℕ) → some_below test n ≡ true → (k : ℕ) × (k < n) × (test k ≡ true)
some_to test n h =
    let a = Any-from_list_any test (range_with_len 0 n) h in
    let long = length-range_with_len 0 n in
    let l : a.0 < n = omega (arith, a.2, long) in
    let is : a.1 ≡ a.0 = sym a.3 ∙ get_or-range_with_len 0 n a.0 a.1 l ∙ omega arith in
    (a.0, l, rw is at a.4)

-- the line that is found from below is the lowest, where no number above 63 is in the set
pub lowest_found : (set : ℕ → Bool) (o : Option ℕ) → ((k : ℕ) → 64 ≤ k → set k ≡ false) → MatchOption o ((k : ℕ) → 0 ≤ k → k < 64 → set k ≡ false) (λ i. (0 ≤ i) × (i < 64) × (set i ≡ true) × ((k : ℕ) → 0 ≤ k → k < i → set k ≡ false)) → Lowest set o
lowest_found set None past h = λ k e. ⊎_elim (λ lt. both_ways _ (h k (omega arith) lt) e) (λ le. both_ways _ (past k le) e) (cases_lt k 64)
lowest_found set (Some i) past h = record { member = h.2; lowest = λ k l e. both_ways _ (h.3 k (omega arith) l) e }

pub leads_to : (set : ℕ → Bool) (f : ℕ) → leads set f ≡ true → Front set f
leads_to set f h =
    let p = and_parts (set f) (not (some_below set f)) h in
    record { member = p.0; lowest = λ k l e. both_ways _ (not-true _ p.1) (some_from set f k l e) }
