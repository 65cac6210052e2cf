-- Who waits on whom: what a table tells that was filled by what each line finds.
use Rattle.std.proofs.Common.{◌≡◌, ℕ, zero, suc, ◌+◌, ◌*◌, ◌/◌, ◌%◌, ◌<◌, ◌≤◌, Bool, false, ◌&&◌, ◌||◌, ltb, leb, List, [], ◌∷◌, get_or, take, None, Option, sym, refl, ap, ◌∙◌, ⊎_elim, arith}
use Rattle.std.proofs.lemmas.List.{length-take}
use Rattle.std.proofs.lemmas.Option.{slice_get_past}
use Rattle.std.proofs.lemmas.Bool.{cases_lt, lt-ltb, le-ltb, lt-leb, le-leb}
use Rattle.std.specs.Option.{option_map}
use Rattle.std.specs.List.{slice_get}
use Rattle.model.specs.Records.{Record, said}
use Rattle.model.specs.declared.command.Command.{Command}
use Rattle.model.specs.declared.record.Record as Code
use Rattle.policy.specs.Waiting.{finds_by, finds, waits_by, waits_on}

-- who waits on whom by the place in a table with 64 places a line, given what each line finds
abbrev pub waits_at : List (Option Code.Record) → ℕ → Bool
waits_at all at = waits_by (option_map said (get_or all (at / 64) None)) (option_map said (get_or all (at % 64) None))

nth_take : {X : Type 0} (n k : ℕ) (xs : List X) → k < n → slice_get (take n xs) k ≡ slice_get xs k
nth_take zero k xs h = absurd (omega arith)
nth_take (suc n) k [] h = refl
nth_take (suc n) zero (x ∷ xs) h = refl
nth_take (suc n) (suc k) (x ∷ xs) h = nth_take n k xs (omega arith)

-- a table that was filled by what each line finds tells who waits on whom
module _ (cs : List Command) (rs : List Record) (all : List (Option Code.Record)) (table : List Bool) where
  module _ (each : (k : ℕ) → k < 64 → option_map said (get_or all k None) ≡ finds cs rs k) (tells : (k : ℕ) → k < 4096 → get_or table k false ≡ waits_at all k) where
    finds_it : (k : ℕ) → k < 64 → option_map said (get_or all k None) ≡ finds (take 64 cs) rs k
    finds_it k h = each k h ∙ sym (ap (finds_by rs) (nth_take 64 k cs h))

    finds_none : (k : ℕ) → 64 ≤ k → None ≡ finds (take 64 cs) rs k
    finds_none k h =
        let short = length-take 64 cs in
        sym (ap (finds_by rs) (slice_get_past (take 64 cs) k (omega (arith, short))))

    at_place : (line earlier : ℕ) → earlier < line → line < 64 → get_or table (line * 64 + earlier) false ≡ waits_by (finds (take 64 cs) rs line) (finds (take 64 cs) rs earlier)
    at_place line earlier lt h =
        let row : (line * 64 + earlier) / 64 ≡ line = omega arith in
        let column : (line * 64 + earlier) % 64 ≡ earlier = omega arith in
        tells (line * 64 + earlier) (omega arith)
        ∙ ap (λ k. waits_by (option_map said (get_or all k None)) (option_map said (get_or all ((line * 64 + earlier) % 64) None))) row
        ∙ ap (λ k. waits_by (option_map said (get_or all line None)) (option_map said (get_or all k None))) column
        ∙ ap (λ o. waits_by o (option_map said (get_or all earlier None))) (finds_it line h)
        ∙ ap (waits_by (finds (take 64 cs) rs line)) (finds_it earlier (omega arith))

    pub table_tells : (line earlier : ℕ) → (ltb earlier line && (leb 64 line || get_or table (line * 64 + earlier) false)) ≡ waits_on (take 64 cs) rs line earlier
    table_tells line earlier = ⊎_elim
        (λ lt. rw (lt-ltb earlier line lt) (⊎_elim
        (λ low. rw (lt-leb 64 line low) (at_place line earlier lt low))
        (λ high. rw (le-leb 64 line high) (ap (λ o. waits_by o (finds (take 64 cs) rs earlier)) (finds_none line high)))
        (cases_lt line 64)))
        (λ le. rw (le-ltb earlier line le) refl)
        (cases_lt earlier line)
