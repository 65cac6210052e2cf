-- One turn of the loop over the text lines.
use Rattle.std.proofs.Common.{◌≡◌, ℕ, ◌+◌, ◌<◌, ◌≤◌, ◌⊎◌, Bool, false, eqb, ltb, List, [], ◌∷◌, ◌++◌, length, get_or, drop, Ok, Err, Result, sym, refl, ap, ◌∙◌, subst, inl, inr, arith, Bor}
use Rattle.std.proofs.lemmas.Iterator.{YieldsList}
use Rattle.std.proofs.lemmas.Iterator.Consumers.{YieldsList-at, YieldsList-from_enumerate}
use Rattle.std.proofs.lemmas.Iterator.Splits.{YieldsList-from_slice_split}
use Rattle.std.proofs.lemmas.List.{at_drop_more, at_drop_all}
use Rattle.std.proofs.lemmas.Bool.{cond-false, cases_Bool, le-ltb}
use Rattle.std.proofs.lemmas.List.FromFn.{length-enumerate_from, get_or-enumerate_from}
use Rattle.std.specs.Fn.{CalledAt}
use Rattle.std.specs.Iterator.Adapters.{enumerate_source, enumerate_count, enumerate_steps}
use Rattle.std.specs.Slice.Iter.{split_rest, split_done, split_callee, split_steps}
use denote.Param.Members.{Mut}
use Rattle.std.specs.List.{slice_split, onto_first, enumerate_from}
use Rattle.model.specs.declared.refusal.Refusal.{Refusal}
use Rattle.model.specs.declared.refusal.Refusal.TheVariants.{TextTooLong}
use Rattle.script.specs.declared.answer.Refused.{Refused}
use Rattle.script.specs.declared.tables.Tables.{Tables}
use Rattle.script.specs.Text.{onto, line_adds, Meaning, nothing, then, from_line, reading, lines}
use Rattle.script.specs.Views.{held, changed}

abbrev pub parts : List ℕ → List (List ℕ)
parts text = slice_split (λ b. eqb b 10) text

-- the parts of `split` are the text lines, or these and an empty one
abbrev Alike : List (List ℕ) → List (List ℕ) → Type 0
Alike ps ls = (ps ≡ ls) ⊎ (ps ≡ ls ++ [] ∷ [])

onto_same : (b : ℕ) (ps : List (List ℕ)) → onto_first b ps ≡ onto b ps
onto_same b [] = refl
onto_same b (p ∷ ps) = refl

onto_more : (b : ℕ) (ls : List (List ℕ)) → Alike (onto_first b (ls ++ [] ∷ [])) (onto b ls)
onto_more b [] = inl refl
onto_more b (l ∷ ls) = inr refl

onto_alike : (b : ℕ) (ps ls : List (List ℕ)) → Alike ps ls → Alike (onto_first b ps) (onto b ls)
onto_alike b ps ls (inl e) = inl (ap (onto_first b) e ∙ onto_same b ls)
onto_alike b ps ls (inr e) = subst (λ (qs : List (List ℕ)). Alike (onto_first b qs) (onto b ls)) (sym e) (onto_more b ls)

next_alike : (ps ls : List (List ℕ)) → Alike ps ls → Alike ([] ∷ ps) ([] ∷ ls)
next_alike ps ls (inl e) = inl (ap (λ qs. [] ∷ qs) e)
next_alike ps ls (inr e) = inr (ap (λ qs. [] ∷ qs) e)

alike : (text : List ℕ) → Alike (parts text) (lines text)
alike [] = inr refl
alike (b ∷ bs) =
    elim (cases_Bool (eqb b 10)) [
      | inl t ↦ simp t (next_alike (parts bs) (lines bs) (alike bs))
      | inr f ↦ simp f (onto_alike b (parts bs) (lines bs) (alike bs))
    ]

-- an empty text line adds nothing
empty_after : (ls : List (List ℕ)) (n : ℕ) → ((s : Meaning) → from_line (ls ++ [] ∷ []) n s ≡ from_line ls n s) → (m : ℕ) (r : Result Meaning Refusal) → then m r (from_line (ls ++ [] ∷ []) n) ≡ then m r (from_line ls n)
empty_after ls n h m (Ok s) = h s
empty_after ls n h m (Err e) = refl

empty_last : (ls : List (List ℕ)) (n : ℕ) (s : Meaning) → from_line (ls ++ [] ∷ []) n s ≡ from_line ls n s
empty_last [] n s = refl
empty_last (l ∷ ls) n s = empty_after ls (n + 1) (empty_last ls (n + 1)) n (line_adds s l)

same_reading : (text : List ℕ) → from_line (parts text) 1 nothing ≡ from_line (lines text) 1 nothing
same_reading text =
    elim (alike text) [
      | inl e ↦ ap (λ ls. from_line ls 1 nothing) e
      | inr e ↦ ap (λ ls. from_line ls 1 nothing) e ∙ empty_last (lines text) 1 nothing
    ]

-- the numbered parts, as the loop goes over them
pub numbered : {F : Type 0} {it enumerated : _} {pieces : _} {g : Mut F (Bor ℕ × Unit {0}) Bool} {f : F} (text : List ℕ) → it ≡ enumerated → enumerate_source enumerated ≡ pieces → enumerate_count enumerated ≡ 0 → split_rest pieces ≡ text → split_done pieces ≡ false → split_callee pieces ≡ f → ((x : ℕ) (b : Bool) (q : F) → CalledAt g f x b q → (q ≡ f) × (b ≡ eqb x 10)) → YieldsList (enumerate_steps (split_steps g)) (λ p. (p.0, p.1.now)) it (enumerate_from 0 (parts text))
numbered {g = g} text same source count rest done closure k =
    YieldsList-at same (YieldsList-from_enumerate (YieldsList-at source (YieldsList-from_slice_split g (λ b. eqb b 10) text rest done closure k)) count)

-- where a turn of the loop over the numbered parts is
pub turn_at : (text : List ℕ) (n i : ℕ) (line : List ℕ) → (n < length (enumerate_from 0 (parts text))) × ((i, line) ≡ get_or (enumerate_from 0 (parts text)) n (i, line)) → (n < length (parts text)) × (i ≡ n) × (line ≡ get_or (parts text) n line)
turn_at text n i line (h, e) =
    let l = length-enumerate_from 0 (parts text) in
    let lt : n < length (parts text) = omega arith in
    let f = e ∙ get_or-enumerate_from 0 (parts text) n (i, line) lt in
    let same : i ≡ 0 + n = ap (λ p. p.0) f in
    (lt, omega arith, ap (λ p. p.1) f)

-- a refusal with the number of its text line
abbrev pub told : {U : Type 0} → ℕ → Result U Refusal → Result U Refused
told n (Ok x) = Ok x
told n (Err c) = Err (record { refusal = c; line = n })

-- what is left of the text gives the answer, n parts on
pub record Left (text : List ℕ) (s : Meaning) (n : ℕ) : Type 0 where
  pub rest : from_line (drop n (parts text)) (n + 1) s ≡ from_line (parts text) 1 nothing
  pub short : length text ≤ 16384

module _ (text : List ℕ) (s : Meaning) (n : ℕ) (inv : Left text s n) where
  all_read : from_line (parts text) 1 nothing ≡ reading text
  all_read =
      same_reading text
      ∙ sym (cond-false (ltb 16384 (length text)) (Err (record { refusal = TextTooLong; line = 0 })) (from_line (lines text) 1 nothing) (le-ltb 16384 (length text) inv.short))

  pub at_end : length (parts text) ≤ n → Ok s ≡ reading text
  at_end h = sym (at_drop_all (λ ls. from_line ls (n + 1) s) (parts text) n h) ∙ inv.rest ∙ all_read

  module _ (line : List ℕ) (h : n < length (parts text)) (e : line ≡ get_or (parts text) n line) where
    one_line : then (n + 1) (line_adds s line) (from_line (drop (n + 1) (parts text)) (n + 1 + 1)) ≡ from_line (parts text) 1 nothing
    one_line =
        ap (λ l. then (n + 1) (line_adds s l) (from_line (drop (n + 1) (parts text)) (n + 1 + 1))) e
        ∙ sym (at_drop_more (λ ls. from_line ls (n + 1) s) (parts text) n line h) ∙ inv.rest

    pub refused : (r : Result (Unit {0}) Refusal) (t : Tables) (c : Refused) → told (n + 1) r ≡ Err c → changed r t ≡ line_adds s line → Err c ≡ reading text
    refused (Ok x) t c f g = let z : ◌≡◌ {A = ℕ} 0 1 = cc in absurd (omega arith)
    refused (Err d) t c f g =
        let same : Err d ≡ line_adds s line = g in
        let z : ◌≡◌ {A = Refused} (record { refusal = d; line = n + 1 }) c = cc in
        ap Err (sym z) ∙ ap (λ r. then (n + 1) r (from_line (drop (n + 1) (parts text)) (n + 1 + 1))) same ∙ one_line ∙ all_read

    pub next_line : (r : Result (Unit {0}) Refusal) (t : Tables) (x : Unit {0}) → told (n + 1) r ≡ Ok x → changed r t ≡ line_adds s line → Left text (held t) (n + 1)
    next_line (Err d) t x f g = let z : ◌≡◌ {A = ℕ} 0 1 = cc in absurd (omega arith)
    next_line (Ok y) t x f g =
        record { rest = ap (λ r. then (n + 1) r (from_line (drop (n + 1) (parts text)) (n + 1 + 1))) g ∙ one_line; short = inv.short }
