-- The first piece of a text, and the first word of a line.
use Rattle.std.proofs.Common.{◌≡◌, ℕ, zero, suc, ◌+◌, ◌<◌, ◌≤◌, eqb, List, [], ◌∷◌, length, get_or, take, drop, sym, refl, ap, ◌∙◌, inl, inr, arith}
use Rattle.std.proofs.lemmas.List.{length-take-le, length-drop, drop_all, drop-drop, get_or-drop}
use Rattle.std.proofs.lemmas.Bool.{cond-true, cond-false, eq-eqb, ne_eqb, cases_lt}
use Rattle.script.specs.Text.{onto, cut, filled, words}
use Rattle.script.specs.Words.{FirstWord}

-- a piece ends at the first byte c
pub cut_first : (c : ℕ) (s : List ℕ) (n : ℕ) → 0 < length s → n ≤ length s → ((k : ℕ) → k < n → get_or s k 0 ≡ c → ⊥) → (n < length s → get_or s n 0 ≡ c) → cut c s ≡ take n s ∷ cut c (drop (suc n) s)
cut_first c [] n h w without ends = absurd (omega arith)
cut_first c (b ∷ bs) zero h w without ends = cond-true (eqb b c) _ _ (eq-eqb b c (ends (omega arith)))
cut_first c (b ∷ []) (suc zero) h w without ends = cond-false (eqb b c) _ _ (ne_eqb b c (without 0 (omega arith)))
cut_first c (b ∷ []) (suc (suc n)) h w without ends = absurd (omega arith)
cut_first c (b ∷ x ∷ xs) (suc n) h w without ends =
    cond-false (eqb b c) _ _ (ne_eqb b c (without 0 (omega arith)))
    ∙ ap (onto b) (cut_first c (x ∷ xs) n (omega arith) (omega arith) (λ k l. without (suc k) (omega arith)) (λ l. ends (omega arith)))

pub words_skip : (s : List ℕ) (n : ℕ) → n ≤ length s → ((k : ℕ) → k < n → get_or s k 0 ≡ 32) → words s ≡ words (drop n s)
words_skip s zero w blank = refl
words_skip [] (suc n) w blank = refl
words_skip (b ∷ bs) (suc n) w blank =
    ap filled (cond-true (eqb b 32) ([] ∷ cut 32 bs) (onto b (cut 32 bs)) (eq-eqb b 32 (blank 0 (omega arith))))
    ∙ words_skip bs n (omega arith) (λ k l. blank (suc k) (omega arith))

filled_some : (p : List ℕ) (ps : List (List ℕ)) → 0 < length p → filled (p ∷ ps) ≡ p ∷ filled ps
filled_some [] ps h = absurd (omega arith)
filled_some (b ∷ bs) ps h = refl

-- the word ends at a space, which is no part of the next
words_on : (s : List ℕ) (n : ℕ) → n ≤ length s → (n < length s → get_or s n 0 ≡ 32) → words (drop (suc n) s) ≡ words (drop n s)
words_on [] zero w ends = refl
words_on (b ∷ bs) zero w ends =
    ap filled (sym (cond-true (eqb b 32) ([] ∷ cut 32 bs) (onto b (cut 32 bs)) (eq-eqb b 32 (ends (omega arith)))))
words_on [] (suc n) w ends = refl
words_on (b ∷ bs) (suc n) w ends = words_on bs n (omega arith) (λ l. ends (omega arith))

pub words_first : (s : List ℕ) (n : ℕ) → 0 < n → n ≤ length s → ((k : ℕ) → k < n → get_or s k 0 ≡ 32 → ⊥) → (n < length s → get_or s n 0 ≡ 32) → words s ≡ take n s ∷ words (drop n s)
words_first s n h w without ends =
    let l = length-take-le n s w in
    ap filled (cut_first 32 s n (omega arith) w without ends)
    ∙ filled_some (take n s) (cut 32 (drop (suc n) s)) (omega arith)
    ∙ ap (λ ws. take n s ∷ ws) (words_on s n w ends)

-- no word, where the text has spaces alone
pub no_word : (s : List ℕ) → ((k : ℕ) → k < length s → get_or s k 0 ≡ 32) → words s ≡ []
no_word s blank = words_skip s (length s) (omega arith) blank ∙ ap words (drop_all (length s) s (omega arith))

-- a word at a place of the text, some spaces on
pub one_word : (text : List ℕ) (from n len : ℕ) → n < length (drop from text) → ((k : ℕ) → k < n → get_or (drop from text) k 0 ≡ 32) → (get_or (drop from text) n 0 ≡ 32 → ⊥) → len ≤ length (drop (from + n) text) → ((k : ℕ) → k < len → get_or (drop (from + n) text) k 0 ≡ 32 → ⊥) → (len < length (drop (from + n) text) → get_or (drop (from + n) text) len 0 ≡ 32) → FirstWord text from (from + n) (take len (drop (from + n) text))
one_word text from n len some blank seen within without ends =
    let rest = drop (from + n) text in
    let d : drop n (drop from text) ≡ rest = drop-drop n from text in
    let lf = length-drop from text in
    let lr = length-drop (from + n) text in
    let first : get_or rest 0 0 ≡ get_or (drop from text) n 0 = ap (λ s. get_or s 0 0) (sym d) ∙ get_or-drop n (drop from text) 0 0 ∙ ap (λ i. get_or (drop from text) i 0) (omega arith) in
    let more : 0 < len = elim (cases_lt 0 len) [
      | inl h ↦ h
      | inr h ↦ (let z : 0 ≡ len = omega arith in absurd (seen (sym first ∙ ap (λ i. get_or rest i 0) z ∙ ends (omega arith))))
    ] in
    let l : length (take len rest) ≡ len = length-take-le len rest within in
    record {
      first =
          words_skip (drop from text) n (omega arith) blank ∙ ap words d ∙ words_first rest len more within without ends
          ∙ ap (λ s. take len rest ∷ words s) (drop-drop len (from + n) text ∙ ap (λ m. drop (from + n + m) text) (sym l));
      part = ap (λ m. take m rest) (sym l);
      after = omega arith;
      some = omega arith;
      within = omega arith;
    }
