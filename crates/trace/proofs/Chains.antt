-- Values one after the other.
use Rattle.std.proofs.Common.{◌≡◌, ℕ, suc, List, [], ◌∷◌, ◌++◌, Ok, Err, sym, refl, ap, ◌∙◌, append_assoc}
use Rattle.trace.specs.Reads.{Reading, read, then, many, after}
use Rattle.trace.specs.Told.{gathered}
use Rattle.model.specs.declared.refusal.Refusal.{Refusal}

-- the values so far before those that are read
abbrev pub onto : {X : Type 0} → List X → Reading (List X) → Reading (List X)
onto xs r = then r (λ ys bs. read (xs ++ ys) bs)

onto_one : {X : Type 0} (xs : List X) (x : X) (r : Reading (List X)) → onto xs (then r (λ ys bs. read (x ∷ ys) bs)) ≡ onto (xs ++ x ∷ []) r
onto_one xs x (Ok r) = ap (λ ys. read ys r.rest) (sym (append_assoc xs (x ∷ []) r.value))
onto_one xs x (Err e) = refl

module _ {S X : Type 0} (p : S → List ℕ → Reading X) (next : S → X → S) (n : ℕ) (s : S) (bs : List ℕ) where
  pub onto_more : (xs : List X) (x : X) (cs : List ℕ) → read x cs ≡ p s bs → onto xs (many p next (suc n) s bs) ≡ onto (xs ++ x ∷ []) (many p next n (next s x) cs)
  onto_more xs x cs e =
      ap (λ r. onto xs (then r (λ y ds. then (many p next n (next s y) ds) (λ ys es. read (y ∷ ys) es)))) (sym e)
      ∙ onto_one xs x (many p next n (next s x) cs)

  pub onto_stop : (xs : List X) (e : Refusal) → Err e ≡ p s bs → onto xs (many p next (suc n) s bs) ≡ Err e
  onto_stop xs e h = ap (λ r. onto xs (then r (λ y ds. then (many p next n (next s y) ds) (λ ys es. read (y ∷ ys) es)))) (sym h)

pub after_append : {S X : Type 0} (next : S → X → S) (s : S) (xs ys : List X) → after next s (xs ++ ys) ≡ after next (after next s xs) ys
after_append next s [] ys = refl
after_append next s (x ∷ xs) ys = after_append next (next s x) xs ys

-- what is kept of the values
module _ {S X Y : Type 0} (p : S → List ℕ → Reading X) (next : S → X → S) (n : ℕ) (s : S) (bs : List ℕ) where
  gathered_one : (f g : List X → Y) (x : X) (r : Reading (List X)) → ((xs : List X) → f (x ∷ xs) ≡ g xs) → gathered f (then r (λ ys ds. read (x ∷ ys) ds)) ≡ gathered g r
  gathered_one f g x (Ok r) h = ap (λ y. read y r.rest) (h r.value)
  gathered_one f g x (Err e) h = refl

  pub gathered_more : (f g : List X → Y) (x : X) (cs : List ℕ) → ((xs : List X) → f (x ∷ xs) ≡ g xs) → read x cs ≡ p s bs → gathered f (many p next (suc n) s bs) ≡ gathered g (many p next n (next s x) cs)
  gathered_more f g x cs h e =
      ap (λ r. gathered f (then r (λ y ds. then (many p next n (next s y) ds) (λ ys es. read (y ∷ ys) es)))) (sym e)
      ∙ gathered_one f g x (many p next n (next s x) cs) h

  pub gathered_stop : (f : List X → Y) (e : Refusal) → Err e ≡ p s bs → gathered f (many p next (suc n) s bs) ≡ Err e
  gathered_stop f e h = ap (λ r. gathered f (then r (λ y ds. then (many p next n (next s y) ds) (λ ys es. read (y ∷ ys) es)))) (sym h)
