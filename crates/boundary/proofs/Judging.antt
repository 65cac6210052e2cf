-- Records that are judged one after another are all judged in the end.
use Rattle.std.proofs.Common.{◌≡◌, ℕ, zero, suc, false, List, [], ◌∷◌, map, length, set, Some, None, Option, Result, sym, ap, ◌∙◌, subst, refl}
use Rattle.model.specs.Audit.{judged, at_place, Audited, Audits}
use Rattle.model.specs.Records.{Record}
use Rattle.model.specs.World.{World, UnlessOpen}
use Rattle.model.specs.declared.record.Standing.{Standing}
use Rattle.model.specs.declared.refusal.Refusal.{Refusal}

-- the first i elements of a list are changed
abbrev pub upto : {X : Type 0} → (X → X) → ℕ → List X → List X
upto f zero xs = xs
upto f (suc i) [] = []
upto f (suc i) (x ∷ xs) = f x ∷ upto f i xs

module _ {X : Type 0} (f : X → X) where
  step : (i : ℕ) (xs : List X) (x : X) → at_place (upto f i xs) i ≡ Some x → set (upto f i xs) i (f x) ≡ upto f (suc i) xs
  step zero [] x e = cc
  step zero (y ∷ ys) x e = let same : x ≡ y = cc in ap (λ z. f z ∷ ys) same
  step (suc i) [] x e = cc
  step (suc i) (y ∷ ys) x e = ap (λ zs. f y ∷ zs) (step i ys x e)

  past : (i : ℕ) (xs : List X) → at_place (upto f i xs) i ≡ None → upto f i xs ≡ upto f (suc i) xs
  past zero [] e = refl
  past zero (y ∷ ys) e = cc
  past (suc i) [] e = refl
  past (suc i) (y ∷ ys) e = ap (λ zs. f y ∷ zs) (past i ys e)

  pub all : (xs : List X) → upto f (length xs) xs ≡ map f xs
  all [] = refl
  all (x ∷ xs) = ap (λ zs. f x ∷ zs) (all xs)

-- an audit of the next place, with no run open
pub one_more : (i : ℕ) (rs : List Record) (a : Result Standing Refusal) (w v : World) → w.is_open ≡ false → w.records ≡ upto (judged w.pool) i rs → Audits i a w v → v.records ≡ upto (judged w.pool) (suc i) rs
one_more i rs a w v shut so_far does = by (at_place w.records i) refl (subst (λ b. UnlessOpen b a w v (Audited i (at_place w.records i) a w v)) shut does)
  where
    by : (o : Option Record) → at_place w.records i ≡ o → Audited i o a w v → v.records ≡ upto (judged w.pool) (suc i) rs
    by None e h = ap (λ x. x.records) h.1 ∙ so_far ∙ past (judged w.pool) i rs (sym (ap (λ qs. at_place qs i) so_far) ∙ e)
    by (Some r) e h =
        ap (λ x. x.records) h.1
        ∙ ap (λ qs. set qs i (judged w.pool r)) so_far
        ∙ step (judged w.pool) i rs r (sym (ap (λ qs. at_place qs i) so_far) ∙ e)
