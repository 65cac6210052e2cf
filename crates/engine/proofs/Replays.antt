-- A record's acts, made again.
use Rattle.std.proofs.Common.{◌≡◌, ℕ, ◌+◌, ◌<◌, Bool, true, cond, ◌&&◌, ltb, List, [], ◌∷◌, ◌++◌, length, get_or, drop, sym, ap, ◌∙◌}
use Rattle.std.proofs.lemmas.List.{at_drop_more}
use Rattle.std.proofs.lemmas.Bool.{cond-true, lt-ltb}
use Rattle.model.specs.declared.run.Entry.{Entry}
use Rattle.model.specs.declared.record.Use.{Use}
use Rattle.model.specs.Commands.{Want}
use Rattle.model.specs.Truth.{asks, follows}
use Rattle.model.specs.Contents.{Content, Pool, content, holds}

-- one recorded read
module _ (p : Pool) (k : List Content → Want) (xs : List Content) (rs : List Use) (u : Use) (i : ℕ) (b : Bool) (inv : follows p k xs (drop i rs) u ≡ b) where
  module _ (d : Use) (h : i < length rs) where
    step : (holds p (get_or rs i d).number && (asks (k xs) (get_or rs i d).file && follows p k (xs ++ content p (get_or rs i d).number ∷ []) (drop (i + 1) rs) u)) ≡ b
    step = sym (at_drop_more (λ q. follows p k xs q u) rs i d h) ∙ inv

    asked : (t : Bool) → true ≡ holds p (get_or rs i d).number → t ≡ asks (k xs) (get_or rs i d).file → (t && follows p k (xs ++ content p (get_or rs i d).number ∷ []) (drop (i + 1) rs) u) ≡ b
    asked t e f =
        ap (λ q. q && follows p k (xs ++ content p (get_or rs i d).number ∷ []) (drop (i + 1) rs) u) f
        ∙ ap (λ q. q && (asks (k xs) (get_or rs i d).file && follows p k (xs ++ content p (get_or rs i d).number ∷ []) (drop (i + 1) rs) u)) e ∙ step

    pub onward : (ys : List Content) → true ≡ holds p (get_or rs i d).number → true ≡ asks (k xs) (get_or rs i d).file → ys ≡ xs ++ content p (get_or rs i d).number ∷ [] → follows p k ys (drop (i + 1) rs) u ≡ b
    onward ys e f more = ap (λ q. follows p k q (drop (i + 1) rs) u) more ∙ asked true e f

-- a push with room
pub pushed : (m n : ℕ) (b : Bool) (es fs : List Entry) (x : Entry) → b ≡ ltb m n → m < n → fs ≡ cond b (es ++ x ∷ []) es → fs ≡ es ++ x ∷ []
pushed m n b es fs x e h f = f ∙ cond-true b (es ++ x ∷ []) es (e ∙ lt-ltb m n h)
