-- The place of a label, and the files of several.
use Rattle.std.proofs.Common.{◌≡◌, ℕ, ◌+◌, ◌-◌, ◌<◌, ◌≤◌, List, [], ◌∷◌, ◌++◌, map, length, get_or, take, drop, set, replicate, Some, None, Option, sym, refl, ap, ◌∙◌, append_assoc, arith, Bor}
use Rattle.std.proofs.lemmas.List.{at_drop_more, get_or-map, length-map, take_more_set, drop-set-lt, drop-drop, drop-replicate, length-set}
use Rattle.std.specs.Option.{option_map}
use Rattle.script.specs.Text.{file_of, before, files_of}

abbrev Ref : Type 0
Ref = Bor (List ℕ)

at_refs : {Y : Type 0} (F : List (List ℕ) → Y) (rs : List Ref) (i : ℕ) (d : Ref) → i < length rs → F (drop i (map (λ x. x.now) rs)) ≡ F ((get_or rs i d).now ∷ drop (i + 1) (map (λ x. x.now) rs))
at_refs F rs i d h =
    let l = length-map rs (λ x. x.now) in
    at_drop_more F (map (λ x. x.now) rs) i [] (omega arith) ∙ ap (λ x. F (x ∷ drop (i + 1) (map (λ x. x.now) rs))) (get_or-map (λ x. x.now) rs i d [] h)

mapped_mapped : {X Y Z : Type 0} (f : X → Y) (g : Y → Z) (h : X → Z) → ((x : X) → g (f x) ≡ h x) → (o : Option X) → option_map g (option_map f o) ≡ option_map h o
mapped_mapped f g h e None = refl
mapped_mapped f g h e (Some x) = ap Some (e x)

-- the first i files are found, and the others are 0
pub record Filled (ls : List (List ℕ)) (rs : List Ref) (files : List ℕ) (i : ℕ) : Type 0 where
  pub rest : option_map (λ fs. take i files ++ fs) (files_of ls (drop i (map (λ x. x.now) rs))) ≡ files_of ls (map (λ x. x.now) rs)
  pub zeros : drop i files ≡ replicate (4 - i) 0
  pub long : length files ≡ 4

module _ (ls : List (List ℕ)) (rs : List Ref) (files : List ℕ) (i : ℕ) (inv : Filled ls rs files i) where
  abbrev after_i : Option ℕ → Option (List ℕ)
  after_i f = option_map (λ fs. take i files ++ fs) (before f (files_of ls (drop (i + 1) (map (λ x. x.now) rs))))

  from_i : (d : Ref) → i < length rs → after_i (file_of ls (get_or rs i d).now) ≡ files_of ls (map (λ x. x.now) rs)
  from_i d h = ap (option_map (λ fs. take i files ++ fs)) (sym (at_refs (files_of ls) rs i d h)) ∙ inv.rest

  pub filled_more : (d : Ref) (f : ℕ) → i < length rs → length rs ≤ 4 → Some f ≡ file_of ls (get_or rs i d).now → Filled ls rs (set files i f) (i + 1)
  filled_more d f h low e =
      let l = inv.long in
      let front : (fs : List ℕ) → take i files ++ (f ∷ fs) ≡ take (i + 1) (set files i f) ++ fs =
      λ fs. sym (append_assoc (take i files) (f ∷ []) fs) ∙ ap (λ p. p ++ fs) (sym (take_more_set files i f (omega arith))) in
      let less : 4 - i - 1 ≡ 4 - (i + 1) = omega arith in
      record {
        rest =
            sym (mapped_mapped (λ fs. f ∷ fs) (λ fs. take i files ++ fs) (λ fs. take (i + 1) (set files i f) ++ fs) front (files_of ls (drop (i + 1) (map (λ x. x.now) rs))))
            ∙ ap after_i e ∙ from_i d h;
        zeros =
            drop-set-lt (i + 1) files i f (omega arith) ∙ sym (drop-drop 1 i files) ∙ ap (drop 1) inv.zeros
            ∙ drop-replicate 1 (4 - i) 0 ∙ ap (λ n. replicate n 0) less;
        long = length-set files i f ∙ inv.long;
      }
