-- What holds of a sound script at each place.
use Rattle.std.proofs.Common.{◌≡◌, ℕ, zero, suc, ◌<◌, ◌≤◌, ltb, List, [], ◌∷◌, map, length, get_or, is_some, IfSome, Some, None, Option, sym, ap, ◌∙◌, subst, arith, Bor}
use Rattle.std.proofs.lemmas.Bool.{ltb-true}
use Rattle.std.proofs.lemmas.Option.{slice_get-map, slice_get-get_or}
use Rattle.std.proofs.Math.ListN.{get_or-map}
use Rattle.std.specs.Option.{option_map, option_copied, unwrap_or}
use Rattle.std.specs.List.{AllByRecursion, slice_get}
use Rattle.script.specs.declared.answer.Have.{Have}
use Rattle.script.specs.Sound.{Sound, Starts, Acts, StartsFit, ActsFit}
use Rattle.script.specs.Text.{Meaning}
use Rattle.script.specs.Views.{start_of}

all_nth : {X : Type 0} (P : X → Type 0) (xs : List X) (k : ℕ) (x : X) → AllByRecursion P xs → Some x ≡ slice_get xs k → P x
all_nth P [] k x a e = let z : ◌≡◌ {A = ℕ} 0 1 = cc in absurd (omega arith)
all_nth P (y ∷ ys) zero x a e = let same : y ≡ x = cc in subst P same a.0
all_nth P (y ∷ ys) (suc k) x a e = all_nth P ys k x a.1 e

-- two invariants of a script, as its type states them
pub starts_fit : (m : Meaning) → Sound m → StartsFit m
starts_fit m s k h e = all_nth Starts m.haves k h s.starts e

pub acts_fit : (m : Meaning) → Sound m → ActsFit m
acts_fit m s k c e = all_nth Acts m.commands k c s.acts e

-- the starting content at a place, and one that is handed out
module _ (m : Meaning) (hs : List Have) (i : ℕ) (same : m.haves ≡ map start_of hs) (s : StartsFit m) where
  pub start_fits : (d : Have) → i < length hs → Starts (start_of (get_or hs i d))
  start_fits d h =
      s i (start_of (get_or hs i d)) (ap (option_map start_of) (sym (slice_get-get_or hs i d h)) ∙ sym (slice_get-map start_of hs i) ∙ ap (λ l. slice_get l i) (sym same))

  pub have_fits : (o : Option (Bor Have)) → is_some o ≡ ltb i (length hs) → IfSome o (λ x. x.now ≡ get_or hs i x.now) → IfSome (option_copied o) (λ h. (h.file < 64) × (length h.content.now ≤ 4096))
  have_fits None t e = tt
  have_fits (Some r) t e = subst (λ x. Starts (start_of x)) (sym e) (start_fits r.now (ltb-true i (length hs) (sym t)))

-- the label of a file, which is found or empty
pub label_is : (rs : List (Bor (List ℕ))) (i : ℕ) (o : Option (Bor (Bor (List ℕ)))) (p : Option (Bor (List ℕ))) (d r : Bor (List ℕ)) → r ≡ unwrap_or p d → p ≡ option_copied o → ((e : Bor (List ℕ)) → unwrap_or (option_copied o) e ≡ get_or rs i e) → d.now ≡ [] → get_or (map (λ x. x.now) rs) i [] ≡ r.now
label_is rs i o p d r f g h e =
    ap (get_or (map (λ x. x.now) rs) i) (sym e) ∙ get_or-map (λ x. x.now) rs i d ∙ ap (λ x. x.now) (sym (f ∙ ap (λ q. unwrap_or q d) g ∙ h d))
