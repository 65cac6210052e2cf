-- Writes one after the other.
use Rattle.std.proofs.Common.{◌≡◌, ℕ, ◌+◌, ◌<◌, List, [], ◌∷◌, ◌++◌, length, get_or, take, sym, ap, ◌∙◌, subst, append-nil, arith}
use Rattle.std.proofs.lemmas.Grind.{flat_map-append}
use Rattle.std.proofs.lemmas.List.{length-append, take_more}
use Rattle.std.proofs.lemmas.List.Folds.{length-flat_map-take}
use Rattle.std.specs.List.{flat_map}
use Rattle.output.specs.Writes.{laid, Room, Writes}
use Rattle.output.specs.declared.writing.Output.{Output}
use Rattle.output.proofs.Laid.{laid_append}

pub then : {a b c : Output} {xs ys : List ℕ} → Writes xs a b → Writes ys b c → Writes (xs ++ ys) a c
then {a} {b} {c} {xs} {ys} v w =
    let n = v.len in
    let m = length-append xs ys in
    record {
      fits = omega (arith, w.fits, v.size);
      bytes = w.bytes ∙ ap (λ k. laid k ys b.bytes.now) n ∙ ap (laid (a.len + length xs) ys) v.bytes ∙ laid_append a.len xs ys a.bytes.now v.fits;
      len = omega (arith, v.len, w.len);
      size = w.size ∙ v.size;
      same = w.same ∙ v.same;
    }

-- the same bytes by another name
pub as_bytes : {a b : Output} {xs : List ℕ} (ys : List ℕ) → xs ≡ ys → Writes xs a b → Writes ys a b
as_bytes {a} {b} ys e w = subst (λ l. Writes l a b) e w

-- A LOOP that writes the elements of a list: those so far are written
module _ {X : Type 0} (enc : X → List ℕ) (xs : List X) where
  pub each_more : {a b c : Output} (i : ℕ) (d : X) → i < length xs → Writes (flat_map enc (take i xs)) a b → Writes (enc (get_or xs i d)) b c → Writes (flat_map enc (take (i + 1) xs)) a c
  each_more i d lt v w = as_bytes (flat_map enc (take (i + 1) xs)) (sym (pushed i d lt)) (then v w)
    where
      pushed : (i : ℕ) (d : X) → i < length xs → flat_map enc (take (i + 1) xs) ≡ flat_map enc (take i xs) ++ enc (get_or xs i d)
      pushed i d lt =
          ap (flat_map enc) (take_more xs i d lt)
          ∙ flat_map-append enc (take i xs) (get_or xs i d ∷ [])
          ∙ ap (λ l. flat_map enc (take i xs) ++ l) (append-nil (enc (get_or xs i d)))

  pub each_room : {a b : Output} (i : ℕ) (d : X) → i < length xs → Room (length (flat_map enc xs)) a → Writes (flat_map enc (take i xs)) a b → Room (length (enc (get_or xs i d))) b
  each_room i d lt room w = omega (arith, length-flat_map-take enc xs i d lt, room, w.len, w.size)
