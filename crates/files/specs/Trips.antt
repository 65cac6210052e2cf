-- The round trip: the layout of a map means that map.
use Rattle.std.specs.Prelude.{◌≡◌, ℕ, zero, suc, ◌+◌, ◌-◌, ◌*◌, ◌/◌, ◌%◌, ◌<◌, ◌≤◌, min, Bool, true, false, cond, List, [], ◌∷◌, ◌++◌, length, drop, replicate, ◌==◌, slice_index, refl}
use Rattle.std.proofs.Common.{sym, ap, ◌∙◌, arith}
use Rattle.std.proofs.lemmas.List.{ext_get_or, get_or_past}
use Rattle.std.proofs.lemmas.Bool.{cond-true, cond-false, eq-eqb, ne_eqb, eqb-true}
use Rattle.files.specs.Layout.{Map, entries, present, padded, layout, told, numbers, mapped}

pub length_numbers : (m f n : ℕ) (bs : List ℕ) → length (numbers m f n bs) ≡ m
unfolding numbers
length_numbers zero f n bs = refl
length_numbers (suc m) f n bs = ap suc (length_numbers m (suc f) n bs)

getD_numbers : (m f n : ℕ) (bs : List ℕ) (k : ℕ) → k < m → slice_index (numbers m f n bs) k ≡ told (f + k) n bs
unfolding numbers
getD_numbers zero f n bs k h = absurd (omega arith)
getD_numbers (suc m) f n bs zero h = let same : f ≡ f + 0 = omega arith in ap (λ g. told g n bs) same
getD_numbers (suc m) f n bs (suc k) h =
    let same : suc f + k ≡ f + suc k = omega arith in getD_numbers m (suc f) n bs k (omega arith) ∙ ap (λ g. told g n bs) same

-- what an image means, by file
pub mapped_long : (bs : List ℕ) → length (mapped bs) ≡ 64
unfolding mapped
mapped_long bs = length_numbers 64 0 (min (slice_index bs 0) 64) (drop 1 bs)

pub mapped_at : (bs : List ℕ) (f : ℕ) → f < 64 → slice_index (mapped bs) f ≡ told f (min (slice_index bs 0) 64) (drop 1 bs)
unfolding mapped
mapped_at bs f h =
    let same : 0 + f ≡ f = omega arith in
    getD_numbers 64 0 (min (slice_index bs 0) 64) (drop 1 bs) f h ∙ ap (λ g. told g (min (slice_index bs 0) 64) (drop 1 bs)) same

pub mapped_past : (bs : List ℕ) (f : ℕ) → 64 ≤ f → 0 ≡ slice_index (mapped bs) f
mapped_past bs f h = sym (get_or_past (mapped bs) f 0 (omega (arith, mapped_long bs)))

-- the entries of files from g on say nothing of a file below g
told_below : (f g : ℕ) (ns zs : List ℕ) → f < g → told f (present ns) (entries g ns ++ zs) ≡ 0
unfolding told entries present
told_below f g [] zs h = refl
told_below f g (n ∷ ns) zs h = by (told_below f (suc g) ns zs (omega arith)) (n == 0)
  where
    by : told f (present ns) (entries (suc g) ns ++ zs) ≡ 0 → (b : Bool) → told f (cond b (present ns) (suc (present ns))) (cond b [] (g ∷ n / 256 % 256 ∷ n % 256 ∷ []) ++ entries (suc g) ns ++ zs) ≡ 0
    by rest true = rest
    by rest false = cond-false (g == f) (n / 256 % 256 * 256 + n % 256) (told f (present ns) (entries (suc g) ns ++ zs)) (ne_eqb g f (λ e. omega arith)) ∙ rest

pub digits : (n : ℕ) → n < 65536 → n / 256 % 256 * 256 + n % 256 ≡ n
digits n h = omega arith

-- they give each file its number
told_at : (g k : ℕ) (ns zs : List ℕ) → ((i : ℕ) → slice_index ns i < 65536) → told (g + k) (present ns) (entries g ns ++ zs) ≡ slice_index ns k
unfolding told entries present
told_at g k [] zs low = sym (get_or_past [] k 0 (omega arith))
told_at g zero (n ∷ ns) zs low = by (told_below (g + 0) (suc g) ns zs (omega arith)) (n == 0) refl
  where
    by : told (g + 0) (present ns) (entries (suc g) ns ++ zs) ≡ 0 → (b : Bool) → (n == 0) ≡ b → told (g + 0) (cond b (present ns) (suc (present ns))) (cond b [] (g ∷ n / 256 % 256 ∷ n % 256 ∷ []) ++ entries (suc g) ns ++ zs) ≡ n
    by rest true e = rest ∙ sym (eqb-true n 0 e)
    by rest false e =
        cond-true (g == g + 0) (n / 256 % 256 * 256 + n % 256) (told (g + 0) (present ns) (entries (suc g) ns ++ zs)) (eq-eqb g (g + 0) (omega arith)) ∙ digits n (low 0)
told_at g (suc k) (n ∷ ns) zs low =
    let same : g + suc k ≡ suc g + k = omega arith in
    by (ap (λ f. told f (present ns) (entries (suc g) ns ++ zs)) same ∙ told_at (suc g) k ns zs (λ i. low (suc i))) (n == 0)
  where
    by : told (g + suc k) (present ns) (entries (suc g) ns ++ zs) ≡ slice_index ns k → (b : Bool) → told (g + suc k) (cond b (present ns) (suc (present ns))) (cond b [] (g ∷ n / 256 % 256 ∷ n % 256 ∷ []) ++ entries (suc g) ns ++ zs) ≡ slice_index ns k
    by rest true = rest
    by rest false =
        cond-false (g == g + suc k) (n / 256 % 256 * 256 + n % 256) (told (g + suc k) (present ns) (entries (suc g) ns ++ zs)) (ne_eqb g (g + suc k) (λ e. omega arith)) ∙ rest

pub present_low : (ns : List ℕ) → present ns ≤ length ns
unfolding present
present_low [] = omega arith
present_low (n ∷ ns) = by (present_low ns) (n == 0)
  where
    by : present ns ≤ length ns → (b : Bool) → cond b (present ns) (suc (present ns)) ≤ suc (length ns)
    by h true = omega arith
    by h false = omega arith

layout_told : (ns : List ℕ) → Map ns → (i : ℕ) → told i (min (slice_index (layout ns) 0) 64) (drop 1 (layout ns)) ≡ slice_index ns i
unfolding layout padded
layout_told ns is i =
    let zs : List ℕ = replicate (193 - length (present ns ∷ entries 0 ns)) 0 in
    let few : min (present ns) 64 ≡ present ns = omega (arith, present_low ns, is.long) in
    let same : i ≡ 0 + i = omega arith in
    ap (λ m. told i m (entries 0 ns ++ zs)) few ∙ ap (λ f. told f (present ns) (entries 0 ns ++ zs)) same ∙ told_at 0 i ns zs is.fits

pub round_trip : (ns : List ℕ) → Map ns → mapped (layout ns) ≡ ns
round_trip ns is =
    let l = mapped_long (layout ns) in
    ext_get_or 0 (mapped (layout ns)) ns (l ∙ sym is.long) (λ i h. mapped_at (layout ns) i (omega arith) ∙ layout_told ns is i)

-- bytes that are a layout are that of the map that they mean
pub laid : (bs ns : List ℕ) → Map ns → bs ≡ layout ns → bs ≡ layout (mapped bs)
laid bs ns is e = e ∙ ap layout (sym (round_trip ns is) ∙ ap mapped (sym e))

pub means : (bs ns : List ℕ) → Map ns → bs ≡ layout ns → mapped bs ≡ ns
means bs ns is e = ap mapped e ∙ round_trip ns is
