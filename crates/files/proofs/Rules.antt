-- The layouts of maps are the bytes that keep the rules of an image.
use Rattle.std.proofs.Common.{◌≡◌, ℕ, zero, suc, ◌+◌, ◌-◌, ◌*◌, ◌/◌, ◌%◌, ◌<◌, ◌≤◌, min, Bool, true, false, cond, eqb, List, [], ◌∷◌, ◌++◌, length, get_or, replicate, sym, refl, ap, ◌∙◌, subst, inl, inr, arith}
use Rattle.std.proofs.lemmas.Bool.{cond-true, cond-false, eq-eqb, ne_eqb, eqb-false, cases_eq}
use Rattle.model.proofs.Lists.{get_or-same}
use Rattle.files.specs.Layout.{Map, Rules, Entries, entries, present, padded, layout, told, numbers, mapped}
use Rattle.files.proofs.Layouts.{layout_length}
use Rattle.files.specs.Trips.{digits, present_low}

weaken : (f g n : ℕ) (bs : List ℕ) → f ≤ g → Entries g n bs → Entries f n bs
unfolding Entries
weaken f g zero bs h e = e
weaken f g (suc n) [] h e = e
weaken f g (suc n) (x ∷ []) h e = e
weaken f g (suc n) (x ∷ a ∷ []) h e = e
weaken f g (suc n) (x ∷ a ∷ b ∷ bs) h e = (omega (arith, e.0), e.1, e.2, e.3)

-- the entries of a map keep the rules
kept : (g : ℕ) (ns zs : List ℕ) → g + length ns ≤ 64 → ((i : ℕ) → get_or ns i 0 < 65536) → ((k : ℕ) → get_or zs k 0 ≡ 0) → Entries g (present ns) (entries g ns ++ zs)
unfolding Entries entries present
kept g [] zs h low zeros = zeros
kept g (n ∷ ns) zs h low zeros = by (kept (suc g) ns zs (omega arith) (λ i. low (suc i)) zeros) (eqb n 0) refl
  where
    by : Entries (suc g) (present ns) (entries (suc g) ns ++ zs) → (b : Bool) → eqb n 0 ≡ b → Entries g (cond b (present ns) (suc (present ns))) (cond b [] (g ∷ n / 256 % 256 ∷ n % 256 ∷ []) ++ entries (suc g) ns ++ zs)
    by rest true e = weaken g (suc g) (present ns) (entries (suc g) ns ++ zs) (omega arith) rest
    by rest false e = (omega arith, omega arith, λ z. eqb-false n 0 e (sym (digits n (low 0)) ∙ z), rest)

pub layout_rules : (ns : List ℕ) → Map ns → Rules (layout ns)
unfolding layout padded
layout_rules ns is =
    record {
      size = layout_length ns is.long;
      count = omega (arith, present_low ns, is.long);
      entries = kept 0 ns (replicate (193 - length (present ns ∷ entries 0 ns)) 0) (omega (arith, is.long)) is.fits (λ k. get_or-same (193 - length (present ns ∷ entries 0 ns)) k 0);
    }

-- entries of files from g on say nothing of a file below g
told_none : (f g n : ℕ) (bs : List ℕ) → f < g → Entries g n bs → told f n bs ≡ 0
unfolding Entries told
told_none f g zero bs h e = refl
told_none f g (suc n) [] h e = refl
told_none f g (suc n) (x ∷ []) h e = refl
told_none f g (suc n) (x ∷ a ∷ []) h e = refl
told_none f g (suc n) (x ∷ a ∷ b ∷ bs) h e =
    let below = e.0 in
    cond-false (eqb x f) (a * 256 + b) (told f n bs) (ne_eqb x f (λ z. omega arith)) ∙ told_none f (suc x) n bs (omega arith) e.3

-- the numbers of files above the first entry's are those of the other entries
numbers_skip : (m f n g a b : ℕ) (bs : List ℕ) → g < f → numbers m f (suc n) (g ∷ a ∷ b ∷ bs) ≡ numbers m f n bs
unfolding numbers told
numbers_skip zero f n g a b bs h = refl
numbers_skip (suc m) f n g a b bs h =
    ap (λ x. x ∷ numbers m (suc f) (suc n) (g ∷ a ∷ b ∷ bs)) (cond-false (eqb g f) (a * 256 + b) (told f n bs) (ne_eqb g f (λ z. omega arith)))
    ∙ ap (λ xs. told f n bs ∷ xs) (numbers_skip m (suc f) n g a b bs (omega arith))

all_zero : (bs : List ℕ) → ((k : ℕ) → get_or bs k 0 ≡ 0) → bs ≡ replicate (length bs) 0
all_zero [] z = refl
all_zero (b ∷ bs) z = ap (λ x. x ∷ bs) (z 0) ∙ ap (λ xs. 0 ∷ xs) (all_zero bs (λ k. z (suc k)))

-- bytes that are the entries of these numbers, with the count of them
record Again (ns bs : List ℕ) (f n : ℕ) : Type 0 where
  bytes : bs ≡ entries f ns ++ replicate (length bs - length (entries f ns)) 0
  count : n ≡ present ns

-- one file more in front, absent or with its entry
with_absent : (ns bs : List ℕ) (f n t : ℕ) → t ≡ 0 → Again ns bs (suc f) n → Again (t ∷ ns) bs f n
unfolding entries present
with_absent ns bs f n t z again =
    let yes = eq-eqb t 0 z in
    let none = cond-true (eqb t 0) [] (f ∷ t / 256 % 256 ∷ t % 256 ∷ []) yes in
    record {
      bytes = again.bytes ∙ ap (λ e. (e ++ entries (suc f) ns) ++ replicate (length bs - length (e ++ entries (suc f) ns)) 0) (sym none);
      count = again.count ∙ sym (cond-true (eqb t 0) (present ns) (suc (present ns)) yes);
    }

with_entry : (ns bs : List ℕ) (f n a b : ℕ) → a < 256 → b < 256 → (a * 256 + b ≡ 0 → ⊥) → Again ns bs (suc f) n → Again ((a * 256 + b) ∷ ns) (f ∷ a ∷ b ∷ bs) f (suc n)
unfolding entries present
with_entry ns bs f n a b la lb ne again =
    let t = a * 256 + b in
    let no = ne_eqb t 0 ne in
    let high : a ≡ t / 256 % 256 = omega arith in
    let low : b ≡ t % 256 = omega arith in
    let one : f ∷ a ∷ b ∷ [] ≡ cond (eqb t 0) [] (f ∷ t / 256 % 256 ∷ t % 256 ∷ []) =
    ap (λ x. f ∷ x ∷ b ∷ []) high ∙ ap (λ x. f ∷ t / 256 % 256 ∷ x ∷ []) low ∙ sym (cond-false (eqb t 0) [] (f ∷ t / 256 % 256 ∷ t % 256 ∷ []) no) in
    let es = entries (suc f) ns in
    let less : length bs - length es ≡ suc (suc (suc (length bs))) - suc (suc (suc (length es))) = omega arith in
    record {
      bytes =
          ap (λ xs. f ∷ a ∷ b ∷ xs) (again.bytes ∙ ap (λ m. es ++ replicate m 0) less) ∙ ap (λ e. (e ++ es) ++ replicate (suc (suc (suc (length bs))) - length (e ++ es)) 0) one;
      count = ap suc again.count ∙ sym (cond-false (eqb t 0) (present ns) (suc (present ns)) no);
    }

encoded_again : (m f n : ℕ) (bs : List ℕ) → m + f ≡ 64 → ((k : ℕ) → get_or bs k 0 < 256) → Entries f n bs → Again (numbers m f n bs) bs f n
unfolding Entries numbers told entries present
encoded_again zero f zero bs l low e =
    let same : length bs ≡ length bs - 0 = omega arith in record { bytes = all_zero bs e ∙ ap (λ m. replicate m 0) same; count = refl }
encoded_again zero f (suc n) [] l low e = absurd e
encoded_again zero f (suc n) (g ∷ []) l low e = absurd e
encoded_again zero f (suc n) (g ∷ a ∷ []) l low e = absurd e
encoded_again zero f (suc n) (g ∷ a ∷ b ∷ bs) l low e = let above = e.0 in let below = e.1 in absurd (omega arith)
encoded_again (suc m) f zero bs l low e = with_absent (numbers m (suc f) 0 bs) bs f 0 0 refl (encoded_again m (suc f) zero bs (omega arith) low e)
encoded_again (suc m) f (suc n) [] l low e = absurd e
encoded_again (suc m) f (suc n) (g ∷ []) l low e = absurd e
encoded_again (suc m) f (suc n) (g ∷ a ∷ []) l low e = absurd e
encoded_again (suc m) f (suc n) (g ∷ a ∷ b ∷ bs) l low e =
    elim (cases_eq g f) [
      | inl same ↦
          (let above = e.0 in
          let first = sym (cond-true (eqb g f) (a * 256 + b) (told f n bs) (eq-eqb g f same)) in
          let others = sym (numbers_skip m (suc f) n g a b bs (omega arith)) in
          let rest = encoded_again m (suc f) n bs (omega arith) (λ k. low (suc (suc (suc k)))) (weaken (suc f) (suc g) n bs (omega arith) e.3) in
          let All : List ℕ → Type 0 = λ ns. Again ns (f ∷ a ∷ b ∷ bs) f (suc n) in
          let Of : ℕ → Type 0 = λ x. Again (told f (suc n) (g ∷ a ∷ b ∷ bs) ∷ numbers m (suc f) (suc n) (g ∷ a ∷ b ∷ bs)) (x ∷ a ∷ b ∷ bs) f (suc n) in
          subst Of (sym same)
          (subst All (ap (λ x. x ∷ numbers m (suc f) n bs) first ∙ ap (λ xs. told f (suc n) (g ∷ a ∷ b ∷ bs) ∷ xs) others)
          (with_entry (numbers m (suc f) n bs) bs f n a b (low 1) (low 2) e.2 rest)))
      | inr ne ↦
          (let above = e.0 in
          let more : suc f ≤ g = omega arith in
          let later : Entries (suc f) (suc n) (g ∷ a ∷ b ∷ bs) = (more, e.1, e.2, e.3) in
          with_absent (numbers m (suc f) (suc n) (g ∷ a ∷ b ∷ bs)) (g ∷ a ∷ b ∷ bs) f (suc n) (told f (suc n) (g ∷ a ∷ b ∷ bs))
          (told_none f (suc f) (suc n) (g ∷ a ∷ b ∷ bs) (omega arith) later) (encoded_again m (suc f) (suc n) (g ∷ a ∷ b ∷ bs) (omega arith) low later))
    ]

pub rules_laid : (bs : List ℕ) → Rules bs → ((k : ℕ) → get_or bs k 0 < 256) → bs ≡ layout (mapped bs)
unfolding mapped layout padded
rules_laid [] rules low = let none = rules.size in absurd (omega arith)
rules_laid (c ∷ bs) rules low =
    let again = encoded_again 64 0 c bs (omega arith) (λ k. low (suc k)) rules.entries in
    let all : c ≡ min c 64 = omega (arith, rules.count) in
    let Made : ℕ → Type 0 = λ n. c ∷ bs ≡ padded 193 (present (numbers 64 0 n bs) ∷ entries 0 (numbers 64 0 n bs)) in
    let es : List ℕ = entries 0 (numbers 64 0 c bs) in
    let left : length bs - length es ≡ 193 - suc (length es) = omega (arith, rules.size) in
    subst Made all (ap (λ n. n ∷ bs) again.count ∙ ap (λ xs. present (numbers 64 0 c bs) ∷ xs) (again.bytes ∙ ap (λ m. es ++ replicate m 0) left))
