-- What is known of what was read: how it is written, and that it is lawful.
use Rattle.std.proofs.Common.{◌≡◌, ℕ, zero, suc, ◌+◌, ◌*◌, ◌/◌, ◌%◌, ◌<◌, Bool, true, false, cond, leb, List, [], ◌∷◌, ◌++◌, length, take, drop, Ok, Err, Result, sym, refl, ap, ◌∙◌, subst, append_assoc, arith}
use Rattle.std.proofs.lemmas.List.{take-append-drop, length-take-le}
use Rattle.std.proofs.lemmas.Bool.{leb-true, and_from}
use Rattle.std.specs.List.{flat_map}
use Rattle.trace.specs.Laws.{Bytes}
use Rattle.trace.specs.Format.{a_file}
use Rattle.trace.specs.Reads.{Reading, read, then, rule, a_byte, a_number, at_most, a_count, a_piece, many, each, two_bytes}
use Rattle.model.specs.declared.refusal.Refusal.{Refusal}
use Rattle.model.specs.declared.refusal.Refusal.TheVariants.{TraceLength}

value_of : {X : Type 0} → X → Reading X → X
value_of d (Ok q) = q.value
value_of d (Err e) = d

rest_of : {X : Type 0} → Reading X → List ℕ
rest_of (Ok q) = q.rest
rest_of (Err e) = []

-- `cc` does not take a record apart
pub same_value : {X : Type 0} (x y : X) (bs cs : List ℕ) → read x bs ≡ read y cs → x ≡ y
unfolding value_of
same_value x y bs cs e = ap (value_of x) e

pub same_rest : {X : Type 0} (x y : X) (bs cs : List ℕ) → read x bs ≡ read y cs → bs ≡ cs
unfolding rest_of
same_rest x y bs cs e = ap rest_of e

-- what came before, where all went well
pub record Went {X Y : Type 0} (r : Reading X) (more : X → List ℕ → Result Y Refusal) (y : Y) : Type 0 where
  pub value : X
  pub rest : List ℕ
  pub first : r ≡ read value rest
  pub then : more value rest ≡ Ok y

pub went : {X Y : Type 0} (r : Reading X) (more : X → List ℕ → Result Y Refusal) (y : Y) → then r more ≡ Ok y → Went r more y
went (Ok q) more y e = record { value = q.value; rest = q.rest; first = refl; then = e }
went (Err x) more y e = let z : ◌≡◌ {A = ℕ} 0 1 = cc in absurd (omega arith)

pub held : {Y : Type 0} (t : Bool) (r : Result Y Refusal) (y : Y) → rule t r ≡ Ok y → (t ≡ true) × (r ≡ Ok y)
held true r y e = (refl, e)
held false r y e = let z : ◌≡◌ {A = ℕ} 0 1 = cc in absurd (omega arith)

pub all_right : (xs ys : List ℕ) → Bytes (xs ++ ys) → Bytes ys
all_right [] ys h = h
all_right (x ∷ xs) ys h = all_right xs ys h.1

pub rest_bytes : (xs ys bs : List ℕ) → xs ++ ys ≡ bs → Bytes bs → Bytes ys
rest_bytes xs ys bs e h = all_right xs ys (subst Bytes (sym e) h)

pub join : (xs ys cs ds bs : List ℕ) → xs ++ cs ≡ bs → ys ++ ds ≡ cs → (xs ++ ys) ++ ds ≡ bs
join xs ys cs ds bs e f = append_assoc xs ys ds ∙ ap (λ l. xs ++ l) f ∙ e

-- what is read is what is written, and passes the test
abbrev pub Backs : {X : Type 0} → (List ℕ → Reading X) → (X → List ℕ) → (X → Bool) → Type 0
Backs p enc ok = (bs : List ℕ) (x : _) (cs : List ℕ) → Bytes bs → p bs ≡ read x cs → (enc x ++ cs ≡ bs) × (ok x ≡ true)

pub byte_back : (bs : List ℕ) (b : ℕ) (cs : List ℕ) → a_byte bs ≡ read b cs → (b ∷ []) ++ cs ≡ bs
byte_back [] b cs e = let z : ◌≡◌ {A = ℕ} 0 1 = cc in absurd (omega arith)
byte_back (h ∷ bs) b cs e = ap (λ x. x ∷ cs) (sym (same_value h b bs cs e)) ∙ ap (λ l. h ∷ l) (sym (same_rest h b bs cs e))

two_back : (h l : ℕ) → l < 256 → two_bytes (h * 256 + l) ≡ h ∷ l ∷ []
two_back h l s =
    let a : (h * 256 + l) / 256 ≡ h = omega arith in
    let b : (h * 256 + l) % 256 ≡ l = omega arith in
    ap (λ x. x ∷ (h * 256 + l) % 256 ∷ []) a ∙ ap (λ x. h ∷ x ∷ []) b

pub number_back : (bs : List ℕ) (n : ℕ) (cs : List ℕ) → Bytes bs → a_number bs ≡ read n cs → two_bytes n ++ cs ≡ bs
number_back [] n cs h e = let z : ◌≡◌ {A = ℕ} 0 1 = cc in absurd (omega arith)
number_back (b ∷ []) n cs h e = let z : ◌≡◌ {A = ℕ} 0 1 = cc in absurd (omega arith)
number_back (b ∷ c ∷ bs) n cs h e =
    let k = sym (same_value (b * 256 + c) n bs cs e) in
    let r = sym (same_rest (b * 256 + c) n bs cs e) in
    ap (λ m. two_bytes m ++ cs) k ∙ ap (λ l. l ++ cs) (two_back b c h.1.0) ∙ ap (λ l. b ∷ c ∷ l) r

pub piece_back : (n : ℕ) (bs c cs : List ℕ) → a_piece n bs ≡ read c cs → (c ++ cs ≡ bs) × (length c ≡ n)
piece_back n bs c cs e = by (leb n (length bs)) refl e
  where
    by : (t : Bool) → leb n (length bs) ≡ t → cond t (read (take n bs) (drop n bs)) (Err TraceLength) ≡ read c cs → (c ++ cs ≡ bs) × (length c ≡ n)
    by true l f =
        let x = sym (same_value (take n bs) c (drop n bs) cs f) in
        let y = sym (same_rest (take n bs) c (drop n bs) cs f) in
        (ap (λ a. a ++ cs) x ∙ ap (λ a. take n bs ++ a) y ∙ take-append-drop n bs, ap length x ∙ length-take-le n bs (leb-true n (length bs) l))
    by false l f = let z : ◌≡◌ {A = ℕ} 0 1 = cc in absurd (omega arith)

-- a field with a limit
pub most_back : (m : ℕ) (enc : ℕ → List ℕ) (p : List ℕ → Reading ℕ) → ((bs : List ℕ) (n : ℕ) (cs : List ℕ) → Bytes bs → p bs ≡ read n cs → enc n ++ cs ≡ bs) → Backs (λ bs. then (p bs) (at_most m)) enc (λ n. leb n m)
most_back m enc p one bs x cs h e =
    let a = went (p bs) (at_most m) _ e in
    let t = held (leb a.value m) _ _ a.then in
    let v = same_value a.value x a.rest cs t.1 in
    let r = same_rest a.value x a.rest cs t.1 in
    (ap (λ n. enc n ++ cs) (sym v) ∙ ap (λ l. enc a.value ++ l) (sym r) ∙ one bs a.value a.rest h a.first, ap (λ n. leb n m) (sym v) ∙ t.0)

pub count_back : (m : ℕ) → Backs (a_count m) two_bytes (λ n. leb n m)
count_back m = most_back m two_bytes a_number number_back

pub file_back : (m : ℕ) → Backs (a_file m) (λ f. f ∷ []) (λ f. leb f m)
file_back m = most_back m (λ f. f ∷ []) a_byte (λ bs b cs h. byte_back bs b cs)

module _ {S X : Type 0} (p : S → List ℕ → Reading X) (next : S → X → S) (enc : X → List ℕ) (ok : S → X → Bool) (one : (s : S) → Backs (p s) enc (ok s)) where
  pub many_back : (n : ℕ) (s : S) (bs : List ℕ) (xs : List X) (cs : List ℕ) → Bytes bs → many p next n s bs ≡ read xs cs → (flat_map enc xs ++ cs ≡ bs) × (each ok next s xs ≡ true) × (length xs ≡ n)
  many_back zero s bs xs cs h e =
      let x = sym (same_value [] xs bs cs e) in
      let y = sym (same_rest [] xs bs cs e) in
      (ap (λ l. flat_map enc l ++ cs) x ∙ y, ap (each ok next s) x, ap length x)
  many_back (suc n) s bs xs cs h e =
      let a = went (p s bs) (λ y ds. then (many p next n (next s y) ds) (λ ys es. read (y ∷ ys) es)) _ e in
      let b = went (many p next n (next s a.value) a.rest) (λ ys es. read (a.value ∷ ys) es) _ a.then in
      let first = one s bs a.value a.rest h a.first in
      let more = many_back n (next s a.value) a.rest b.value b.rest (rest_bytes (enc a.value) a.rest bs first.0 h) b.first in
      let last = b.then in
      let x = sym (same_value (a.value ∷ b.value) xs b.rest cs last) in
      let y = sym (same_rest (a.value ∷ b.value) xs b.rest cs last) in (
        ap (λ l. flat_map enc l ++ cs) x ∙ ap (λ l. flat_map enc (a.value ∷ b.value) ++ l) y
            ∙ join (enc a.value) (flat_map enc b.value) a.rest b.rest bs first.0 more.0,
        ap (each ok next s) x ∙ and_from (ok s a.value) _ first.1 more.1,
        ap length x ∙ ap suc more.2,
      )
