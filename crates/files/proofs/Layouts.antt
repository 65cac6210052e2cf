-- The layout of a map, entry by entry: how it grows by one file.
use Rattle.std.proofs.Common.{◌≡◌, ℕ, suc, ◌+◌, ◌-◌, ◌*◌, ◌/◌, ◌%◌, ◌<◌, ◌≤◌, Bool, true, false, cond, eqb, List, [], ◌∷◌, ◌++◌, length, get_or, take, set, replicate, sym, refl, ap, ◌∙◌, arith}
use Rattle.std.proofs.lemmas.List.{append-nil, append_assoc, length-append, length-replicate, set_at, take_more, take_all, length-take}
use Rattle.std.proofs.lemmas.Bool.{cond-true, cond-false, eq-eqb, ne_eqb}
use Rattle.files.specs.Layout.{entry, entries, counted, present, padded, layout}
use Rattle.files.specs.Drafts.{Drafted}
use Rattle.files.specs.declared.draft.Draft.{Draft}

pub entries_push : (f : ℕ) (ns : List ℕ) (n : ℕ) → entries f (ns ++ n ∷ []) ≡ entries f ns ++ entry (f + length ns) n
unfolding entries
entries_push f [] n = let same : f ≡ f + 0 = omega arith in append-nil (entry f n) ∙ ap (λ g. entry g n) same
entries_push f (m ∷ ns) n =
    let same : suc f + length ns ≡ f + suc (length ns) = omega arith in
    ap (λ es. entry f m ++ es) (entries_push (suc f) ns n ∙ ap (λ g. entries (suc f) ns ++ entry g n) same)
    ∙ sym (append_assoc (entry f m) (entries (suc f) ns) (entry (f + suc (length ns)) n))

counted_swap : (b d : Bool) (c : ℕ) → cond b (cond d c (suc c)) (suc (cond d c (suc c))) ≡ cond d (cond b c (suc c)) (suc (cond b c (suc c)))
counted_swap true true c = refl
counted_swap true false c = refl
counted_swap false true c = refl
counted_swap false false c = refl

pub present_push : (ns : List ℕ) (n : ℕ) → present (ns ++ n ∷ []) ≡ counted n (present ns)
unfolding present
present_push [] n = refl
present_push (m ∷ ns) n = ap (counted m) (present_push ns n) ∙ counted_swap (eqb m 0) (eqb n 0) (present ns)

pub padded_push : (n : ℕ) (xs : List ℕ) (k y : ℕ) → k ≡ length xs → k < n → set (padded n xs) k y ≡ padded n (xs ++ y ∷ [])
unfolding padded
padded_push n xs k y e h =
    let l = length-append xs (y ∷ []) in
    let more : n - length xs ≡ suc (n - length (xs ++ y ∷ [])) = omega arith in
    ap (λ m. set (xs ++ replicate m 0) k y) more
    ∙ set_at xs 0 (replicate (n - length (xs ++ y ∷ [])) 0) y k (sym e)
    ∙ sym (append_assoc xs (y ∷ []) (replicate (n - length (xs ++ y ∷ [])) 0))

-- one entry behind the others
pub three : (n : ℕ) (xs : List ℕ) (k a b c : ℕ) → k ≡ length xs → k + 2 < n → set (set (set (padded n xs) k a) (k + 1) b) (k + 2) c ≡ padded n (xs ++ a ∷ b ∷ c ∷ [])
three n xs k a b c e h =
    let l = length-append xs (a ∷ []) in
    let m = length-append (xs ++ a ∷ []) (b ∷ []) in
    ap (λ zs. set (set zs (k + 1) b) (k + 2) c) (padded_push n xs k a e (omega arith))
    ∙ ap (λ zs. set zs (k + 2) c) (padded_push n (xs ++ a ∷ []) (k + 1) b (omega arith) (omega arith))
    ∙ padded_push n ((xs ++ a ∷ []) ++ b ∷ []) (k + 2) c (omega arith) (omega arith)
    ∙ ap (padded n) (append_assoc (xs ++ a ∷ []) (b ∷ []) (c ∷ []) ∙ append_assoc xs (a ∷ []) (b ∷ c ∷ []))

-- the entries and the count with the next file
next_entries : (ns : List ℕ) (f : ℕ) → f < length ns → entries 0 (take (f + 1) ns) ≡ entries 0 (take f ns) ++ entry f (get_or ns f 0)
next_entries ns f h =
    let l : 0 + length (take f ns) ≡ f = omega (arith, length-take f ns) in
    ap (entries 0) (take_more ns f 0 h) ∙ entries_push 0 (take f ns) (get_or ns f 0) ∙ ap (λ g. entries 0 (take f ns) ++ entry g (get_or ns f 0)) l

next_present : (ns : List ℕ) (f : ℕ) → f < length ns → present (take (f + 1) ns) ≡ counted (get_or ns f 0) (present (take f ns))
next_present ns f h = ap present (take_more ns f 0 h) ∙ present_push (take f ns) (get_or ns f 0)

pub blank : (ns : List ℕ) (bs : List ℕ) → bs ≡ replicate 193 0 → Drafted (record { bytes = bs; at = 1; count = 0 }) ns 0
unfolding entries present padded
blank ns bs e = record { bytes = e; at = refl; count = refl; room = omega arith; few = omega arith }

pub absent : (d : Draft) (ns : List ℕ) (f : ℕ) → f < length ns → get_or ns f 0 ≡ 0 → Drafted d ns f → Drafted d ns (f + 1)
absent d ns f h z was =
    let yes = eq-eqb (get_or ns f 0) 0 z in
    let es = next_entries ns f h ∙ ap (λ es. entries 0 (take f ns) ++ es) (cond-true (eqb (get_or ns f 0) 0) [] _ yes) ∙ append-nil (entries 0 (take f ns)) in
    let count = next_present ns f h ∙ cond-true (eqb (get_or ns f 0) 0) (present (take f ns)) _ yes in
    record {
      bytes = was.bytes ∙ ap (λ es. padded 193 (0 ∷ es)) (sym es);
      at = was.at ∙ ap (λ es. suc (length es)) (sym es);
      count = was.count ∙ sym count;
      room = omega (arith, was.room);
      few = omega (arith, was.few);
    }

pub added : (d : Draft) (ns : List ℕ) (f a b : ℕ) → f < length ns → f < 64 → (get_or ns f 0 ≡ 0 → ⊥) → a ≡ get_or ns f 0 / 256 % 256 → b ≡ get_or ns f 0 % 256 → Drafted d ns f → Drafted (record { bytes = set (set (set d.bytes d.at f) (d.at + 1) a) (d.at + 2) b; at = d.at + 3; count = d.count + 1 }) ns (f + 1)
added d ns f a b h low ne ea eb was =
    let n = get_or ns f 0 in
    let no = ne_eqb n 0 ne in
    let old = entries 0 (take f ns) in
    let es : entries 0 (take (f + 1) ns) ≡ old ++ f ∷ a ∷ b ∷ [] =
    next_entries ns f h ∙ ap (λ es. old ++ es) (cond-false (eqb n 0) [] (f ∷ n / 256 % 256 ∷ n % 256 ∷ []) no) ∙ ap (λ x. old ++ f ∷ x ∷ n % 256 ∷ []) (sym ea) ∙ ap (λ x. old ++ f ∷ a ∷ x ∷ []) (sym eb) in
    let count = next_present ns f h ∙ cond-false (eqb n 0) (present (take f ns)) (suc (present (take f ns))) no in
    let l = length-append old (f ∷ a ∷ b ∷ []) in
    let longer = ap length es in
    record {
      bytes =
          ap (λ bs. set (set (set bs d.at f) (d.at + 1) a) (d.at + 2) b) was.bytes ∙ three 193 (0 ∷ old) d.at f a b was.at (omega (arith, was.room)) ∙ ap (λ es. padded 193 (0 ∷ es)) (sym es);
      at = omega (arith, was.at);
      count = omega (arith, was.count);
      room = omega (arith, was.room);
      few = omega (arith, was.few);
    }

-- the count in front
pub finished : (d : Draft) (ns : List ℕ) → length ns ≡ 64 → Drafted d ns 64 → set d.bytes 0 d.count ≡ layout ns
unfolding layout padded
finished d ns long was =
    let all = take_all 64 ns (omega arith) in
    ap (λ bs. set bs 0 d.count) was.bytes ∙ ap (λ c. padded 193 (c ∷ entries 0 (take 64 ns))) was.count ∙ ap (λ xs. padded 193 (present xs ∷ entries 0 xs)) all

-- a layout has 193 bytes
entries_low : (f : ℕ) (ns : List ℕ) → length (entries f ns) ≤ 3 * length ns
unfolding entries
entries_low f [] = omega arith
entries_low f (n ∷ ns) = by (entries_low (suc f) ns) (eqb n 0)
  where
    by : length (entries (suc f) ns) ≤ 3 * length ns → (b : Bool) → length (cond b [] (f ∷ n / 256 % 256 ∷ n % 256 ∷ []) ++ entries (suc f) ns) ≤ 3 * suc (length ns)
    by h true = omega arith
    by h false = omega arith

pub layout_length : (ns : List ℕ) → length ns ≡ 64 → length (layout ns) ≡ 193
unfolding layout padded
layout_length ns long =
    let es : List ℕ = present ns ∷ entries 0 ns in
    let low = entries_low 0 ns in
    omega (arith, length-append es (replicate (193 - length es) 0), length-replicate {A = ℕ} (193 - length es) 0)
