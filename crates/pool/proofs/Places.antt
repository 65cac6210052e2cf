-- Places that lie one after the other: where each starts and ends, and how many bytes the contents have.
use Rattle.std.proofs.Common.{◌≡◌, ℕ, zero, suc, ◌+◌, ◌-◌, ◌<◌, ◌≤◌, List, [], ◌∷◌, ◌++◌, map, length, get_or, take, drop, sym, refl, ap, ◌∙◌, arith}
use Rattle.std.proofs.lemmas.List.{length-take, length-drop, length-take-le, length-map, get_or-take, get_or-map, take_more, take-map, take-take}
use Rattle.model.specs.Contents.{used}
use Rattle.pool.specs.Pieces.{piece, pieces, nowhere, total}
use Rattle.pool.specs.Contents.{held}
use Rattle.pool.specs.declared.holder.Pool.{Pool}
use Rattle.pool.specs.declared.place.Place.{Place}

pub total_push : (ps : List Place) (q : Place) → total (ps ++ q ∷ []) ≡ total ps + q.len
total_push [] q = omega arith
total_push (p ∷ ps) q = omega (arith, total_push ps q)

pub total_more : (ps : List Place) (k : ℕ) → k < length ps → total (take (k + 1) ps) ≡ total (take k ps) + (get_or ps k nowhere).len
total_more ps k h = ap total (take_more ps k nowhere h) ∙ total_push (take k ps) (get_or ps k nowhere)

pub total_up : (ps : List Place) (m n : ℕ) → m ≤ n → total (take m ps) ≤ total (take n ps)
total_up ps zero n h = omega arith
total_up ps (suc m) zero h = absurd (omega arith)
total_up [] (suc m) (suc n) h = omega arith
total_up (p ∷ ps) (suc m) (suc n) h = omega (arith, total_up ps m n (omega arith))

pub length_pieces : (bs : List ℕ) (n : ℕ) (ps : List Place) → n ≤ length ps → length (pieces bs n ps) ≡ n
length_pieces bs n ps ok = length-map (take n ps) (piece bs) ∙ length-take-le n ps ok

pub getD_pieces : (bs : List ℕ) (n : ℕ) (ps : List Place) (i : ℕ) → n ≤ length ps → i < n → get_or (pieces bs n ps) i [] ≡ piece bs (get_or ps i nowhere)
getD_pieces bs n ps i ok h =
    let l = length-take-le n ps ok in
    get_or-map (piece bs) (take n ps) i nowhere [] (omega arith) ∙ ap (piece bs) (get_or-take n ps i nowhere h)

pub take_pieces : (bs : List ℕ) (m n : ℕ) (ps : List Place) → m ≤ n → take m (pieces bs n ps) ≡ pieces bs m ps
take_pieces bs m n ps h = take-map (piece bs) m (take n ps) ∙ ap (map (piece bs)) (take-take m n ps h)

pub length_piece : (bs : List ℕ) (p : Place) → p.start + p.len ≤ length bs → length (piece bs p) ≡ p.len
length_piece bs p h = omega (arith, length-take p.len (drop p.start bs), length-drop p.start bs)

used_map : (bs : List ℕ) (ps : List Place) → ((k : ℕ) → k < length ps → (get_or ps k nowhere).start + (get_or ps k nowhere).len ≤ length bs) → used (map (piece bs) ps) ≡ total ps
used_map bs [] h = refl
used_map bs (p ∷ ps) h =
    omega (arith, length_piece bs p (h 0 (omega arith)), used_map bs ps (λ k l. h (suc k) (omega arith)))

-- the facts of a pool that are counted with
pub all_places : (s : Pool) → s.count ≤ length s.places.now
all_places s = omega (arith, s.places_fit)

pub all_bytes : (s : Pool) → s.used ≤ length s.bytes.now
all_bytes s = omega (arith, s.bytes_fit)

pub inside : (s : Pool) → (k : ℕ) → k < s.count → (get_or s.places.now k nowhere).start + (get_or s.places.now k nowhere).len ≤ s.used
inside s k h =
    let ps = s.places.now in
    let all = all_places s in
    let more = total_more ps k (omega arith) in
    let up = total_up ps (k + 1) s.count (omega arith) in
    let start = s.packed k h in
    let filled = s.filled in
    omega arith

pub used_pieces : (s : Pool) → (n : ℕ) → n ≤ s.count → used (pieces s.bytes.now n s.places.now) ≡ total (take n s.places.now)
used_pieces s n h =
    let ps = s.places.now in
    let all = all_places s in
    let bytes = all_bytes s in
    let l = length-take-le n ps (omega arith) in
    used_map s.bytes.now (take n ps)
    (λ k lt.
    let below : k < n = omega arith in
    let at = inside s k (omega arith) in
    let same = get_or-take n ps k nowhere below in
    omega (arith, ap (λ p. p.start) same, ap (λ p. p.len) same))

-- the count of the contents, and their bytes
pub count_held : (s : Pool) → s.count ≡ length (held s)
count_held s = sym (length_pieces s.bytes.now s.count s.places.now (all_places s))

pub used_held : (s : Pool) → s.used ≡ used (held s)
used_held s = s.filled ∙ sym (used_pieces s s.count (omega arith))

-- a place starts where the contents before it end
pub start_held : (s : Pool) → (k : ℕ) → k < s.count → (get_or s.places.now k nowhere).start ≡ used (take k (held s))
start_held s k h =
    s.packed k h ∙ sym (used_pieces s k (omega arith)) ∙ ap used (sym (take_pieces s.bytes.now k s.count s.places.now (omega arith)))

-- the part of the bytes that a place tells, `bytes[start..start + len]`
pub within_bytes : (s : Pool) → (k : ℕ) → k < s.count → (get_or s.places.now k nowhere).start + (get_or s.places.now k nowhere).len ≤ length s.bytes.now
within_bytes s k h = let a = inside s k h in let b = all_bytes s in omega arith

abbrev pub told : List ℕ → Place → List ℕ
told bs p = take (p.start + p.len - p.start) (drop p.start bs)

told_piece : (bs : List ℕ) (p : Place) → told bs p ≡ piece bs p
told_piece bs p = let same : p.start + p.len - p.start ≡ p.len = omega arith in ap (λ n. take n (drop p.start bs)) same

pub read_at : (s : Pool) → (k : ℕ) → k < s.count → told s.bytes.now (get_or s.places.now k nowhere) ≡ get_or (held s) k []
read_at s k h =
    told_piece s.bytes.now (get_or s.places.now k nowhere) ∙ sym (getD_pieces s.bytes.now s.count s.places.now k (all_places s) h)

told_length : (s : Pool) → (k : ℕ) → k < s.count → length (told s.bytes.now (get_or s.places.now k nowhere)) ≡ (get_or s.places.now k nowhere).len
told_length s k h =
    let p = get_or s.places.now k nowhere in ap length (told_piece s.bytes.now p) ∙ length_piece s.bytes.now p (within_bytes s k h)

pub part_at : (s : Pool) → (k : ℕ) → k < s.count → told s.bytes.now (get_or s.places.now k nowhere) ≡ take (length (told s.bytes.now (get_or s.places.now k nowhere))) (drop (get_or s.places.now k nowhere).start s.bytes.now)
part_at s k h =
    let p = get_or s.places.now k nowhere in
    told_piece s.bytes.now p ∙ ap (λ n. take n (drop p.start s.bytes.now)) (sym (told_length s k h))
