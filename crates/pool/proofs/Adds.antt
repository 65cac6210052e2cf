-- One content more: its bytes lie past those of the others, which stay.
use Rattle.std.proofs.Common.{◌≡◌, ℕ, suc, ◌+◌, ◌-◌, ◌<◌, ◌≤◌, false, ◌≢◌, List, [], ◌∷◌, ◌++◌, map, length, get_or, take, drop, set, sym, refl, ap, ◌∙◌, subst, inl, inr, arith, below_more}
use borrow.Rule.Slice.PartMut.{put_mid}
use Rattle.std.proofs.lemmas.List.{drop-take, take-take, take_more_set, map_push, get_or-set_same, get_or-set_other, length-take-le, get_or-take, take-set-le, length_push, get_or_append_left, get_or_push}
use Rattle.std.proofs.lemmas.List.Folds.{list_any_at}
use Rattle.std.proofs.lemmas.Slice.{between-put_mid}
use Rattle.std.proofs.lemmas.Slice.Eq.{bytes_eq-Decides}
use Rattle.std.proofs.lemmas.Bool.{both_ways, cases_eq}
use Rattle.std.specs.Str.{bytes_eq}
use Rattle.model.specs.Contents.{mem}
use Rattle.pool.specs.Pieces.{piece, pieces, nowhere, total}
use Rattle.pool.specs.Sound.{Apart}
use Rattle.pool.proofs.Places.{total_push}
use Rattle.pool.specs.declared.place.Place.{Place}

pub map_same : {X Y : Type 0} (f g : X → Y) (xs : List X) (d : X) → ((k : ℕ) → k < length xs → f (get_or xs k d) ≡ g (get_or xs k d)) → map f xs ≡ map g xs
map_same f g [] d h = refl
map_same f g (x ∷ xs) d h =
    ap (λ y. y ∷ map f xs) (h 0 (omega arith)) ∙ ap (λ l. g x ∷ l) (map_same f g xs d (λ k l. h (suc k) (omega arith)))

pub piece_kept : (bs bs' : List ℕ) (u : ℕ) (p : Place) → p.start + p.len ≤ u → take u bs' ≡ take u bs → piece bs' p ≡ piece bs p
piece_kept bs bs' u p h e =
    sym (drop-take p.start p.len bs')
    ∙ ap (drop p.start) (sym (take-take (p.start + p.len) u bs' h) ∙ ap (take (p.start + p.len)) e ∙ take-take (p.start + p.len) u bs h)
    ∙ drop-take p.start p.len bs

pub pieces_kept : (bs bs' : List ℕ) (u n : ℕ) (ps : List Place) → n ≤ length ps → ((k : ℕ) → k < n → (get_or ps k nowhere).start + (get_or ps k nowhere).len ≤ u) → take u bs' ≡ take u bs → pieces bs' n ps ≡ pieces bs n ps
pieces_kept bs bs' u n ps ok inside e =
    let l = length-take-le n ps ok in
    map_same (piece bs') (piece bs) (take n ps) nowhere
    (λ k h.
    let lt : k < n = omega arith in
    let same = get_or-take n ps k nowhere lt in
    ap (piece bs') same ∙ piece_kept bs bs' u (get_or ps k nowhere) (inside k lt) e ∙ ap (piece bs) (sym same))

pub pieces_added : (bs bs' c : List ℕ) (u n : ℕ) (ps : List Place) → n < length ps → ((k : ℕ) → k < n → (get_or ps k nowhere).start + (get_or ps k nowhere).len ≤ u) → take u bs' ≡ take u bs → take (length c) (drop u bs') ≡ c → pieces bs' (n + 1) (set ps n (record { start = u; len = length c })) ≡ pieces bs n ps ++ c ∷ []
pieces_added bs bs' c u n ps ok inside e f =
    let q : Place = record { start = u; len = length c } in
    ap (map (piece bs')) (take_more_set ps n q ok)
    ∙ map_push (piece bs') (take n ps) q
    ∙ ap (λ l. l ++ piece bs' q ∷ []) (pieces_kept bs bs' u n ps (omega arith) inside e)
    ∙ ap (λ y. pieces bs n ps ++ y ∷ []) f

-- the bytes after the copy
pub copied_piece : (bs ys c : List ℕ) (u : ℕ) → u ≤ length bs → ys ≡ c → take (length c) (drop u (put_mid u (u + length c - u) bs ys)) ≡ c
copied_piece bs ys c u h e =
    let n : u + length c - u ≡ length c = omega arith in
    let b = between-put_mid u (u + length c - u) bs ys (u + length c) h (omega (arith, ap length e)) in
    ap (λ m. take m (drop u (put_mid u (u + length c - u) bs ys))) (sym n) ∙ b ∙ e

pub packed_added : (u m n : ℕ) (ps : List Place) → n < length ps → u ≡ total (take n ps) → ((k : ℕ) → k < n → (get_or ps k nowhere).start ≡ total (take k ps)) → (k : ℕ) → k < n + 1 → (get_or (set ps n (record { start = u; len = m })) k nowhere).start ≡ total (take k (set ps n (record { start = u; len = m })))
packed_added u m n ps ok filled packed =
    let q : Place = record { start = u; len = m } in
    below_more (λ k. (get_or (set ps n q) k nowhere).start ≡ total (take k (set ps n q))) n
    (λ k h.
    let ne : k ≢ n = omega arith in
    ap (λ p. p.start) (get_or-set_other ps n k q nowhere ne) ∙ packed k h ∙ ap total (sym (take-set-le k ps n q (omega arith))))
    (ap (λ p. p.start) (get_or-set_same ps n q nowhere ok) ∙ filled ∙ ap total (sym (take-set-le n ps n q (omega arith))))

pub filled_added : (u m n : ℕ) (ps : List Place) → n < length ps → u ≡ total (take n ps) → u + m ≡ total (take (n + 1) (set ps n (record { start = u; len = m })))
filled_added u m n ps ok filled =
    let q : Place = record { start = u; len = m } in
    ap (λ x. x + m) filled ∙ sym (total_push (take n ps) q) ∙ ap total (sym (take_more_set ps n q ok))

pub short_added : (u m n : ℕ) (ps : List Place) → n < length ps → ((k : ℕ) → k < n → (get_or ps k nowhere).len ≤ 4096) → m ≤ 4096 → (k : ℕ) → k < n + 1 → (get_or (set ps n (record { start = u; len = m })) k nowhere).len ≤ 4096
short_added u m n ps ok short low =
    let q : Place = record { start = u; len = m } in
    let P : Place → Type 0 = λ p. p.len ≤ 4096 in
    below_more (λ k. (get_or (set ps n q) k nowhere).len ≤ 4096) n
    (λ k h. let ne : k ≢ n = omega arith in subst P (sym (get_or-set_other ps n k q nowhere ne)) (short k h))
    (subst P (sym (get_or-set_same ps n q nowhere ok)) low)

-- no two are equal: the new content is none of the others
mem_absent : (xs : List (List ℕ)) (c : List ℕ) → mem c xs ≡ false → (k : ℕ) → k < length xs → get_or xs k [] ≡ c → ⊥
mem_absent xs c e k h same =
    both_ways (mem c xs) e (list_any_at (bytes_eq c) xs k [] h ((bytes_eq-Decides c (get_or xs k [])).1 (sym same)))

pub apart_added : (xs ys : List (List ℕ)) (c : List ℕ) → mem c xs ≡ false → ys ≡ xs ++ c ∷ [] → Apart xs → Apart ys
apart_added xs ys c none e apart =
    subst Apart (sym e)
    (λ i j h l same.
    let n = length_push xs c in
    let front : get_or (xs ++ c ∷ []) i [] ≡ get_or xs i [] = get_or_append_left xs (c ∷ []) [] i (omega arith) in
    elim (cases_eq j (length xs)) [
      | inl z ↦ mem_absent xs c none i (omega arith) (sym front ∙ same ∙ get_or_push xs c [] j (sym z))
      | inr ne ↦ apart i j h (omega arith) (sym front ∙ same ∙ get_or_append_left xs (c ∷ []) [] j (omega arith))
    ])
