-- A gather's list, two bytes at a time.
use Rattle.std.proofs.Common.{◌≡◌, ℕ, zero, suc, ◌<◌, ◌≤◌, Bool, true, false, cond, ◌&&◌, leb, List, [], ◌∷◌, ◌++◌, min, option_and_then, subst, length, drop, is_some, Some, None, Option, sym, refl, ap, ◌∙◌, arith}
use Rattle.std.proofs.lemmas.Bool.{cond-true, cond-false, le-leb, lt-leb, false≢true}
use Rattle.std.proofs.lemmas.Iterator.{YieldsList}
use Rattle.std.proofs.lemmas.List.{nil_from_length}
use Rattle.std.proofs.lemmas.Iterator.Splits.{YieldsList-from_shown_while}
use Rattle.std.specs.List.{slice_get, list_all}
use Rattle.std.specs.Slice.Iter.{chunks_rest, chunks_size, chunks_steps}
use Rattle.model.specs.Digits.{file_number}
use Rattle.model.specs.Commands.{with_file, pairs, listed}
use Rattle.engine.specs.Lists.{two, twos, file_at}
use Rattle.engine.specs.Nexts.{turn_next, gather_next}
use Rattle.engine.specs.declared.next.Text.TheVariants.{Gathered}
use Rattle.engine.specs.declared.next.Next.TheVariants.{Read, Write}

-- the pieces of a list of bytes, cut two by two
twos_none : (l : List ℕ) → length l ≡ 0 → length (twos l) ≡ 0
twos_none [] e = refl
twos_none (d ∷ l) e = absurd (omega arith)

twos_some : (l x r : List ℕ) → l ≡ x ++ r → length x ≡ min 2 (length l) → 0 < length l → twos l ≡ x ∷ twos r
twos_some l [] r e n h = absurd (omega arith)
twos_some l (a ∷ []) r e n h =
    let m = ap length e in
    let z : r ≡ [] = nil_from_length r (omega arith) in
    ap twos e ∙ ap (λ q. twos (a ∷ q)) z ∙ ap (λ q. (a ∷ []) ∷ twos q) (sym z)
twos_some l (a ∷ b ∷ []) r e n h = ap twos e
twos_some l (a ∷ b ∷ c ∷ x) r e n h = absurd (omega arith)

pub cut_in_twos : {s : _} (xs : List ℕ) → chunks_rest s ≡ xs → chunks_size s ≡ 2 → YieldsList chunks_steps (λ y. y.now) s (twos xs)
cut_in_twos {s} xs e two =
    subst (λ q. YieldsList chunks_steps (λ y. y.now) s (twos q)) e
    (YieldsList-from_shown_while chunks_steps (λ y. y.now) (λ q. twos (chunks_rest q)) (λ q. chunks_size q ≡ 2)
    (λ q t h k. twos_none (chunks_rest q) k.1.0)
    (λ q x t h k. (k.0 ∙ h, twos_some (chunks_rest q) x.now (chunks_rest t) k.1.0 (k.1.1 ∙ ap (λ m. min m (length (chunks_rest q))) h) k.1.2))
    s two)

some_pre : (f : Option ℕ) (o : Option (List ℕ)) → is_some (with_file f o) ≡ (is_some f && is_some o)
some_pre None o = refl
some_pre (Some f) None = refl
some_pre (Some f) (Some fs) = refl

-- two bytes more
pub pairs_step : (d e : ℕ) (l : List ℕ) → is_some (pairs (d ∷ e ∷ l)) ≡ (is_some (two d e) && is_some (pairs l))
pairs_step d e l = some_pre (two d e) (pairs l)

pub listed_long : (l : List ℕ) → 30 < length l → false ≡ is_some (listed l)
listed_long l h = ap is_some (sym (cond-false (leb (length l) 30) (pairs l) None (lt-leb (length l) 30 h)))

pub listed_short : (l : List ℕ) → length l ≤ 30 → is_some (pairs l) ≡ is_some (listed l)
listed_short l h = ap is_some (sym (cond-true (leb (length l) 30) (pairs l) None (le-leb (length l) 30 h)))

pub files_listed : (l : List ℕ) → list_all (λ digits. is_some (file_number digits)) (twos l) ≡ is_some (pairs l)
files_listed [] = refl
files_listed (d ∷ []) = refl
files_listed (d ∷ e ∷ l) = ap (λ b. is_some (two d e) && b) (files_listed l) ∙ sym (pairs_step d e l)

-- the file at a place of the list of pairs
some_file : (f : Option ℕ) (o : Option (List ℕ)) (fs : List ℕ) → with_file f o ≡ Some fs → (g : ℕ) × (gs : List ℕ) × (fs ≡ g ∷ gs) × (f ≡ Some g) × (o ≡ Some gs)
some_file None o fs e = let z : ◌≡◌ {A = ℕ} 0 1 = cc in absurd (omega arith)
some_file (Some g) None fs e = let z : ◌≡◌ {A = ℕ} 0 1 = cc in absurd (omega arith)
some_file (Some g) (Some gs) fs e = (g, gs, cc, refl, refl)

pub file_nth : (l fs : List ℕ) (k : ℕ) → pairs l ≡ Some fs → file_at l k ≡ slice_get fs k
file_nth [] fs k e = let z : fs ≡ [] = cc in ap (λ t. slice_get t k) (sym z)
file_nth (d ∷ []) fs k e = let z : ◌≡◌ {A = ℕ} 0 1 = cc in absurd (omega arith)
file_nth (d ∷ x ∷ l) fs zero e = let s = some_file (two d x) (pairs l) fs e in s.3 ∙ ap (λ t. slice_get t 0) (sym s.2)
file_nth (d ∷ x ∷ l) fs (suc k) e = let s = some_file (two d x) (pairs l) fs e in file_nth l s.1 k s.4 ∙ ap (λ t. slice_get t (suc k)) (sym s.2)

pub file_of_two : (l : List ℕ) (k : ℕ) → option_and_then file_number (slice_get (twos l) k) ≡ file_at l k
file_of_two [] k = refl
file_of_two (d ∷ []) zero = refl
file_of_two (d ∷ []) (suc k) = refl
file_of_two (d ∷ e ∷ l) zero = refl
file_of_two (d ∷ e ∷ l) (suc k) = file_of_two l k

picked : (b : Bool) (o : Option (List ℕ)) (fs : List ℕ) → cond b o None ≡ Some fs → o ≡ Some fs
picked true o fs e = e
picked false o fs e = let z : ◌≡◌ {A = ℕ} 0 1 = cc in absurd (omega arith)

pub listed_pairs : (l fs : List ℕ) → listed l ≡ Some fs → pairs l ≡ Some fs
listed_pairs l fs e = picked (leb (length l) 30) (pairs l) fs e

-- what a gather does next, by its list
turn_file : (b : ℕ) (fs : List ℕ) (n f : ℕ) → Some f ≡ slice_get fs n → Read f ≡ turn_next b (drop n fs)
turn_file b [] n f e = let z : ◌≡◌ {A = ℕ} 0 1 = cc in absurd (omega arith)
turn_file b (x ∷ fs) zero f e = let z : f ≡ x = cc in ap Read z
turn_file b (x ∷ fs) (suc n) f e = turn_file b fs n f e

turn_end : (b : ℕ) (fs : List ℕ) (n : ℕ) → None ≡ slice_get fs n → Write b Gathered ≡ turn_next b (drop n fs)
turn_end b [] zero e = refl
turn_end b [] (suc n) e = refl
turn_end b (x ∷ fs) zero e = let z : ◌≡◌ {A = ℕ} 0 1 = cc in absurd (omega arith)
turn_end b (x ∷ fs) (suc n) e = turn_end b fs n e

some_of : (o : Option (List ℕ)) → true ≡ is_some o → (fs : List ℕ) × (o ≡ Some fs)
some_of None e = absurd (false≢true (sym e))
some_of (Some fs) e = (fs, refl)

pub gather_file : (b n f : ℕ) (l : List ℕ) → true ≡ is_some (listed l) → Some f ≡ file_at l n → Read f ≡ gather_next b (listed l) n
gather_file b n f l s e =
    let p = some_of (listed l) s in
    turn_file b p.0 n f (e ∙ file_nth l p.0 n (listed_pairs l p.0 p.1)) ∙ ap (λ o. gather_next b o n) (sym p.1)

pub gather_end : (b n : ℕ) (l : List ℕ) → true ≡ is_some (listed l) → None ≡ file_at l n → Write b Gathered ≡ gather_next b (listed l) n
gather_end b n l s e =
    let p = some_of (listed l) s in
    turn_end b p.0 n (e ∙ file_nth l p.0 n (listed_pairs l p.0 p.1)) ∙ ap (λ o. gather_next b o n) (sym p.1)
