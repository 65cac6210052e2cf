-- After starting contents are laid on absent files, a begin is accepted where log and book have the places.
use Rattle.std.proofs.Common.{◌≡◌, ℕ, zero, suc, ◌*◌, ◌≤◌, false, cond, eqb, ltb, List, [], ◌∷◌, length, set, Some, None, Option, refl, arith}
use Rattle.std.proofs.lemmas.Bool.{le-ltb, ltb-false, ne_eqb, or_parts, or_from}
use Rattle.model.specs.Begin.{least_places, some_above, begin_refusal}
use Rattle.model.specs.Contents.{Pool, count, given, put}
use Rattle.model.specs.Lay.{Have, Stock, laid}
use Rattle.model.specs.World.{World}
use Rattle.model.specs.declared.command.Command.{Command}
use Rattle.model.proofs.Pools.{grows_put, given_is}

above_more : (m n : ℕ) (fs : List ℕ) → m ≤ n → some_above m fs ≡ false → some_above n fs ≡ false
above_more m n [] le h = refl
above_more m n (f ∷ fs) le h =
    let b = or_parts (ltb m f) (some_above m fs) h in
    or_from _ _ (le-ltb n f (omega (arith, ltb-false m f b.0))) (above_more m n fs le b.1)

above_set : (n : ℕ) (fs : List ℕ) (i k : ℕ) → k ≤ n → some_above n fs ≡ false → some_above n (set fs i k) ≡ false
above_set n [] i k low h = refl
above_set n (f ∷ fs) zero k low h = or_from _ _ (le-ltb n k low) (or_parts (ltb n f) (some_above n fs) h).1
above_set n (f ∷ fs) (suc i) k low h =
    let b = or_parts (ltb n f) (some_above n fs) h in
    or_from _ _ b.0 (above_set n fs i k low b.1)

-- no file has a number above the pool's count: each number that is set was given by the pool
pub laid_filed : (hs : List Have) (fs : List ℕ) (p : Pool) (g : Stock) → some_above (count p) fs ≡ false → laid hs fs p ≡ Some g → some_above (count g.pool) g.files ≡ false
laid_filed [] fs p g h e = let same : record { files = fs; pool = p } ≡ g = cc in rw (← same) h
laid_filed (a ∷ hs) fs p g h e = by (given p a.bytes) refl e (laid_filed hs (set fs a.file (given p a.bytes)) (put p a.bytes) g)
  where
    rest : Option Stock
    rest = laid hs (set fs a.file (given p a.bytes)) (put p a.bytes)

    by :
        (n : ℕ) → given p a.bytes ≡ n → cond (eqb n 0) None rest ≡ Some g →
        (some_above (count (put p a.bytes)) (set fs a.file (given p a.bytes)) ≡ false → rest ≡ Some g → some_above (count g.pool) g.files ≡ false) →
        some_above (count g.pool) g.files ≡ false
    by zero i k ih = let z : ◌≡◌ {A = ℕ} 0 1 = cc in absurd (omega arith)
    by (suc n) i k ih =
        let after = count (put p a.bytes) in
        let more = above_more (count p) after fs (grows_put p a.bytes).more h in
        ih (above_set after fs a.file (given p a.bytes) (omega (arith, (given_is p a.bytes n i).high)) more) (rw (ne_eqb (suc n) 0 (λ z. omega arith)) at k)

pub begin_accepted : (cs : List Command) (u : World) → u.is_open ≡ false → 17 * length cs ≤ u.log_places → least_places ≤ u.book_places → some_above (count u.pool) u.files ≡ false → begin_refusal cs u ≡ None
begin_accepted cs u closed log book filed = rw (closed, le-ltb u.log_places (17 * length cs) log, le-ltb u.book_places least_places book, filed)
