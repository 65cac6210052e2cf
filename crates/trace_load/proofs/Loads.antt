-- What loading a file comes to, by what its bytes mean, the pool that takes its contents, and the book's places.
use Rattle.std.proofs.Common.{◌≡◌, ℕ, Bool, true, false, cond, leb, List, length, Some, None, Ok, Err, Option, Result, sym, ap, ◌∙◌, subst, arith}
use Rattle.model.specs.Contents.{Pool, cut}
use Rattle.model.specs.Load.{Traced, puts, hints, Placed, Pooled, Loaded}
use Rattle.model.specs.Records.{Record}
use Rattle.model.specs.World.{World, stocked}
use Rattle.model.specs.declared.refusal.Refusal.{Refusal}
use Rattle.model.specs.declared.refusal.Refusal.TheVariants.{NoRoomToLoad}
use Rattle.trace_load.specs.Takes.{put_told, put_after, hints_told, hints_after}
use Rattle.model.proofs.Growth.{Began, began_none, began_put, puts_pool}

abbrev pub done : Result (Unit {0}) Refusal
done = Ok tt

module _ (b : Result Traced Refusal) (p : Pool) (rs : List Record) (places : ℕ) (w : World) (room : w.book_places ≡ places) where
  abbrev at : Pool → List Record → World
  at q ss = stocked w w.files q ss

  module _ (t : Traced) (means : Ok t ≡ b) where
    by_pool : (a : Result (Unit {0}) Refusal) (v : World) → Pooled t (puts t.contents p) a (at p rs) v → Loaded b a (at p rs) v
    by_pool a v h = rw (← means) h

    -- the pool took them
    module _ (q : Pool) (took : done ≡ put_told (puts t.contents p)) (after : q ≡ put_after (puts t.contents p) p) where
      pool_is : puts t.contents p ≡ Some q
      pool_is = by (puts t.contents p) took after
        where
          by : (o : Option Pool) → done ≡ put_told o → q ≡ put_after o p → o ≡ Some q
          by None f j = let n : ◌≡◌ {A = ℕ} 0 1 = cc in absurd (omega arith)
          by (Some z) f j = ap Some (sym j)

      abbrev new : List Record
      new = hints t.contents q t.records rs

      by_places : (a : Result (Unit {0}) Refusal) (v : World) → Placed (leb (length new) places) q new a (at p rs) v → Loaded b a (at p rs) v
      by_places a v h = by_pool a v (subst (λ o. Pooled t o a (at p rs) v) (sym pool_is) (subst (λ n. Placed (leb (length new) n) q new a (at p rs) v) (sym room) h))

      pub book_full : (r : Refusal) (n : ℕ) (z : Pool) (ss : List Record) → n ≡ length p.contents → z ≡ cut n q → Err r ≡ hints_told new places → ss ≡ hints_after new places rs → Loaded b (Err r) (at p rs) (at z ss)
      book_full r n z ss count back e i = by_places (Err r) (at z ss) (by (leb (length new) places) e i)
        where
          as_it_was : z ≡ p
          as_it_was = back ∙ ap (λ k. cut k q) count ∙ (puts_pool (Began p) (began_put p) t.contents p q (began_none p) pool_is).cut_is

          by : (c : Bool) → Err r ≡ cond c done (Err NoRoomToLoad) → ss ≡ cond c new rs → Placed c q new (Err r) (at p rs) (at z ss)
          by true f j = let n : ◌≡◌ {A = ℕ} 0 1 = cc in absurd (omega arith)
          by false f j = (f, ap (λ x. at x ss) as_it_was ∙ ap (at p) j)
