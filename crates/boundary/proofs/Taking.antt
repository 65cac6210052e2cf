-- A load into an empty pool and an empty book, with no run open, leaves what the bytes of the file give.
use Rattle.std.proofs.Common.{◌≡◌, ℕ, Bool, true, false, List, [], length, map, Some, None, Ok, Err, Option, Result, ap, ◌∙◌, subst, refl, leb}
use Rattle.model.specs.Audit.{judged}
use Rattle.model.specs.Contents.{Pool}
use Rattle.model.specs.Load.{Traced, puts, hints, Placed, Pooled, Loaded, Loads}
use Rattle.model.specs.Records.{Record}
use Rattle.model.specs.World.{World, UnlessOpen}
use Rattle.model.specs.declared.refusal.Refusal.{Refusal}
use Rattle.trace_write.specs.Puts.{saved, after_save}
use Rattle.trace_write.specs.Saves.{to_save}
use Rattle.boundary.specs.Retraced.{Stored, hinted, taken, retold, rewritten}

-- a world, and an answer, by what a file gives
abbrev pub Leaves : Result Stored Refusal → Result (Unit {0}) Refusal → World → Type 0
Leaves (Err r) a v = a ≡ Err r
Leaves (Ok s) a v = (a ≡ Ok tt) × (v.pool ≡ s.pool) × (v.records ≡ s.records)

module _ (a : Result (Unit {0}) Refusal) (w v : World) (none : w.records ≡ []) where
  pooled : (t : Traced) (o : Option Pool) → Pooled t o a w v → Leaves (hinted t w.book_places o) a v
  pooled t None h = h.0
  pooled t (Some q) h = by (leb (length rs) w.book_places) refl placed
    where
      rs : List Record
      rs = hints t.contents q t.records []

      placed : Placed (leb (length rs) w.book_places) q rs a w v
      placed = subst (λ ss. Placed (leb (length (hints t.contents q t.records ss)) w.book_places) q (hints t.contents q t.records ss) a w v) none h

      by : (b : Bool) → leb (length rs) w.book_places ≡ b → Placed b q rs a w v → Leaves (hinted t w.book_places (Some q)) a v
      by true e g = rw e (g.0, ap (λ x. x.pool) g.1, ap (λ x. x.records) g.1)
      by false e g = rw e g.0

  loaded : (b : Result Traced Refusal) → Loaded b a w v → Leaves (taken b w.book_places w.pool) a v
  loaded (Err r) h = h.0
  loaded (Ok t) h = pooled t (puts t.contents w.pool) h

  pub leaves : (b : Result Traced Refusal) → w.is_open ≡ false → Loads b a w v → Leaves (taken b w.book_places w.pool) a v
  leaves b shut h = loaded b (subst (λ o. UnlessOpen o a w v (Loaded b a w v)) shut h)

-- where it is refused
pub refused_told : (s : Result Stored Refusal) (r : Refusal) (v : World) (out : List ℕ) → Leaves s (Err r) v → Err r ≡ retold s out
refused_told (Err q) r v out h = cc
refused_told (Ok s) r v out h = let e = h.0 in cc

pub refused_left : (s : Result Stored Refusal) (r : Refusal) (v : World) (out : List ℕ) → Leaves s (Err r) v → out ≡ rewritten s out
refused_left (Err q) r v out h = refl
refused_left (Ok s) r v out h = let e = h.0 in cc

-- where it is not, and each record is judged
pub accepted_told : (s : Result Stored Refusal) (v : World) (out : List ℕ) → Leaves s (Ok tt) v → saved (to_save v.pool (map (judged v.pool) v.records)) out ≡ retold s out
accepted_told (Err q) v out h = cc
accepted_told (Ok s) v out h =
    ap (λ p. saved (to_save p (map (judged p) v.records)) out) h.1 ∙ ap (λ rs. saved (to_save s.pool (map (judged s.pool) rs)) out) h.2

pub accepted_left : (s : Result Stored Refusal) (v : World) (out : List ℕ) → Leaves s (Ok tt) v → after_save (to_save v.pool (map (judged v.pool) v.records)) out ≡ rewritten s out
accepted_left (Err q) v out h = cc
accepted_left (Ok s) v out h =
    ap (λ p. after_save (to_save p (map (judged p) v.records)) out) h.1 ∙ ap (λ rs. after_save (to_save s.pool (map (judged s.pool) rs)) out) h.2
