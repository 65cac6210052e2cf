-- A file that is loaded into an empty pool and an empty book: what that leaves, and that it can be saved again.
use Rattle.std.proofs.Common.{◌≡◌, ℕ, Bool, true, false, leb, List, [], length, is_ok, Some, None, Ok, Err, Option, Result, sym, refl, ap, ◌∙◌, arith}
use Rattle.model.specs.Contents.{Pool}
use Rattle.model.specs.Load.{Traced, puts, hints, Placed, Pooled, Loaded}
use Rattle.model.specs.World.{World}
use Rattle.model.specs.declared.refusal.Refusal.{Refusal}
use Rattle.trace.specs.Format.{decoded, encoded}
use Rattle.trace.specs.Laws.{Bytes}
use Rattle.trace_write.specs.Laws.{RoundTrip}
use Rattle.trace_write.specs.Saves.{to_save}
use Rattle.trace_write.proofs.Brings.{brought_back}
use Rattle.trace_write.proofs.Rounds.{saved_again}

-- what a file that was taken left
record Took (b : Result Traced Refusal) (w v : World) : Type 0 where
  trace : Traced
  means : b ≡ Ok trace
  taken : puts trace.contents w.pool ≡ Some v.pool
  records : v.records ≡ hints trace.contents v.pool trace.records w.records

module _ (b : Result Traced Refusal) (a : Result (Unit {0}) Refusal) (w v : World) (ok : is_ok a ≡ true) where
  not_refused : {A : Type 0} (r : Refusal) → a ≡ Err r → A
  not_refused r e = let z : true ≡ false = sym ok ∙ ap is_ok e in let n : ◌≡◌ {A = ℕ} 0 1 = cc in absurd (omega arith)

  took : Loaded b a w v → Took b w v
  took l = by b refl l
    where
      placed : (t : Traced) (q : Pool) → b ≡ Ok t → puts t.contents w.pool ≡ Some q → (c : Bool) → Placed c q (hints t.contents q t.records w.records) a w v → Took b w v
      placed t q m e true h =
          let same : v.pool ≡ q = ap (λ x. x.pool) h.1 in
          record {
            trace = t;
            means = m;
            taken = e ∙ ap Some (sym same);
            records = ap (λ x. x.records) h.1 ∙ ap (λ x. hints t.contents x t.records w.records) (sym same);
          }
      placed t q m e false h = not_refused _ h.0

      pooled : (t : Traced) → b ≡ Ok t → (o : Option Pool) → puts t.contents w.pool ≡ o → Pooled t o a w v → Took b w v
      pooled t m None e h = not_refused _ h.0
      pooled t m (Some q) e h = placed t q m e (leb (length (hints t.contents q t.records w.records)) w.book_places) h

      by : (c : Result Traced Refusal) → b ≡ c → Loaded c a w v → Took b w v
      by (Err r) m h = not_refused r h.0
      by (Ok t) m h = pooled t m (puts t.contents w.pool) refl h

pub round_trip : (bs : List ℕ) (a : Result (Unit {0}) Refusal) (w v : World) → Bytes bs → Loaded (decoded bs) a w v → is_ok a ≡ true → w.pool.contents ≡ [] → w.records ≡ [] → RoundTrip bs v.pool v.records
round_trip bs a w v typed l ok empty none =
    let t = took (decoded bs) a w v ok l in
    let left : v.records ≡ hints t.trace.contents v.pool t.trace.records [] = t.records ∙ ap (hints t.trace.contents v.pool t.trace.records) none in
    record {
      again = ap (λ rs. encoded (to_save v.pool rs)) left ∙ saved_again bs t.trace w.pool v.pool typed t.means empty t.taken;
      back = λ p ss sound saved.
          let same : t.trace ≡ to_save p ss = let e : Ok t.trace ≡ Ok (to_save p ss) = sym t.means ∙ saved in cc in
          rw left (rw same (brought_back p ss w.pool v.pool sound empty (rw same at t.taken)));
    }
