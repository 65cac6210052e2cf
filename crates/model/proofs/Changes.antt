-- What a call can do to the world, case by case, so that a law over pasts is shown for each case once. Assumes nothing.
use Rattle.std.proofs.Common.{◌≡◌, ℕ, ◌≤◌, Bool, true, false, leb, List, length, set, Some, None, Ok, Err, Option, Result, refl, ap, ◌∙◌, arith}
use Rattle.std.proofs.lemmas.Bool.{both_ways, leb-true}
use Rattle.model.specs.declared.refusal.Refusal.{Refusal}
use Rattle.model.specs.declared.refusal.Refusal.TheVariants.{LinesLeft}
use Rattle.model.specs.declared.run.Stop.{Stop}
use Rattle.model.specs.declared.record.Standing.{Standing}
use Rattle.model.specs.declared.command.Command.{Command}
use Rattle.model.specs.declared.answers.Stepped.{Stepped}
use Rattle.model.specs.declared.answers.Wish.{Wish}
use Rattle.model.specs.declared.answers.Wish.TheVariants as Wishes
use Rattle.model.specs.declared.answers.Closed.{Closed}
use Rattle.model.specs.declared.answers.Closed.TheVariants.{Kept, PutBack}
use Rattle.model.specs.declared.answers.CloseRefusal.{CloseRefusal}
use Rattle.model.specs.declared.answers.CloseRefusal.TheVariants.{By, Stopped}
use Rattle.model.specs.Contents.{Pool}
use Rattle.model.specs.Records.{Record}
use Rattle.model.specs.World.{World, lines, stocked, UnlessOpen}
use Rattle.model.specs.Lay.{Have, Stock, laid, Laid, Lays}
use Rattle.model.specs.Load.{Traced, puts, hints, Placed, Pooled, Loaded, Loads}
use Rattle.model.specs.Audit.{at_place, judged, Audited, Audits}
use Rattle.model.specs.Begin.{Ticket, begin_refusal, begun}
use Rattle.model.specs.Step.{all_ended, Worked}
use Rattle.model.specs.Policies.{Asked}
use Rattle.model.specs.Close.{put_back, kept, closing_open, closing_live, ClosesBy, Closes}
use Rattle.model.specs.Calls.{Call, on_lay, on_load, on_audit, on_begin, on_step, on_close, Does}
use Rattle.model.specs.Past.{Past, new, call}

-- a call that opens no run and makes no act: it changed nothing, or one of these
pub data Change (w v : World) : Type 0 where
  same : v ≡ w → Change w v
  lay_done : (hs : List Have) (s : Stock) → w.is_open ≡ false → laid hs w.files w.pool ≡ Some s → v ≡ stocked w s.files s.pool w.records → Change w v
  load_done : (t : Traced) (p : Pool) → w.is_open ≡ false → puts t.contents w.pool ≡ Some p → length (hints t.contents p t.records w.records) ≤ w.book_places →
      v ≡ stocked w w.files p (hints t.contents p t.records w.records) → Change w v
  audit_done : (k : ℕ) (r : Record) → w.is_open ≡ false → at_place w.records k ≡ Some r → v ≡ stocked w w.files w.pool (set w.records k (judged w.pool r)) → Change w v
  back_done : w.is_open ≡ true → v ≡ put_back w → Change w v
  keep_done : w.is_open ≡ true → w.notes.stop ≡ None → all_ended (lines w) w.entries ≡ true → v ≡ kept w → Change w v

module _ (w v : World) where
  pub lay_change : (hs : List Have) (a : Result (Unit {0}) Refusal) → Lays hs a w v → Change w v
  lay_change hs a d = by w.is_open refl (laid hs w.files w.pool) refl d
    where
      by : (b : Bool) → w.is_open ≡ b → (o : Option Stock) → laid hs w.files w.pool ≡ o → UnlessOpen b a w v (Laid o a w v) → Change w v
      by true i o e d = same d.1
      by false i None e d = same d.1
      by false i (Some s) e d = lay_done hs s i e d.1

  pub load_change : (b : Result Traced Refusal) (a : Result (Unit {0}) Refusal) → Loads b a w v → Change w v
  load_change b a d = by w.is_open refl b d
    where
      placed : (t : Traced) (p : Pool) → w.is_open ≡ false → puts t.contents w.pool ≡ Some p →
          (c : Bool) → leb (length (hints t.contents p t.records w.records)) w.book_places ≡ c → Placed c p (hints t.contents p t.records w.records) a w v → Change w v
      placed t p i e true f d = load_done t p i e (leb-true _ _ f) d.1
      placed t p i e false f d = same d.1

      pooled : (t : Traced) → w.is_open ≡ false → (o : Option Pool) → puts t.contents w.pool ≡ o → Pooled t o a w v → Change w v
      pooled t i None e d = same d.1
      pooled t i (Some p) e d = placed t p i e _ refl d

      by : (c : Bool) → w.is_open ≡ c → (b : Result Traced Refusal) → UnlessOpen c a w v (Loaded b a w v) → Change w v
      by true i b d = same d.1
      by false i (Err r) d = same d.1
      by false i (Ok t) d = pooled t i (puts t.contents w.pool) refl d

  pub audit_change : (k : ℕ) (a : Result Standing Refusal) → Audits k a w v → Change w v
  audit_change k a d = by w.is_open refl (at_place w.records k) refl d
    where
      by : (b : Bool) → w.is_open ≡ b → (o : Option Record) → at_place w.records k ≡ o → UnlessOpen b a w v (Audited k o a w v) → Change w v
      by true i o e d = same d.1
      by false i None e d = same d.1
      by false i (Some r) e d = audit_done k r i e d.1

-- how a close came to its answer
pub data Ending (t : Ticket) (a : Result Closed CloseRefusal) (w v : World) : Type 0 where
  nothing_done : (r : Refusal) → (t ≡ None → w.is_open ≡ false) → a ≡ Err (By r) → v ≡ w → Ending t a w v
  stop_back : (y : Stop) → w.is_open ≡ true → w.notes.stop ≡ Some y → a ≡ Err (Stopped y) → v ≡ put_back w → Ending t a w v
  wish_back : w.is_open ≡ true → a ≡ Ok PutBack → v ≡ put_back w → Ending t a w v
  early_back : w.is_open ≡ true → a ≡ Err (By LinesLeft) → v ≡ put_back w → Ending t a w v
  all_kept : w.is_open ≡ true → w.notes.stop ≡ None → all_ended (lines w) w.entries ≡ true → a ≡ Ok Kept → v ≡ kept w → Ending t a w v

module _ (t : Ticket) (a : Result Closed CloseRefusal) (w v : World) where
  pub ending : (wish : Wish) → Closes t wish a w v → Ending t a w v
  ending wish d = ticket t refl d
    where
      by : w.is_open ≡ true → (o : Option Stop) → w.notes.stop ≡ o → (wish : Wish) (e : Bool) → all_ended (lines w) w.entries ≡ e → ClosesBy (closing_open o wish e) a w v → Ending t a w v
      by i (Some y) j wish e k d = stop_back y i j d.0 d.1
      by i None j Wishes.PutBack e k d = wish_back i d.0 d.1
      by i None j Wishes.Keep false k d = early_back i d.0 d.1
      by i None j Wishes.Keep true k d = all_kept i j k d.0 d.1

      live : (b : Bool) → w.is_open ≡ b → ClosesBy (closing_live b wish w) a w v → Ending t a w v
      live false i d = nothing_done _ (λ _. i) d.0 d.1
      live true i d = by i w.notes.stop refl wish (all_ended (lines w) w.entries) refl d

      ticket : (u : Ticket) → t ≡ u → Closes u wish a w v → Ending t a w v
      ticket (Some r) e d = nothing_done r (λ i. let z : ◌≡◌ {A = ℕ} 0 1 = cc in absurd (omega arith)) d.0 d.1
      ticket None e d = live w.is_open refl d

  pub close_change : Ending t a w v → Change w v
  close_change (nothing_done r n e i) = same i
  close_change (stop_back y o s e i) = back_done o i
  close_change (wish_back o e i) = back_done o i
  close_change (early_back o e i) = back_done o i
  close_change (all_kept o s k e i) = keep_done o s k i

-- A LAW OF OPEN RUNS holds over every past where a begin and each working step bring it about
module _ (P : World → Type 0) where
  open_change : (w v : World) → (w.is_open ≡ true → P w) → Change w v → v.is_open ≡ true → P v
  open_change w v h (same e) = rw e h
  open_change w v h (lay_done hs s c e i) = λ k. absurd (both_ways _ (ap (λ x. x.is_open) i ∙ c) k)
  open_change w v h (load_done t p c e n i) = λ k. absurd (both_ways _ (ap (λ x. x.is_open) i ∙ c) k)
  open_change w v h (audit_done j r c e i) = λ k. absurd (both_ways _ (ap (λ x. x.is_open) i ∙ c) k)
  open_change w v h (back_done c i) = λ k. absurd (both_ways _ (ap (λ x. x.is_open) i) k)
  open_change w v h (keep_done c s a i) = λ k. absurd (both_ways _ (ap (λ x. x.is_open) i) k)

  module _
      (begins : (w : World) (cs : List Command) → begin_refusal cs w ≡ None → length cs ≤ 64 → P (begun cs w))
      (steps : (w : World) → Past w → (v : World) (t : Ticket) (a : Asked) (s : Stepped) → Worked t a s w v → P w → P v)
    where
      open_by : {w : World} (p : Past w) (v : World) (c : Call) → (w.is_open ≡ true → P w) → Does c w v → v.is_open ≡ true → P v
      open_by {w} p v (on_lay hs a) h d = open_change w v h (lay_change w v hs a d)
      open_by {w} p v (on_load t a) h d = open_change w v h (load_change w v t a d)
      open_by {w} p v (on_audit k a) h d = open_change w v h (audit_change w v k a d)
      open_by {w} p v (on_begin cs None) h d = λ _. rw d.2 (begins w cs d.0 d.1)
      open_by {w} p v (on_begin cs (Some r)) h d = open_change w v h (same d.1)
      open_by {w} p v (on_step t a (Ok s)) h d = λ _. steps w p v t a s d (h d.is_open)
      open_by {w} p v (on_step t a (Err r)) h d = open_change w v h (same d.2)
      open_by {w} p v (on_close t wish a) h d = open_change w v h (close_change t a w v (ending t a w v wish d))

      pub open_law : {w : World} → Past w → w.is_open ≡ true → P w
      open_law (new {w} e) = λ i. absurd (both_ways _ e.is_open i)
      open_law (call {w} {v} p c d) = open_by p v c (open_law p) d.does
