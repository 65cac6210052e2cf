-- What a close comes to, by the ticket, the run and the wish.
use Rattle.std.proofs.Common.{◌≡◌, ℕ, Bool, true, false, List, Some, None, Ok, Err, Result, sym, refl, subst}
use Rattle.std.proofs.lemmas.Bool.{both_ways}
use Rattle.model.specs.Begin.{Ticket}
use Rattle.model.specs.Close.{put_back, kept, Closing, nothing, back, keeping, closing, ClosesBy}
use Rattle.model.specs.Promise.{ClosePromised}
use Rattle.model.specs.Step.{left, all_ended}
use Rattle.model.specs.World.{World, lines}
use Rattle.model.specs.declared.answers.Closed.TheVariants as closed
use Rattle.model.specs.declared.answers.Closed.{Closed}
use Rattle.model.specs.declared.answers.CloseRefusal.{CloseRefusal}
use Rattle.model.specs.declared.answers.CloseRefusal.TheVariants.{By, Stopped}
use Rattle.model.specs.declared.answers.Wish.{Wish}
use Rattle.model.specs.declared.answers.Wish.TheVariants.{Keep, PutBack}
use Rattle.model.specs.declared.refusal.Refusal.{Refusal}
use Rattle.model.specs.declared.refusal.Refusal.TheVariants.{LinesLeft, NoRun}
use Rattle.model.specs.declared.run.Entry.{Entry}
use Rattle.model.specs.declared.run.Stop.{Stop}
use Rattle.model.proofs.Promises.{close_promised}
use Rattle.model.proofs.Sound.{all_below, left_parts}

-- a line that is left has not ended, so not all have
some_left : (n : ℕ) (es : List Entry) (f : ℕ) → left n es f ≡ true → all_ended n es ≡ false
some_left n es f h = by (all_ended n es) refl
  where
    by : (b : Bool) → all_ended n es ≡ b → all_ended n es ≡ false
    by false e = e
    by true e = let parts = left_parts n es f h in absurd (both_ways _ parts.1 (all_below n es e f parts.0))

module _ (t : Ticket) (w v : World) where
  by_closing : {wish : Wish} {a : Result Closed CloseRefusal} (k : Closing) → closing t wish w ≡ k → ClosesBy k a w v → ClosePromised t wish a w v
  by_closing {wish} {a} k e h = close_promised (record { does = subst (λ z. ClosesBy z a w v) (sym e) h })

  pub blank : (r : Refusal) (wish : Wish) → t ≡ Some r → v ≡ w → ClosePromised t wish (Err (By r)) w v
  blank r wish e same = by_closing (nothing r) (rw e) (refl, same)

  module _ (live : t ≡ None) where
    pub shut : (wish : Wish) → w.is_open ≡ false → v ≡ w → ClosePromised t wish (Err (By NoRun)) w v
    shut wish e same = by_closing (nothing NoRun) (rw (live, e)) (refl, same)

    module _ (is_open : w.is_open ≡ true) where
      pub stopped : (y : Stop) (wish : Wish) → w.notes.stop ≡ Some y → v ≡ put_back w → ClosePromised t wish (Err (Stopped y)) w v
      stopped y wish e is = by_closing (back (Err (Stopped y))) (rw (live, is_open, e)) (refl, is)

      module _ (going : w.notes.stop ≡ None) where
        pub wished : v ≡ put_back w → ClosePromised t PutBack (Ok closed.PutBack) w v
        wished is = by_closing (back (Ok closed.PutBack)) (rw (live, is_open, going)) (refl, is)

        pub early : (f : ℕ) → left (lines w) w.entries f ≡ true → v ≡ put_back w → ClosePromised t Keep (Err (By LinesLeft)) w v
        early f h is = by_closing (back (Err (By LinesLeft))) (rw (live, is_open, going, some_left (lines w) w.entries f h)) (refl, is)

        pub kept_all : all_ended (lines w) w.entries ≡ true → v ≡ kept w → ClosePromised t Keep (Ok closed.Kept) w v
        kept_all all is = by_closing keeping (rw (live, is_open, going, all)) (refl, is)
