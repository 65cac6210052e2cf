-- Lay, load and audit: refused while a run is open, and else as their pages say.
use Rattle.std.proofs.Common.{◌≡◌, true, false, Err, Result, subst}
use Rattle.model.specs.World.{World, UnlessOpen}
use Rattle.model.specs.declared.refusal.Refusal.{Refusal}
use Rattle.model.specs.declared.refusal.Refusal.TheVariants.{RunOpen}

module _ {A : Type 0} (a : Result A Refusal) (w v : World) (d : Type 0) where
  pub while_open : true ≡ w.is_open → a ≡ Err RunOpen → v ≡ w → UnlessOpen w.is_open a w v d
  while_open e r same = subst (λ b. UnlessOpen b a w v d) e (r, same)

  pub while_shut : false ≡ w.is_open → d → UnlessOpen w.is_open a w v d
  while_shut e done = subst (λ b. UnlessOpen b a w v d) e done
