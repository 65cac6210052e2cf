-- What a begin comes to: a blank ticket with its refusal, or an open run.
use Rattle.std.proofs.Common.{◌≡◌, ◌≤◌, List, length, Some, None, sym}
use Rattle.model.specs.Begin.{Ticket, begin_refusal, begun}
use Rattle.model.specs.Calls.{on_begin}
use Rattle.model.specs.Promise.{Promised}
use Rattle.model.specs.World.{World}
use Rattle.model.specs.declared.command.Command.{Command}
use Rattle.model.specs.declared.refusal.Refusal.{Refusal}
use Rattle.model.proofs.Promises.{promised}

module _ (cs : List Command) (t : Ticket) (w v : World) where
  pub blank : (r : Refusal) → t ≡ Some r → Some r ≡ begin_refusal cs w → v ≡ w → Promised (on_begin cs t) w v
  blank r e refuses is = rw e (promised (record { does = (sym refuses, is) }))

  pub live : t ≡ None → None ≡ begin_refusal cs w → length cs ≤ 64 → v ≡ begun cs w → Promised (on_begin cs t) w v
  live e accepts few is = rw e (promised (record { does = (sym accepts, few, is) }))
