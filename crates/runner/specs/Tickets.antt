-- What a ticket tells.
use Rattle.std.specs.Prelude.{Option}
use Rattle.model.specs.declared.refusal.Refusal.{Refusal}
use Rattle.runner.specs.declared.ticket.Ticket.{Ticket}

-- why it is blank; none where it is live
abbrev pub why_blank : Ticket → Option Refusal
why_blank t = t.refusal
