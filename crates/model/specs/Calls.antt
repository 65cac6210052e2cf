-- The calls that change the world, each with what it was given and what it answered. A build is made of these.
use Rattle.model.specs.Words.{List, ℕ, Result, Command, Refusal, Standing, Stepped, StepRefusal, Wish, Closed, CloseRefusal}
use Rattle.model.specs.Policies.{Asked}
use Rattle.model.specs.World.{World}
use Rattle.model.specs.Lay.{Have, Lays}
use Rattle.model.specs.Load.{Traced, Loads}
use Rattle.model.specs.Audit.{Audits}
use Rattle.model.specs.Begin.{Ticket, Begins}
use Rattle.model.specs.Step.{StepsOn}
use Rattle.model.specs.Close.{Closes}

pub data Call : Type 0 where
  on_lay : List Have → Result (Unit {0}) Refusal → Call
  on_load : Result Traced Refusal → Result (Unit {0}) Refusal → Call  -- what the bytes mean, and the answer
  on_audit : ℕ → Result Standing Refusal → Call
  on_begin : List Command → Ticket → Call
  on_step : Ticket → Asked → Result Stepped StepRefusal → Call
  on_close : Ticket → Wish → Result Closed CloseRefusal → Call

-- from the world before to the world after
abbrev pub Does : Call → World → World → Type 0
Does (on_lay hs a) w v = Lays hs a w v
Does (on_load b a) w v = Loads b a w v
Does (on_audit k a) w v = Audits k a w v
Does (on_begin cs t) w v = Begins cs t w v
Does (on_step t q a) w v = StepsOn t q a w v
Does (on_close t wish a) w v = Closes t wish a w v

-- The same as a record, so that a lemma's worlds can be read off its type.
pub record Did (c : Call) (w v : World) : Type 0 where
  pub does : Does c w v
