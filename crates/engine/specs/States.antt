-- The parts of a run as one, and what an act comes to.
use Rattle.std.specs.Prelude.{ℕ, List, [], Some, None, Option, Ok, Err, Result}
use Rattle.lists.specs.Held.{held}
use Rattle.lists.specs.declared.list.Lent.{Lent}
use Rattle.model.specs.declared.run.Entry.{Entry}
use Rattle.model.specs.declared.run.Fault.TheVariants.{Hazard}
use Rattle.model.specs.declared.run.Hazard as Met
use Rattle.model.specs.declared.run.Stop.{Stop}
use Rattle.model.specs.Acts.{State, Outcome, goes, stops, stop_at, attempt}
use Rattle.model.specs.Commands.{writes, bad}
use Rattle.model.specs.Contents.{Content}
use Rattle.pool.specs.Contents.{meant}
use Rattle.pool.specs.declared.holder.Pool.{Pool}

abbrev pub state : List ℕ → Pool → Lent Entry → State
state fs p es = record { files = fs; pool = meant p; entries = held es }

-- where an act came to, by its answer
abbrev pub outcome : Result (Unit {0}) Stop → State → Outcome
outcome (Ok x) s = goes s
outcome (Err y) s = stops s y

-- what a line comes to by the hazard that its act met
abbrev pub met : ℕ → Option Met.Hazard → Result (Unit {0}) Stop
met l None = Ok tt
met l (Some h) = Err (stop_at l (Hazard h))

-- a line's write, whatever it read
abbrev pub writes_out : ℕ → State → ℕ → Content → Outcome
writes_out l s f x = attempt (λ xs. bad) l s [] (writes f x)
