-- A run that was just begun, the steps that it has made since, and its end.
use Rattle.std.specs.Prelude.{◌≡◌, ℕ, true, List, Some, None, Ok, Err, Option, Result}
use Rattle.model.specs.Build.{Steps, executed, skipped, Whole}
use Rattle.model.specs.Calls.{Did, on_begin}
use Rattle.model.specs.Step.{all_ended}
use Rattle.model.specs.World.{World, lines}
use Rattle.model.specs.declared.answers.Closed.{Closed}
use Rattle.model.specs.declared.answers.CloseRefusal.{CloseRefusal}
use Rattle.model.specs.declared.answers.CloseRefusal.TheVariants.{By, Stopped}
use Rattle.model.specs.declared.command.Command.{Command}
use Rattle.model.specs.declared.run.Stop.{Stop}

-- a begin that was accepted led to this world
pub record Begun (w : World) : Type 0 where
  pub found : World
  pub commands : List Command
  pub begin : Did (on_begin commands None) found w

-- Working steps that ask one policy of patience m, whose passes are n at first and k at the end; they executed e lines and skipped s.
pub record Counted (m n : ℕ) (u : World) (k : ℕ) (v : World) (e s : ℕ) : Type 0 where
  pub steps : Steps m n u k v
  pub executes : executed steps ≡ e
  pub skips : skipped steps ≡ s

-- an open run that has stopped, or whose lines have all ended
pub record Over (w : World) : Type 0 where
  pub is_open : w.is_open ≡ true
  pub all : w.notes.stop ≡ None → all_ended (lines w) w.entries ≡ true

-- A whole run, from the world that its begin found to the one that its close left: its policy's passes are k at the end, and it executed e lines and skipped s.
pub record WholeRun (cs : List Command) (m n : ℕ) (y : Option Stop) (u : World) (k : ℕ) (v : World) (e s : ℕ) : Type 0 where
  pub run : Whole cs m n y u v
  pub passes : run.passes ≡ k
  pub executes : executed run.steps ≡ e
  pub skips : skipped run.steps ≡ s

-- the stop that a close told
abbrev pub stop_told : Result Closed CloseRefusal → Option Stop
stop_told (Ok c) = None
stop_told (Err (By r)) = None
stop_told (Err (Stopped y)) = Some y
