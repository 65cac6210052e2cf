-- What the calls of a chain promise for its last build.
use Rattle.std.specs.Prelude.{◌≡◌, ℕ, List, length, Err, Result}
use Rattle.model.specs.declared.answers.BuildRefusal.{BuildRefusal}
use Rattle.model.specs.declared.answers.BuildRefusal.TheVariants.{Stopped}
use Rattle.model.specs.declared.answers.Built.{Built}
use Rattle.model.specs.declared.command.Command.{Command}
use Rattle.model.specs.declared.run.Stop.{Stop}
use Rattle.model.specs.Build.{Builds}
use Rattle.model.specs.Order.{in_order}
use Rattle.model.specs.Past.{Past}
use Rattle.model.specs.Promise.{EndsAs, FewOf, OwnTrue}
use Rattle.model.specs.World.{World}
use Rattle.output.specs.Writes.{laid}
use Rattle.report.specs.Report.{report_bytes}

-- A build from a world u with a past to a world v, by a policy of patience m with n passes before it and k after it.
-- It ends as script order does from u; where it stops, all is put back; no line starves; v has a past, and true own
-- records.
pub record BuiltOverPast (cs : List Command) (m n : ℕ) (a : Result Built BuildRefusal) (k : ℕ) (u v : World) : Type 0 where
  pub before : Past u
  pub calls : Builds cs m n u a k v
  pub order : EndsAs a v (in_order cs u.files u.pool)
  pub back : (y : Stop) (b : Built) → a ≡ Err (Stopped y b) → (v.files ≡ u.files) × (v.pool ≡ u.pool)
  pub fair : FewOf before calls
  pub after : Past v
  pub own : OwnTrue v.pool v.records

-- The last build of a chain of calls led to a world v, from some world with a past.
pub record LastBuilt (cs : List Command) (m : ℕ) (a : Result Built BuildRefusal) (k : ℕ) (v : World) : Type 0 where
  pub found : World
  pub passes : ℕ
  pub build : BuiltOverPast cs m passes a k found v

-- A buffer begins with the report of such a build and of the world that it led to.
pub record LastReported (labels : List (List ℕ)) (cs : List Command) (m : ℕ) (a : Result Built BuildRefusal) (k : ℕ) (old new : List ℕ) (n : ℕ) : Type 0 where
  pub world : World
  pub last : LastBuilt cs m a k world
  pub bytes : new ≡ laid 0 (report_bytes a labels world.pool world.files) old
  pub len : n ≡ length (report_bytes a labels world.pool world.files)
