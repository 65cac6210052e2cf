-- The world that a release begins with.
use Rattle.std.specs.Prelude.{◌≡◌}
use Rattle.model.specs.World.{World, Fresh}
use Rattle.releasing.specs.Printed.{empty_pool}

-- nothing of a past, and the lent memory
pub record AtStart (w : World) : Type 0 where
  pub fresh : Fresh w
  pub pool : w.pool ≡ empty_pool
  pub log_places : w.log_places ≡ 1088
  pub book_places : w.book_places ≡ 256
