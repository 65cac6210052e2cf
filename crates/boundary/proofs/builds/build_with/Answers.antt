-- As much is lent as the setting says.
use Rattle.std.proofs.Common.{length, refl}
use Rattle.boundary.proofs.Starting.{same_pool, in_part, lent_is, used_is}
use Rattle.boundary.proofs.builds.build_with.Goals as goal

pub returns-clause-told : goal.returns-clause-told
returns-clause-told g c =
    let s = c.args.setting.now in
    in_part
    (same_pool _ s.places (length c.args.bytes.now) (used_is c.min.result s.places 1024 _ refl c.min.ensures))
    (lent_is c.min-2.result s.log 1088 _ refl c.min-2.ensures)
    (used_is c.min-3.result s.book 256 _ refl c.min-3.ensures)
    c.build_in.ensures.told
