-- What is told is laid into the first 90,000 bytes of the buffer.
use Rattle.boundary.proofs.Starting.{in_longer}
use Rattle.boundary.proofs.builds.boundary_builds.Goals as goal

pub returns-then-setting-clause-told : goal.returns-then-setting-clause-told
returns-then-setting-clause-told c = λ long. in_longer c.args.out.now long c.build_with.ensures.fits c.build_with.ensures.told

pub returns-else-setting-clause-told : goal.returns-else-setting-clause-told
returns-else-setting-clause-told c = λ long. in_longer c.args.out.now long c.build_with-else-setting.ensures.fits c.build_with-else-setting.ensures.told
