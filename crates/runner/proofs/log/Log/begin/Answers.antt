-- The refusal that was found makes the ticket blank; else the run is opened.
use Rattle.std.proofs.Common.{refl}
use Rattle.pool.specs.Contents.{meant}
use Rattle.script.specs.Scripts.{meaning}
use Rattle.runner.specs.Views.{records, places}
use Rattle.runner.proofs.Begins.{blank, live}
use Rattle.runner.proofs.log.Log.begin.Goals as goal

pub returns-in-Some : goal.returns-in-Some
returns-in-Some g c = blank (meaning c.args.script.now).commands _ _ _ c.in-Some.refusal c.blank.ensures c.in-Some.ensures refl

pub returns : goal.returns
returns g c =
    let b = c.args.book.now in
    live (meaning c.args.script.now).commands _ _ _ c.live.ensures c.in_default.ensures c.open.ensures.few (c.open.ensures.world (meant c.args.pool.now) (records b) (places b) c.count.ensures.value)
