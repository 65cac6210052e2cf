-- The emptied log with the run that begins.
use Rattle.script.specs.Scripts.{meaning}
use Rattle.runner.specs.declared.log.Inner.{Inner}
use Rattle.runner.proofs.Opens.{kept_open}
use Rattle.runner.proofs.log.Log.open.Goals as goal

pub invariant_of-self : goal.invariant_of-self
invariant_of-self g c =
    let i = c.args.self.now.inner in
    let j : Inner = record { entries = c.clear.new.self; run = c.begun-self.result } in
    let b = c.begun-self.ensures in
    let k = kept_open i j (meaning c.args.script.now).commands (g.F.FileStore.map c.args.files.now) c.args.count c.clear.ensures.held c.clear.ensures.room b.notes b.few c.requires b.lines in
    record { roomy = k.roomy; inside = k.inside; few = k.few; follows = k.follows }
