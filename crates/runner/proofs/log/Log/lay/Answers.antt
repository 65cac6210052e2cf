-- Refused while a run is open; else the starting contents are laid, all or none.
use Rattle.std.proofs.Common.{refl}
use Rattle.runner.proofs.Laying.{open_now, done}
use Rattle.runner.proofs.log.Log.lay.Goals as goal

pub returns-then-is_open : goal.returns-then-is_open
returns-then-is_open g c = λ rs n. open_now _ _ _ c.if-is_open.ensures refl

pub returns : goal.returns
returns g c = λ rs n.
    let starts = c.put_starts.ensures in
    done _ c.put_starts.result _ _ _ _ c.args.self.now.inner rs n c.if-is_open.ensures starts.value starts.files starts.pool
