-- By the invariant, each starting content fits.
use Rattle.std.proofs.Common.{map, sym, ap}
use Rattle.script.proofs.Facts.{start_fits}
use Rattle.script.proofs.script.Script.starts.Goals as goal
use Rattle.script.specs.Views.{held, start_of}

pub returns-clause-fit : goal.returns-clause-fit
returns-clause-fit c = λ k d h.
    start_fits (held c.args.self.now.tables) c.as_slice.result.now k (ap (map start_of) (sym c.as_slice.ensures.value)) c.args.self.now.starts d h
