-- By the invariant, each starting content fits.
use Rattle.std.proofs.Common.{IfSome, map, sym, ap, subst, ◌<◌, ◌≤◌, length}
use Rattle.script.proofs.Facts.{have_fits}
use Rattle.script.proofs.script.Script.have.Goals as goal
use Rattle.script.specs.Views.{held, start_of}

pub returns-clause-fits : goal.returns-clause-fits
returns-clause-fits c =
    let h = c.get.ensures.lookup in
    subst (λ o. IfSome o (λ x. (x.file < 64) × (length x.content.now ≤ 4096))) (sym c.copied.ensures)
    (have_fits (held c.args.self.now.tables) c.deref.result.now _ (ap (map start_of) (sym c.deref.ensures.0)) c.args.self.now.starts c.get.result h.0 h.1)
