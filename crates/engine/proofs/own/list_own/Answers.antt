-- One more entry is listed if it is one of the line.
use Rattle.std.proofs.Common.{refl, ap, ◌∙◌}
use Rattle.std.proofs.lemmas.List.{take_all}
use Rattle.engine.proofs.Owns.{own_more}
use Rattle.engine.specs.Owns.{own_in}
use Rattle.engine.proofs.own.list_own.Goals as goal

pub loop-entry-init : goal.loop-entry-init
loop-entry-init c = c.requires

pub loop-entry-preserved : goal.loop-entry-preserved
loop-entry-preserved c =
    own_more c.args.line c.loop-entry.entry-index c.args.entries.now _ _ _ c.loop-entry-test.true c.loop-entry.invariant (c.if-not-list_one.ensures refl)

pub returns : goal.returns
returns c = λ e. c.loop-entry.invariant ∙ ap (own_in c.args.line) (take_all c.loop-entry.entry-index c.args.entries.now c.loop-entry-test.false)
