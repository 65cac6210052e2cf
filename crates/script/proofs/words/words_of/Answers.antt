-- The words taken so far and those that are left are all the words.
use Rattle.std.proofs.Common.{sym, ◌∙◌}
use Rattle.std.proofs.lemmas.Bool.{eqb-true}
use Rattle.script.proofs.Splits.{six}
use Rattle.script.proofs.words.words_of.Goals as goal

pub returns-after-loop-at : goal.returns-after-loop-at
returns-after-loop-at c =
    six c.args.line.now c.loop-at.words.items c.loop-at.at c.loop-at.invariant (eqb-true _ 6 (sym c.is_full.ensures.value ∙ c.loop-at-test.false))
