-- By the invariant, each label is short.
use Rattle.std.proofs.Common.{◌≤◌, ℕ, List, length, refl, subst, arith}
use Rattle.script.proofs.Facts.{label_is}
use Rattle.script.proofs.script.Script.label.Goals as goal

pub returns-clause-short : goal.returns-clause-short
returns-clause-short c =
    subst (λ (l : List ℕ). length l ≤ 16)
    (label_is c.args.self.now.tables.labels _ c.get.result c.copied.result _ c.unwrap_or.result c.unwrap_or.ensures c.copied.ensures (c.get.ensures.lookup.4 (omega arith)) refl)
    (c.args.self.now.short _)
