-- The element of the front that is changed is one of the list.
use Rattle.std.proofs.Common.{◌<◌, ◌≤◌, length, set, sym, ap, ◌∙◌, arith}
use Rattle.std.proofs.Math.Seq.{take-set-lt}
use Rattle.std.proofs.lemmas.List.{length-take, get_or-take}
use Rattle.lists.specs.Held.{held}
use Rattle.lists.proofs.Alters.{altered_is, altered_past}
use Rattle.lists.proofs.list.Lent.change.Goals as goal

pub returns-then-is_held-clause-held : goal.returns-then-is_held-clause-held
returns-then-is_held-clause-held g c =
    let l = c.args.self.now in
    let f = g.C.Change.changed c.args.change.now in
    let low : c.args.at < l.len = omega (arith, c.if-is_held.true) in
    take-set-lt l.len l.items.now c.args.at c.apply.new.element low
    ∙ ap (set (held l) c.args.at) (c.apply.ensures ∙ ap f (sym (get_or-take l.len l.items.now c.args.at _ low)))
    ∙ altered_is f (held l) c.args.at _

pub returns-else-is_held-clause-held : goal.returns-else-is_held-clause-held
returns-else-is_held-clause-held g c =
    let l = c.args.self.now in
    let past : length (held l) ≤ c.args.at = omega (arith, length-take l.len l.items.now, c.if-is_held.false) in
    altered_past (g.C.Change.changed c.args.change.now) (held l) c.args.at past
