-- An element of the front is one of the list.
use Rattle.std.proofs.Common.{arith, rules}
use Rattle.std.proofs.Math.Seq.{take-set-lt}
use Rattle.lists.proofs.list.Lent.replace.Goals as goal

pub returns-then-fits-clause-held : goal.returns-then-fits-clause-held
returns-then-fits-clause-held g c =
    let l = c.args.self.now in
    let e = take-set-lt l.len l.items.now c.args.at c.args.x (omega (arith, c.if-fits.true)) in
    search rules
