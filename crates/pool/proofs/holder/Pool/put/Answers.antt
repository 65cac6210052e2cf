-- What putting answers and leaves where the content is held; else it is no member.
use Rattle.std.proofs.Common.{◌≡◌, sym, ◌∙◌, ap, ltb, arith, rules}
use Rattle.std.proofs.lemmas.Bool.{lt-ltb}
use Rattle.model.specs.Contents.{find}
use Rattle.pool.specs.Contents.{meant}
use Rattle.pool.proofs.Puts.{mem_none, given_known, put_known}
use Rattle.pool.proofs.holder.Pool.put.Goals as goal

pub returns-in-Some : goal.returns-in-Some
returns-in-Some c =
    let p = meant c.args.self.now in
    let x = c.args.content.now in
    let n = c.in-Some.number in
    let is : n ≡ find x p.contents = search rules in
    let some : n ≡ 0 → ⊥ = search rules in
    let given = given_known p x n is some in
    record { number = given; taken = sym (ap (ltb 0) (sym given) ∙ lt-ltb 0 n (omega (arith, some))); after = put_known p x n is some }

pub append-requires-clause-fresh : goal.append-requires-clause-fresh
append-requires-clause-fresh c =
    let p = meant c.args.self.now in
    let none : find c.args.content.now p.contents ≡ 0 = search rules in
    mem_none c.args.content.now p.contents none
