-- The table tells the place of a number that is listed; one that is not has the place past the last.
use Rattle.std.proofs.Common.{◌+◌, length, sym, ap, ◌∙◌, arith}
use Rattle.trace_write.proofs.Listed.{place_new, low_listed}
use Rattle.trace_write.proofs.order.Order.place.Goals as goal

pub returns-in-0-clause-value : goal.returns-in-0-clause-value
returns-in-0-clause-value c =
    let ns = c.args.self.now.numbers.items in
    ap (λ xs. length xs + 1) c.numbers.ensures.value ∙ place_new c.args.number ns (sym c.listed.ensures.value ∙ c.in-0.is)

pub returns-in_default-clause-within : goal.returns-in_default-clause-within
returns-in_default-clause-within c =
    let ns = c.args.self.now.numbers.items in
    omega (arith, c.listed.ensures.value, low_listed c.args.number ns, ap length c.numbers.ensures.value, c.numbers.ensures.few)
