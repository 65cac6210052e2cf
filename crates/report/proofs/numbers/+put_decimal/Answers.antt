-- A number below ten is one digit; any other is its tenth, and then its last digit.
use Rattle.std.proofs.Common.{◌+◌, ◌/◌, ◌%◌, [], ◌∷◌, length, decimal, sym, ap, ◌∙◌, arith}
use Rattle.std.proofs.lemmas.Fmt.{decimal_digit, decimal_step}
use Rattle.std.proofs.lemmas.List.{length-append}
use Rattle.output.proofs.Steps.{then, as_bytes}
use Rattle.report.proofs.numbers.+put_decimal.Goals as goal

pub put_byte-requires : goal.put_byte-requires
put_byte-requires t c = let one = ap length (decimal_digit c.args.n (omega arith)) in omega arith

pub returns-then-n-lt10 : goal.returns-then-n-lt10
returns-then-n-lt10 t c = as_bytes (decimal c.args.n) (sym (decimal_digit c.args.n (omega arith))) c.put_byte.ensures

pub put_decimal-requires : goal.put_decimal-requires
put_decimal-requires t c =
    let n = c.args.n in
    let e = ap length (decimal_step n (omega arith) (omega arith)) ∙ length-append (decimal (n / 10)) ((48 + n % 10) ∷ []) in
    (omega arith, omega arith)

pub put_byte-requires-else-n-lt10 : goal.put_byte-requires-else-n-lt10
put_byte-requires-else-n-lt10 t c =
    let n = c.args.n in
    let e = ap length (decimal_step n (omega arith) (omega arith)) ∙ length-append (decimal (n / 10)) ((48 + n % 10) ∷ []) in
    omega arith

pub returns-else-n-lt10 : goal.returns-else-n-lt10
returns-else-n-lt10 t c = as_bytes (decimal c.args.n) (sym (decimal_step c.args.n (omega arith) (omega arith))) (then c.put_decimal.ensures c.put_byte-else-n-lt10.ensures)
