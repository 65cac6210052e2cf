-- A tenth of a number of two digits is less.
use Rattle.report.proofs.numbers.+put_decimal.Given as goal

abbrev pub decreases-put_decimal : goal.decreases-put_decimal
decreases-put_decimal l = l.n
