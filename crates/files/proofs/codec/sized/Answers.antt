-- Bytes of another length are no layout.
use Rattle.std.proofs.Common.{length, ap, ◌∙◌, rules}
use Rattle.files.proofs.Layouts.{layout_length}
use Rattle.files.proofs.codec.sized.Goals as goal

pub returns-clause-none : goal.returns-clause-none
returns-clause-none c = λ no ns is e. (let long = ap length e ∙ layout_length ns is.long in search rules)
