-- A word that is short enough is tested byte by byte.
use Rattle.std.proofs.Common.{◌&&◌, rules, tests, sym, ap, ◌∙◌, arith}
use Rattle.std.proofs.lemmas.Bool.{le-leb}
use Rattle.std.proofs.lemmas.Iterator.{YieldsList-from_slice}
use Rattle.std.proofs.lemmas.Iterator.Search.{all_from_yields_List}
use Rattle.std.specs.List.{list_all}
use Rattle.script.proofs.label.is_label.Goals as goal
use Rattle.script.specs.Text.{label_byte}

pub returns-then-word-le-LONGEST : goal.returns-then-word-le-LONGEST
returns-then-word-le-LONGEST c =
    let w = c.args.word.now in
    all_from_yields_List label_byte _ _ c.all.result c.all.ensures.ran (YieldsList-from_slice w cc) (λ x b q k. search (rules, tests))
    ∙ sym (ap (λ b. b && list_all label_byte w) (le-leb _ 16 (omega arith)))
