-- Each piece of two bytes is tested.
use Rattle.std.proofs.Common.{rules, tests}
use Rattle.std.proofs.lemmas.Iterator.Search.{all_from_yields_List}
use Rattle.engine.proofs.Lists.{cut_in_twos}
use Rattle.engine.proofs.list.are_files.Goals as goal

pub returns : goal.returns
returns c = all_from_yields_List _ _ _ _ c.all.ensures.ran (cut_in_twos c.args.list.now c.chunks.ensures.rest c.chunks.ensures.size) (λ x b q k. search (rules, tests))
