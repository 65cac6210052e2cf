-- The piece of two bytes at a place.
use Rattle.std.proofs.lemmas.Iterator.Consumers.{nth_from_yields_List}
use Rattle.engine.proofs.Lists.{cut_in_twos}
use Rattle.engine.proofs.list.digits_at.Goals as goal

pub returns : goal.returns
returns c = nth_from_yields_List _ _ _ c.nth.ensures.ran (cut_in_twos c.args.list.now c.chunks.ensures.rest c.chunks.ensures.size)
