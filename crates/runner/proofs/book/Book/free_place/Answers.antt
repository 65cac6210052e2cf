-- The first record whose command is not in the script is the one.
use Rattle.std.proofs.Common.{not, sym, ap, ◌∙◌}
use Rattle.model.specs.Book.{in_script}
use Rattle.model.specs.Records.{said}
use Rattle.model.proofs.Lists.{position_map}
use Rattle.runner.specs.Places.{free_place}
use Rattle.runner.proofs.book.Book.free_place.Goals as goal

pub returns : goal.returns
returns c =
    let cs = c.args.commands.now in
    c.first_free.ensures ∙ sym (position_map (λ r. not (in_script r.command cs)) said c.records.result.now) ∙ ap (free_place cs) c.records.ensures
