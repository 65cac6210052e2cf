-- The first record of the command is the one.
use Rattle.std.proofs.Common.{sym, ap, ◌∙◌}
use Rattle.model.specs.Book.{same_command}
use Rattle.model.specs.Records.{said}
use Rattle.model.proofs.Lists.{position_map}
use Rattle.runner.specs.Places.{place_of}
use Rattle.runner.proofs.book.Book.place_of.Goals as goal

pub returns : goal.returns
returns c =
    let k = c.args.command in
    c.place_of.ensures ∙ sym (position_map (λ r. same_command k r.command) said c.records.result.now) ∙ ap (place_of k) c.records.ensures
