-- The line's own entries tell its state.
use Rattle.std.proofs.Common.{refl, ap, ◌∙◌}
use Rattle.model.specs.Acts.{line_state}
use Rattle.model.specs.Commands.{want}
use Rattle.pool.specs.Contents.{meant}
use Rattle.engine.proofs.Owns.{own_state}
use Rattle.engine.proofs.line.line_state.Goals as goal

pub returns-in-Listed : goal.returns-in-Listed
returns-in-Listed c =
    let k = want c.args.command in
    let p = meant c.args.pool.now in
    c.state_of.ensures
    ∙ ap (line_state k c.args.line p) (c.as_slice-entries.ensures ∙ c.in-Listed.ensures.listed refl)
    ∙ own_state c.args.line c.args.entries.now k p
