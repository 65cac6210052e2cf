-- The label passes each of the three tests.
use Rattle.std.proofs.Common.{is_some, ap, ◌∙◌, arith}
use Rattle.script.proofs.Adds.{label_added}
use Rattle.script.proofs.tables.Tables.add_label.Goals as goal

pub returns : goal.returns
returns c =
    label_added c.args.self.now c.args.number c.args.label _ (omega arith) c.if-not-is_label.ensures c.if-not-is_empty.ensures
    (c.if-is_some.ensures ∙ ap is_some c.file_of.ensures)
