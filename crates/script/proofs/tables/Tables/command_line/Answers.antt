-- A command and its labels.
use Rattle.std.proofs.Common.{◌≡◌, Some, ◌∙◌, rules, arith}
use Rattle.script.proofs.Commands.{with_files}
use Rattle.script.proofs.tables.Tables.command_line.Goals as goal
use Rattle.script.specs.Views.{held}

pub returns : goal.returns
returns c =
    let some : Some c.in_ok-a.field-0 ≡ c.files_of.result = search rules in
    with_files (held c.args.self.now) c.args.kind c.args.args.now c.in_ok-a.field-0 _ (omega (arith, c.if-args-arity.false, c.arity.ensures)) (some ∙ c.files_of.ensures) c.add_command.ensures
