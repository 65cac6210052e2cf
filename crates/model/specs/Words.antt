-- The words of the library and of the code that these pages use.
pub use Rattle.std.specs.Prelude.{Bool, true, false, cond, not, List, [], map, ℕ, zero, suc, eqb, leb, ltb, length, get_or, set, replicate, drop}
pub use Rattle.std.specs.Str.{bytes_eq}
pub use Rattle.std.specs.declared.option.Option.{Option}
pub use Rattle.std.specs.declared.option.Option.TheVariants.{Some, None}
pub use Rattle.std.specs.declared.result.Result.{Result}
pub use Rattle.std.specs.declared.result.Result.TheVariants.{Ok, Err}
pub use Rattle.model.specs.declared.command.Kind.{Kind}
pub use Rattle.model.specs.declared.command.Command.{Command}
pub use Rattle.model.specs.declared.refusal.Refusal.{Refusal}
pub use Rattle.model.specs.declared.run.Entry.{Entry}
pub use Rattle.model.specs.declared.run.HazardKind.{HazardKind}
pub use Rattle.model.specs.declared.run.Fault.{Fault}
pub use Rattle.model.specs.declared.run.Stop.{Stop}
pub use Rattle.model.specs.declared.run.LineState.{LineState}
pub use Rattle.model.specs.declared.record.Standing.{Standing}
pub use Rattle.model.specs.declared.answers.Stepped.{Stepped}
pub use Rattle.model.specs.declared.answers.StepRefusal.{StepRefusal}
pub use Rattle.model.specs.declared.answers.Wish.{Wish}
pub use Rattle.model.specs.declared.answers.Closed.{Closed}
pub use Rattle.model.specs.declared.answers.CloseRefusal.{CloseRefusal}
pub use Rattle.model.specs.declared.answers.Built.{Built}
pub use Rattle.model.specs.declared.answers.BuildRefusal.{BuildRefusal}
