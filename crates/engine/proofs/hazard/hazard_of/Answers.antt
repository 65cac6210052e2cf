-- The kinds that a new entry cannot be of find nothing.
use Rattle.std.proofs.Common.{◌∙◌}
use Rattle.engine.proofs.Meets.{hazard_of_write, hazard_of_read}
use Rattle.engine.proofs.hazard.hazard_of.Goals as goal

pub returns-then-new : goal.returns-then-new
returns-then-new c = c.hazard_of_write.ensures ∙ hazard_of_write c.args.new c.args.entries.now c.if-new.true

pub returns-else-new : goal.returns-else-new
returns-else-new c = c.hazard_by.ensures ∙ hazard_of_read c.args.new c.args.entries.now c.if-new.false
