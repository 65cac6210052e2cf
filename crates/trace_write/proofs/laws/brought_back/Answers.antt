-- What is saved and taken again says what was saved.
use Rattle.trace_write.proofs.Brings.{brought_back}
use Rattle.trace_write.proofs.laws.brought_back.Goals as goal

pub returns : goal.returns
returns c = brought_back
