-- What is saved is lawful, so it is read back.
use Rattle.trace_write.proofs.Lawfuls.{saved_back}
use Rattle.trace_write.proofs.laws.saved_accepted.Goals as goal

pub returns : goal.returns
returns c p rs sound = saved_back p sound rs
