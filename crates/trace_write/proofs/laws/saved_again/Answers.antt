-- What is taken from the file is the file's own trace again.
use Rattle.trace_write.proofs.Rounds.{saved_again}
use Rattle.trace_write.proofs.laws.saved_again.Goals as goal

pub returns : goal.returns
returns c = saved_again
