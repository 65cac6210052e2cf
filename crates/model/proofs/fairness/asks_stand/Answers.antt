-- The bounds on any list of asks.
use Rattle.model.proofs.Asks.{never_longer, always_served}
use Rattle.model.proofs.fairness.asks_stand.Goals as goal

pub returns : goal.returns
returns c = record { bound = λ patience front start end h. never_longer h; count = λ patience front start end h. always_served h }
