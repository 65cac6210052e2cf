-- The law of line states, as it is proved.
use Rattle.model.proofs.States.{states_follow}
use Rattle.model.proofs.states_stand.Goals as goal

pub returns : goal.returns
returns c = states_follow
