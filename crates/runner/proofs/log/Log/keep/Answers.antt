-- The entries and the notes stay, so what is always so of them does too.
use Rattle.runner.proofs.Gives.{same_closed}
use Rattle.runner.proofs.log.Log.keep.Goals as goal

pub returns : goal.returns
returns c = λ fs p. same_closed fs p c.args.self.now.inner _ _ _ _ (c.give_records.ensures.records fs p) c.give_records.ensures.places
