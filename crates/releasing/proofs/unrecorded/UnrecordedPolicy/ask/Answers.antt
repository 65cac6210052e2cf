-- What the last-run policy answers is the front.
use Rattle.std.proofs.Common.{◌≡◌, refl, rules}
use Rattle.policy.specs.Lines.{has}
use Rattle.policy.specs.Waiting.{waits}
use Rattle.releasing.proofs.Fronts.{last_run_front}
use Rattle.releasing.proofs.unrecorded.UnrecordedPolicy.ask.Goals as goal

pub returns : goal.returns
returns c =
    let self = c.args.self.now in
    let patience = self.policy.patience in
    let line : c.ask.result ≡ c.args.front = last_run_front (waits self.policy.choice) self.waiting (has c.args.among.now) c.args.front patience.limit patience.passes c.ask.result c.ask.ensures.line in
    record { answers = search rules; same = refl; line = line }
