-- With each call the past goes on, and the patience stays.
use Rattle.std.proofs.Common.{◌∙◌}
use Rattle.client.proofs.chain.run_and_put_back.Goals as goal

pub returns-clause-past : goal.returns-clause-past
returns-clause-past g c = λ past.
    let begun = c.begin-ticket.ensures.past past in
    let first = c.step-first.ensures.promise.call.past begun in
    let second = c.step-second.ensures.promise.call.past first in
    let third = c.step-third.ensures.promise.call.past second in
    c.close-closed.ensures.call.past third

pub returns-clause-same : goal.returns-clause-same
returns-clause-same g c = c.step-third.ensures.same ∙ c.step-second.ensures.same ∙ c.step-first.ensures.same
