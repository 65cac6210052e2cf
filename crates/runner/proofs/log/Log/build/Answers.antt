-- A begin that is refused, one run, or two.
use Rattle.std.proofs.Common.{sym}
use Rattle.runner.proofs.Wholes.{refused_build, built_once, live_again, begun_again, built_twice}
use Rattle.runner.proofs.log.Log.build.Goals as goal

pub returns-in-Some-clause-promise : goal.returns-in-Some-clause-promise
returns-in-Some-clause-promise g c = refused_build _ _ _ _ _ _ c.in-Some.refusal (sym c.in-Some.ensures) c.begin-ticket.ensures.did

pub returns-in_default-stop-clause-promise : goal.returns-in_default-stop-clause-promise
returns-in_default-stop-clause-promise g c =
    let run = c.run_whole-first.ensures.run _ _ (rw (sym c.in_default.ensures) at c.begin-ticket.ensures.did) in
    built_once _ _ _ _ _ _ _ _ _ c.in_default-stop.is run

pub run_whole-second-requires : goal.run_whole-second-requires
run_whole-second-requires g c =
    let run = c.run_whole-first.ensures.run _ _ (rw (sym c.in_default.ensures) at c.begin-ticket.ensures.did) in
    let did = c.begin-again.ensures.did in
    record {
      live = live_again _ _ _ _ _ _ _ _ c.in-Some-stop.stop _ c.in-Some-stop.is run _ _ did;
      begun = begun_again _ _ _ _ _ _ _ _ c.in-Some-stop.stop _ c.in-Some-stop.is run _ _ did;
    }

pub returns-clause-promise : goal.returns-clause-promise
returns-clause-promise g c =
    let run = c.run_whole-first.ensures.run _ _ (rw (sym c.in_default.ensures) at c.begin-ticket.ensures.did) in
    built_twice _ _ _ _ _ _ _ _ c.in-Some-stop.stop _ c.in-Some-stop.is run _ _ _ _ _ _ _ c.begin-again.ensures.did c.run_whole-second.ensures.run c.answer.result c.answer.ensures
