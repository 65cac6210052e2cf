-- The steps to the end and the close are a whole run.
use Rattle.runner.proofs.Going.{counted_few}
use Rattle.runner.proofs.Wholes.{whole_run}
use Rattle.runner.proofs.log.Log.run_whole.Goals as goal

pub returns : goal.returns
returns g c =
    let steps = c.run_to_end-counts.ensures in
    let closed = rw c.requires.live at c.close-end.ensures.call.did in
    record {
      run = λ cs u d. whole_run cs _ _ _ u _ _ _ _ _ c.close-end.result c.stop_told.result d steps.steps steps.over closed c.stop_told.ensures;
      few = counted_few _ _ _ _ _ _ _ c.requires.begun steps.steps;
      same = steps.same;
    }
