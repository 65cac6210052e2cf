-- The laws of counts, as they are proved.
use Rattle.model.proofs.Counts.{lines_counted, each_line_counted}
use Rattle.model.proofs.Plain.{front_build_counted}
use Rattle.model.proofs.counts_stand.Goals as goal

pub returns : goal.returns
returns c = record { run = lines_counted; kept = each_line_counted; front = front_build_counted }
