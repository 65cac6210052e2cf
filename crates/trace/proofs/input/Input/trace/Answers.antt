-- The answer follows from those of the sections.
use Rattle.trace.proofs.Whole.{good_end}
use Rattle.trace.proofs.input.Input.trace.Goals as goal
use Rattle.trace.specs.Told.{left, listed}

pub returns : goal.returns
returns c =
    let cs = c.in_ok-contents.contents in
    let e = c.in_ok-contents.ensures in
    good_end (left c.args.self.now) (listed cs) cs.count (left c.contents.new.self) e.value e.count
    c.in_ok-records.records (left c.count.new.self) c.in_ok-records.ensures.value
    c.in_ok-high.high (left c.records.new.self) c.in_ok-high.ensures c.in_ok-at_end.ensures
