-- The records are passed over one after the other.
use Rattle.std.proofs.lemmas.Iterator.Consumers.{nth_from_yields_List, YieldsList-from_first}
use Rattle.model.specs.Records.{said}
use Rattle.trace.specs.Told.{coming, meant}
use Rattle.trace.proofs.file.Trace.record.Goals as goal

pub returns : goal.returns
returns c =
    let all = YieldsList-from_first said coming (meant c.args.self.now).records c.records.ensures in
    let found = nth_from_yields_List c.nth.result c.nth.new.self _ c.nth.ensures.ran all in
    search found
