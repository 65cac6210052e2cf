-- By the list: bad, or the next file, or the end.
use Rattle.engine.proofs.Lists.{gather_file, gather_end}
use Rattle.engine.proofs.next.gather_next.Goals as goal

pub returns-in-Some : goal.returns-in-Some
returns-in-Some c = gather_file c.args.to c.args.files c.in-Some.file c.args.list.now c.if-not-is_list.ensures c.in-Some.ensures

pub returns-in-None : goal.returns-in-None
returns-in-None c = gather_end c.args.to c.args.files c.args.list.now c.if-not-is_list.ensures c.in-None.ensures
