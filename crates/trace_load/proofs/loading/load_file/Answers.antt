-- The bytes are refused, or the pool, or the book; or all is taken.
use Rattle.std.proofs.Common.{map}
use Rattle.lists.specs.Held.{held, room}
use Rattle.model.specs.Records.{said}
use Rattle.pool.specs.Contents.{meant}
use Rattle.trace.specs.Format.{decoded}
use Rattle.trace.specs.Told as told
use Rattle.trace_load.proofs.Loads.{book_full}
use Rattle.trace_load.proofs.loading.load_file.Goals as goal

pub returns-in-Err-clause-loaded : goal.returns-in-Err-clause-loaded
returns-in-Err-clause-loaded c =
    let b = c.args.book.now in
    let put = c.in_ok-put_contents.ensures in
    let taken = c.in-Err.ensures in
    λ w n. book_full (decoded c.args.bytes.now) (meant c.args.pool.now) (map said (held b)) (room b) w n (told.meant c.in_ok-trace.trace) c.in_ok-trace.ensures.value (meant c.put_contents.new.pool) put.value put.after
    c.in-Err.refusal c.count-count.result (meant c.cut.new.self) (map said (held c.take_hints.new.book)) c.count-count.ensures.value c.cut.ensures taken.value taken.held
