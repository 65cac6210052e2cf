-- Refused while a run is open; else the file is taken, all or nothing.
use Rattle.std.proofs.Common.{◌<◌, [], refl, arith}
use Rattle.std.proofs.ByRecursion.{All-from_get_or}
use Rattle.pool.specs.Contents.{meant}
use Rattle.trace.specs.Laws.{Bytes}
use Rattle.trace_write.proofs.Trips.{round_trip}
use Rattle.runner.specs.Views.{records, places, world_of}
use Rattle.runner.proofs.Loading.{open_now, taken}
use Rattle.runner.proofs.book.Book.load.Goals as goal

pub returns-then-is_open-clause-promise : goal.returns-then-is_open-clause-promise
returns-then-is_open-clause-promise c = λ fs. open_now _ _ _ c.if-is_open.ensures refl

pub returns : goal.returns
returns c =
    let loaded = c.load_file.ensures in
    let bs = c.args.bytes.now in
    let b = c.args.self.now in
    let typed : Bytes bs = All-from_get_or (λ b. b < 256) bs 0 (λ i h. omega (arith, c.type_inv.bytes i)) in
    record {
      promise = λ fs. taken _ c.load_file.result fs _ _ c.args.log.now.inner _ _ _ _ c.if-is_open.ensures loaded.room loaded.loaded;
      trip = λ ok empty none. round_trip bs c.load_file.result _ _ typed (loaded.loaded (world_of [] (meant c.args.pool.now) c.args.log.now.inner (records b) (places b)) refl) ok empty none;
    }
