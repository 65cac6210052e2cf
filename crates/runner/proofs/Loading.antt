-- What loading comes to, over the worlds of the parts.
use Rattle.std.proofs.Common.{◌≡◌, ℕ, true, false, List, Err, Result, refl}
use Rattle.model.specs.Calls.{on_load}
use Rattle.model.specs.Contents.{Pool}
use Rattle.model.specs.Load.{Traced, Loaded}
use Rattle.model.specs.Promise.{Promised}
use Rattle.model.specs.Records.{Record}
use Rattle.model.specs.World.{World, stocked}
use Rattle.model.specs.declared.refusal.Refusal.{Refusal}
use Rattle.model.specs.declared.refusal.Refusal.TheVariants.{RunOpen}
use Rattle.model.proofs.Promises.{promised}
use Rattle.runner.specs.Views.{world_of}
use Rattle.runner.specs.declared.log.Inner.{Inner}
use Rattle.runner.proofs.Unless.{while_open, while_shut}

pub open_now : (b : Result Traced Refusal) (w v : World) → true ≡ w.is_open → v ≡ w → Promised (on_load b (Err RunOpen)) w v
open_now b w v e same = promised (record { does = while_open (Err RunOpen) w v (Loaded b (Err RunOpen) w v) e refl same })

-- the book keeps its places
pub taken : (b : Result Traced Refusal) (a : Result (Unit {0}) Refusal) (fs : List ℕ) (p q : Pool) (i : Inner) (rs ss : List Record) (n m : ℕ) → false ≡ i.run.opened → m ≡ n →
    ((w : World) → w.book_places ≡ n → Loaded b a (stocked w w.files p rs) (stocked w w.files q ss)) → Promised (on_load b a) (world_of fs p i rs n) (world_of fs q i ss m)
taken b a fs p q i rs ss n m shut same loaded = rw same (promised (record { does = while_shut a (world_of fs p i rs n) (world_of fs q i ss n) (Loaded b a (world_of fs p i rs n) (world_of fs q i ss n)) shut (loaded (world_of fs p i rs n) refl) }))
