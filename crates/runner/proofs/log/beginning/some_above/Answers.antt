-- A file above the number settles the answer, and so does that there is none among the 64.
use Rattle.std.proofs.Common.{ltb, refl, arith}
use Rattle.std.proofs.lemmas.Bool.{lt-ltb, le-ltb}
use Rattle.std.proofs.lemmas.List.Recursion.{or_is}
use Rattle.model.specs.Begin.{some_above}
use Rattle.runner.proofs.log.beginning.some_above.Goals as goal

pub returns : goal.returns
returns g c =
    let n = c.args.number in
    let fs = g.F.FileStore.map c.args.files.now in
    let long = g.met.F.FileStore.long c.args.files.now in
    or_is (some_above n) (ltb n) refl (λ _ _. refl) fs 0 c.is_above.result
    (λ yes. let one = c.is_above.ensures.above yes in (one.0, omega (arith, long, one.1), lt-ltb n _ one.2))
    (λ no k le. le-ltb n _ (c.is_above.ensures.below no k (omega (arith, long, le))))
