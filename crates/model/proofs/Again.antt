-- A run that stopped can be begun again: what its begin tested is the same after it is put back. Assumes nothing.
use Rattle.std.proofs.Common.{◌≡◌, ℕ, ◌≤◌, List, None, refl, arith}
use Rattle.std.proofs.lemmas.List.{length-take-le}
use Rattle.model.specs.declared.command.Command.{Command}
use Rattle.model.specs.Contents.{Content, Pool, count, put}
use Rattle.model.specs.World.{World}
use Rattle.model.specs.Calls.{on_begin, Did}
use Rattle.model.specs.Build.{Steps, no_step, a_step}
use Rattle.model.specs.Promise.{BeginsAgain, BeginsAnywhere}
use Rattle.model.proofs.Pools.{grows_put}
use Rattle.model.proofs.Growth.{work_pool}
use Rattle.model.proofs.Sound.{ready}
use Rattle.model.proofs.Building.{whole_backs}

-- of a run begun in u, what its steps leave as begin noted it, and that the pool is no smaller
record Stays (u v : World) : Type 0 where
  files : v.notes.files ≡ u.files
  count_is : v.notes.count ≡ count u.pool
  grown : count u.pool ≤ count v.pool
  log_places : v.log_places ≡ u.log_places
  book_places : v.book_places ≡ u.book_places

module _ {cs : List Command} {u x : World} (d : Did (on_begin cs None) u x) where
  stays : {m n k : ℕ} {v : World} → Steps m n x k v → Stays u v
  stays no_step = rw d.does.2 (record { files = refl; count_is = refl; grown = omega arith; log_places = refl; book_places = refl })
  stays (a_step {v = v} h j s e) =
      let b = stays h in
      let more : (p : Pool) (y : Content) → count u.pool ≤ count p → count u.pool ≤ count (put p y) = λ p y i. omega (arith, (grows_put p y).more) in
      rw e.does.world (record {
        files = b.files;
        count_is = b.count_is;
        grown = work_pool (λ p. count u.pool ≤ count p) more v s.line b.grown;
        log_places = b.log_places;
        book_places = b.book_places;
      })

pub begins_anywhere : BeginsAnywhere
begins_anywhere u v cs m n y r =
    let b = stays r.begin r.steps in
    let was = r.begin.does.0 in
    rw ((whole_backs y r).world, b.files, b.count_is, length-take-le (count u.pool) r.last.pool.contents b.grown, b.log_places, b.book_places) (rw (ready cs u was).none_open at was)

pub begins_again : BeginsAgain
begins_again u v p cs m n y r = begins_anywhere u v cs m n y r
