-- The parts that are made have no past; what is told is what the releases from there led to.
use Rattle.std.proofs.Common.{length, ap, ◌∙◌}
use Rattle.model.specs.Past.{new}
use Rattle.model.specs.World.{Fresh}
use Rattle.output.specs.Writes.{laid}
use Rattle.pool.specs.Contents.{meant}
use Rattle.runner.specs.Views.{world}
use Rattle.script.specs.Scripts.{meaning}
use Rattle.boundary.specs.Accounts.{account}
use Rattle.boundary.proofs.builds.build_in.Goals as goal

pub returns-clause-told : goal.returns-clause-told
returns-clause-told g c =
    let map = g.F.FileStore.map in
    let out = c.args.out.now in
    let all = c.release_all-outcome in
    let a = all.result in
    let u = world (map c.args.files) (meant c.new-pool.result) c.new-log.result c.new-book.result in
    let v = world (map all.new.files) (meant all.new.pool) all.new.log all.new.book in
    let fresh : Fresh u = record {
      files = c.requires.absent;
      pool = ap (λ p. p.contents) c.new-pool.ensures;
      entries = c.new-log.ensures.entries;
      is_open = c.new-log.ensures.shut;
      records = c.new-book.ensures.records;
    } in
    let labels = (meaning all.new.script).labels in
    record {
      start = u;
      starts = record { fresh = fresh; pool = c.new-pool.ensures; log_places = c.new-log.ensures.room; book_places = c.new-book.ensures.places };
      accounted = record {
        answer = a;
        world = v;
        chained = all.ensures.chained (new fresh);
        bytes = c.write_account.ensures.bytes
            ∙ ap (λ n. laid 0 (account n labels a v) out) c.requires.room
            ∙ ap (λ ls. laid 0 (account 90000 ls a v) out) all.ensures.labels;
        len = c.write_account.ensures.value
            ∙ ap (λ n. length (account n labels a v)) c.requires.room
            ∙ ap (λ ls. length (account 90000 ls a v)) all.ensures.labels;
      };
    }
