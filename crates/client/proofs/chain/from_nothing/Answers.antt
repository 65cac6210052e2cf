-- The parts that are made have no past; the chain goes on from there.
use Rattle.std.proofs.Common.{ap, ◌∙◌}
use Rattle.files.specs.Tables.{numbers_of}
use Rattle.model.specs.Past.{new}
use Rattle.pool.specs.Contents.{meant}
use Rattle.runner.specs.Views.{world}
use Rattle.client.proofs.chain.from_nothing.Goals as goal

pub returns-clause-reported : goal.returns-clause-reported
returns-clause-reported g c =
    let left = c.chain-answers.new in
    let told = rw c.told-out at c.report.ensures.answer in
    let is = c.unwrap-len.ensures in
    record {
      world = world (numbers_of left.files.files) (meant left.pool) left.log left.book;
      last = c.chain-answers.ensures (new (record {
        files = ap numbers_of c.new-files.ensures.files ∙ c.new.ensures;
        pool = ap (λ p. p.contents) c.new-pool.ensures;
        entries = c.new-log.ensures.entries;
        is_open = c.new-log.ensures.shut;
        records = c.new-book.ensures.records;
      }));
      bytes = rw c.told-out at c.report.ensures.bytes;
      len = cc;
    }
