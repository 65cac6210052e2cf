-- One line more gives its record, of at most sixteen reads.
use Rattle.std.proofs.Common.{length, ap, arith}
use Rattle.model.specs.Book.{reads_of}
use Rattle.runner.proofs.Gives.{few_reads}
use Rattle.runner.proofs.log.Log.give_records.Goals as goal

pub recorded-record-requires : goal.recorded-record-requires
recorded-record-requires c =
    let l = c.loop-line.line in
    let e = ap (λ es. length (reads_of l es)) c.as_slice-entries.ensures in
    let h = few_reads l _ (c.args.self.now.few l) in
    omega arith
