-- The trace file is laid behind its length, where it has room.
use Rattle.std.proofs.Common.{◌∙◌}
use Rattle.pool.specs.Contents.{meant}
use Rattle.runner.specs.Views.{records}
use Rattle.trace_write.specs.Saves.{to_save}
use Rattle.boundary.proofs.Accounting.{trace_told}
use Rattle.boundary.proofs.accounts.write_trace.Goals as goal

pub returns-clause-bytes : goal.returns-clause-bytes
returns-clause-bytes c =
    c.write_four.ensures
    ∙ trace_told (to_save (meant c.args.pool.now) (records c.args.book.now)) c.args.out.now c.save.new.out c.requires.room c.save.ensures.bytes c.save.result c.unwrap_or-len.result c.save.ensures.value c.unwrap_or-len.ensures
