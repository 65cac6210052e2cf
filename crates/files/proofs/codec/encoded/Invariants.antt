-- The files below the counter had their turn.
use Rattle.files.specs.Drafts.{Drafted}
use Rattle.files.proofs.codec.encoded.Given as goal

abbrev pub invariant-loop-file : goal.invariant-loop-file
invariant-loop-file l = Drafted l.draft l.numbers l.file
