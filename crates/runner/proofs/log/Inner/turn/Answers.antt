-- The state that is set is the one that the run notes of that line.
use Rattle.pool.specs.Contents.{meant}
use Rattle.runner.proofs.Lines.{turned}
use Rattle.runner.proofs.log.Inner.turn.Goals as goal

pub returns-clause-notes : goal.returns-clause-notes
returns-clause-notes c = λ fs.
    turned c.args.self.now.run c.args.line c.args.stop (meant c.args.pool.now) _ _ c.as_slice.ensures _ _ c.requires c.line_state-state.ensures
