-- A read that met no hazard: what the line wants then tells whether its list is bad.
use Rattle.std.proofs.Common.{ap, ◌∙◌}
use Rattle.lists.specs.Held.{held}
use Rattle.model.specs.Contents.{known}
use Rattle.pool.specs.Contents.{meant}
use Rattle.engine.proofs.Turns.{unmet, read_bad, read_goes}
use Rattle.engine.proofs.acting.read.Goals as goal

pub returns-in-Bad-clause-outcome : goal.returns-in-Bad-clause-outcome
returns-in-Bad-clause-outcome g c =
    let p = meant c.args.pool.now in
    read_bad c.args.command c.args.line c.args.file c.known-number.result (g.F.FileStore.map c.args.files.now) p (held c.args.entries.now) (held c.note.new.entries) c.as_slice.result.now
    (c.known-number.ensures ∙ ap (known p) c.tell.ensures) (unmet c.args.line _ _ c.in_ok-note.ensures.hazard) c.note.ensures.held c.as_slice.ensures c.if-number-eq0.false c.in-Bad.ensures

pub returns-in_default : goal.returns-in_default
returns-in_default g c =
    let p = meant c.args.pool.now in
    record {
      outcome =
          read_goes c.args.command c.args.line c.args.file c.known-number.result (g.F.FileStore.map c.args.files.now) p (held c.args.entries.now) (held c.note.new.entries) c.as_slice.result.now
          (c.known-number.ensures ∙ ap (known p) c.tell.ensures) (unmet c.args.line _ _ c.in_ok-note.ensures.hazard) c.note.ensures.held c.as_slice.ensures c.if-number-eq0.false c.next_in.result c.in_default.not-Bad c.next_in.ensures;
      room = c.note.ensures.room;
    }
