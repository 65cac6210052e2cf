-- The line's own entries tell its next act.
use Rattle.std.proofs.Common.{sym, refl, ap, ◌∙◌}
use Rattle.model.specs.Commands.{want}
use Rattle.model.specs.Hazards.{has_read}
use Rattle.pool.specs.Contents.{meant}
use Rattle.engine.specs.Nexts.{wanted}
use Rattle.engine.proofs.Owns.{own_read, own_wanted}
use Rattle.engine.proofs.next.next_in.Goals as goal

pub returns-then-list_own : goal.returns-then-list_own
returns-then-list_own c =
    let k = c.args.command in
    let l = c.args.line in
    let es = c.args.entries.now in
    let p = meant c.args.pool.now in
    let listed = c.as_slice-entries.ensures ∙ c.if-list_own.ensures refl in
    sym (ap (λ own. wanted p l own c.next_of.result) listed ∙ own_wanted l es p c.next_of.result)
    ∙ c.next_of.ensures
    ∙ ap (λ own. want k (has_read p l own)) listed
    ∙ ap (want k) (own_read l es p)
