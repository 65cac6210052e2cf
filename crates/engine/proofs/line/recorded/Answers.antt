-- The line's own entries tell its record.
use Rattle.std.proofs.Common.{◌≤◌, length, sym, refl, ap, ◌∙◌, subst}
use Rattle.model.specs.Book.{reads_of, recorded}
use Rattle.engine.proofs.Owns.{own_reads, own_recorded}
use Rattle.engine.proofs.line.recorded.Goals as goal

pub record_of-requires : goal.record_of-requires
record_of-requires c =
    let l = c.args.line in
    let es = c.args.entries.now in
    let listed = c.as_slice-entries.ensures ∙ c.if-list_own.ensures refl in
    subst (λ us. length us ≤ 16) (sym (ap (reads_of l) listed ∙ own_reads l es)) c.requires

pub returns-then-list_own : goal.returns-then-list_own
returns-then-list_own c =
    let l = c.args.line in
    let k = c.args.command in
    c.record_of.ensures ∙ ap (recorded l k) (c.as_slice-entries.ensures ∙ c.if-list_own.ensures refl) ∙ own_recorded l c.args.entries.now k
