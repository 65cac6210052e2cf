-- Refused while a run is open or where no record is; else one standing is changed.
use Rattle.std.proofs.Common.{◌≡◌, map, Some, None, Err, sym, refl, ap, ◌∙◌, rules}
use Rattle.std.specs.List.{slice_get}
use Rattle.lists.specs.Altered.{altered}
use Rattle.lists.specs.Held.{held, room}
use Rattle.model.specs.Records.{said}
use Rattle.model.specs.declared.refusal.Refusal.TheVariants.{NoSuchRecord}
use Rattle.pool.specs.Contents.{meant}
use Rattle.runner.specs.Standings.{stands_as}
use Rattle.runner.specs.Views.{world_of}
use Rattle.runner.proofs.Audits.{open_now, no_record, judges}
use Rattle.runner.proofs.book.Book.audit.Goals as goal

pub returns-then-is_open : goal.returns-then-is_open
returns-then-is_open c = λ fs. open_now c.args.at _ _ c.if-is_open.ensures refl

pub returns-in_err-candidate : goal.returns-in_err-candidate
returns-in_err-candidate c = λ fs.
    let gone : c.get.result ≡ None = search rules in
    let told : c.from_residual.result ≡ Err NoSuchRecord = search rules in
    rw told (no_record c.args.at _ _ c.if-is_open.ensures (held c.args.self.now.list) refl (sym gone ∙ c.get.ensures) refl)

pub returns : goal.returns
returns c = λ fs.
    let b = c.args.self.now in
    let p = meant c.args.pool.now in
    let i = c.args.log.now.inner in
    let s = c.finding-standing.result in
    let found : Some c.in_ok-candidate.candidate ≡ slice_get (held b.list) c.args.at = search rules in
    judges c.args.at _ _ c.if-is_open.ensures (held b.list) refl c.in_ok-candidate.candidate s found c.finding-standing.ensures
    (ap (λ xs. world_of fs p i (map said xs) (room c.change.new.self)) c.change.ensures.held ∙ ap (world_of fs p i (map said (altered (stands_as s) (held b.list) c.args.at))) c.change.ensures.room)
