-- The load leaves what the bytes of the file give; each record is judged; and that is saved.
use Rattle.std.proofs.Common.{◌≡◌, [], Ok, Err, Result, ap, ◌∙◌, subst, rules}
use Rattle.model.specs.declared.refusal.Refusal.{Refusal}
use Rattle.pool.specs.Contents.{meant}
use Rattle.runner.specs.Views.{places, world}
use Rattle.trace.specs.Format.{decoded}
use Rattle.trace_write.specs.Puts.{saved, after_save}
use Rattle.trace_write.specs.Saves.{to_save}
use Rattle.boundary.specs.Retraced.{taken}
use Rattle.boundary.proofs.Taking.{Leaves, leaves, refused_told, refused_left, accepted_told, accepted_left}
use Rattle.boundary.proofs.retraces.retrace.Goals as goal

pub returns-in_err-load-clause-value : goal.returns-in_err-load-clause-value
returns-in_err-load-clause-value c =
    let w = world [] (meant c.args.pool.now) c.new-log.result c.args.book.now in
    let v = world [] (meant c.load.new.pool) c.new-log.result c.load.new.book in
    let s = taken (decoded c.args.file.now) (places c.args.book.now) (meant c.args.pool.now) in
    let left = leaves c.load.result w v c.requires.book (decoded c.args.file.now) c.new-log.ensures.shut (c.load.ensures.promise []).did.does in
    let P : Result (Unit {0}) Refusal → Type 0 = λ a. Leaves s a v in
    let told : c.from_residual.result ≡ Err c.in_err-load.field-0.0 = search rules in
    told ∙ refused_told s c.in_err-load.field-0.0 v c.args.out.now (subst P c.in_err-load.was left)

pub returns-in_err-load-clause-bytes : goal.returns-in_err-load-clause-bytes
returns-in_err-load-clause-bytes c =
    let w = world [] (meant c.args.pool.now) c.new-log.result c.args.book.now in
    let v = world [] (meant c.load.new.pool) c.new-log.result c.load.new.book in
    let s = taken (decoded c.args.file.now) (places c.args.book.now) (meant c.args.pool.now) in
    let left = leaves c.load.result w v c.requires.book (decoded c.args.file.now) c.new-log.ensures.shut (c.load.ensures.promise []).did.does in
    let P : Result (Unit {0}) Refusal → Type 0 = λ a. Leaves s a v in
    refused_left s c.in_err-load.field-0.0 v c.args.out.now (subst P c.in_err-load.was left)

pub returns-clause-value : goal.returns-clause-value
returns-clause-value c =
    let w = world [] (meant c.args.pool.now) c.new-log.result c.args.book.now in
    let v = world [] (meant c.load.new.pool) c.new-log.result c.load.new.book in
    let s = taken (decoded c.args.file.now) (places c.args.book.now) (meant c.args.pool.now) in
    let left = leaves c.load.result w v c.requires.book (decoded c.args.file.now) c.new-log.ensures.shut (c.load.ensures.promise []).did.does in
    let P : Result (Unit {0}) Refusal → Type 0 = λ a. Leaves s a v in
    let done : c.load.result ≡ Ok tt = search rules in
    c.save.ensures.value
    ∙ ap (λ rs. saved (to_save (meant c.load.new.pool) rs) c.args.out.now) c.audit_all.ensures
    ∙ accepted_told s v c.args.out.now (subst P done left)

pub returns-clause-bytes : goal.returns-clause-bytes
returns-clause-bytes c =
    let w = world [] (meant c.args.pool.now) c.new-log.result c.args.book.now in
    let v = world [] (meant c.load.new.pool) c.new-log.result c.load.new.book in
    let s = taken (decoded c.args.file.now) (places c.args.book.now) (meant c.args.pool.now) in
    let left = leaves c.load.result w v c.requires.book (decoded c.args.file.now) c.new-log.ensures.shut (c.load.ensures.promise []).did.does in
    let P : Result (Unit {0}) Refusal → Type 0 = λ a. Leaves s a v in
    let done : c.load.result ≡ Ok tt = search rules in
    c.save.ensures.bytes
    ∙ ap (λ rs. after_save (to_save (meant c.load.new.pool) rs) c.args.out.now) c.audit_all.ensures
    ∙ accepted_left s v c.args.out.now (subst P done left)
