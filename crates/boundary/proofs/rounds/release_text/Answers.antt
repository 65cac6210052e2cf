-- A text is not read, or its script is not laid, or it is built.
use Rattle.std.proofs.Common.{◌≡◌, Ok, Err, sym, ◌∙◌, subst, rules}
use Rattle.model.specs.Calls.{on_lay}
use Rattle.model.specs.Promise.{Promised}
use Rattle.pool.specs.Contents.{meant}
use Rattle.runner.specs.Views.{records, places, world}
use Rattle.script.specs.Haves.{haves_of}
use Rattle.script.specs.Scripts.{meaning}
use Rattle.script.specs.Text.{reading}
use Rattle.boundary.proofs.Releasing.{as_read, as_build, not_read, not_laid, was_built}
use Rattle.boundary.proofs.rounds.release_text.Goals as goal

pub returns-in_err-map_err-clause-released : goal.returns-in_err-map_err-clause-released
returns-in_err-map_err-clause-released g c = λ past.
    let told : c.map_err.result ≡ as_read c.read.result = search rules in
    let r : c.from_residual.result ≡ Err c.in_err-map_err.field-0.0 = search rules in
    not_read _ c.args.text.now _ c.read.result c.read.new.self c.in_err-map_err.field-0.0 _ (sym told ∙ c.in_err-map_err.was) r c.read.ensures.value

pub returns-in_err-map_err-2-clause-released : goal.returns-in_err-map_err-2-clause-released
returns-in_err-map_err-2-clause-released g c = λ past.
    let m = meaning c.read.new.self in
    let read : Ok m ≡ reading c.args.text.now = search rules in
    let told : c.map_err-2.result ≡ as_build c.lay.result = search rules in
    let r : c.from_residual-in_err-map_err-2.result ≡ Err c.in_err-map_err-2.field-0.0 = search rules in
    not_laid _ c.args.text.now _ m read c.lay.result c.in_err-map_err-2.field-0.0 _ (sym told ∙ c.in_err-map_err-2.was) r
    (c.lay.ensures (records c.args.book.now) (places c.args.book.now))

pub returns-clause-released : goal.returns-clause-released
returns-clause-released g c = λ past.
    let map = g.F.FileStore.map in
    let m = meaning c.read.new.self in
    let hs = haves_of m.haves in
    let read : Ok m ≡ reading c.args.text.now = search rules in
    let taken : c.lay.result ≡ Ok tt = search rules in
    let u = world (map c.args.files.now) (meant c.args.pool.now) c.args.log.now c.args.book.now in
    let v = world (map c.lay.new.files) (meant c.lay.new.pool) c.args.log.now c.args.book.now in
    was_built _ c.args.text.now u m read past
    (subst (λ a. Promised (on_lay hs a) u v) taken (c.lay.ensures (records c.args.book.now) (places c.args.book.now))) c.build_by.ensures
