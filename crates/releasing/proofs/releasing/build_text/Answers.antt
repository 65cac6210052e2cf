-- The report of what a text is built to is what it prints.
use Rattle.std.proofs.Common.{◌≡◌, ◌≤◌, ◌∙◌, length, Ok, Err, ap, sym, subst, rules}
use Rattle.files.specs.Tables.{numbers_of}
use Rattle.model.specs.Calls.{on_lay, Did}
use Rattle.pool.specs.Contents.{meant}
use Rattle.report.specs.Report.{report_bytes}
use Rattle.runner.specs.Views.{records, places, world}
use Rattle.script.specs.Haves.{haves_of}
use Rattle.script.specs.Scripts.{meaning}
use Rattle.script.specs.Text.{reading}
use Rattle.releasing.proofs.Printing.{as_build, laying_printed, build_printed}
use Rattle.releasing.proofs.releasing.build_text.Goals as goal

pub returns-in_err-map_err-2 : goal.returns-in_err-map_err-2
returns-in_err-map_err-2 c =
    let m = meaning c.read.new.self in
    let read : Ok m ≡ reading c.args.text.now = search rules in
    let told : c.map_err-2.result ≡ as_build c.lay.result = search rules in
    let r : c.from_residual-in_err-map_err-2.result ≡ Err c.in_err-map_err-2.field-0.0 = search rules in
    let laid = c.lay.ensures (records c.args.book.now) (places c.args.book.now) in
    ap (λ o. report_bytes o m.labels (meant c.lay.new.pool) (numbers_of c.lay.new.files)) r
    ∙ laying_printed c.args.text.now m read _ _ c.requires c.lay.result c.in_err-map_err-2.field-0.0 (sym told ∙ c.in_err-map_err-2.was) laid.did

pub returns : goal.returns
returns c =
    let m = meaning c.read.new.self in
    let hs = haves_of m.haves in
    let read : Ok m ≡ reading c.args.text.now = search rules in
    let taken : c.lay.result ≡ Ok tt = search rules in
    let few : length m.commands ≤ 64 = search rules in
    let w = world (numbers_of c.args.files.now) (meant c.args.pool.now) c.args.log.now c.args.book.now in
    let u = world (numbers_of c.lay.new.files) (meant c.lay.new.pool) c.args.log.now c.args.book.now in
    let laid = c.lay.ensures (records c.args.book.now) (places c.args.book.now) in
    build_printed c.args.text.now m read w u c.requires c.build.result few
    (subst (λ a. Did (on_lay hs a) w u) taken laid.did) c.build.ensures.promise (c.build.new.files.long ∙ sym c.lay.new.files.long)
