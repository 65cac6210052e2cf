-- Each audit judges the record in its place.
use Rattle.std.proofs.Common.{◌≡◌, suc, ◌+◌, [], ap, ◌∙◌, arith, length}
use Rattle.std.proofs.lemmas.List.{length-map}
use Rattle.model.specs.Audit.{judged}
use Rattle.model.specs.Records.{said}
use Rattle.pool.specs.Contents.{meant}
use Rattle.runner.specs.Views.{records, world}
use Rattle.boundary.proofs.Judging.{upto, all, one_more}
use Rattle.boundary.proofs.retraces.audit_all.Goals as goal

pub loop-at-preserved : goal.loop-at-preserved
loop-at-preserved c =
    let f = judged (meant c.args.pool.now) in
    let rs = records c.args.book.now in
    let i = c.loop-at.at in
    let up : suc i ≡ i + 1 = omega arith in
    one_more i rs c.audit.result (world [] (meant c.args.pool.now) c.args.log.now c.loop-at.book) (world [] (meant c.args.pool.now) c.args.log.now c.audit.new.book)
    c.requires c.loop-at.invariant (c.audit.ensures []).did.does
    ∙ ap (λ k. upto f k rs) up

pub returns : goal.returns
returns c =
    let f = judged (meant c.args.pool.now) in
    let rs = records c.args.book.now in
    let size : c.loop-at.at ≡ length rs = omega (arith, length-map c.records-at-end.result.now said, ap length c.records-at-end.ensures) in
    c.loop-at.invariant ∙ ap (λ k. upto f k rs) size ∙ all f rs
