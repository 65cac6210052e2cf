-- Each content is put and its file set, or all is put back.
use Rattle.std.proofs.Common.{◌<◌, length, sym, ap, ◌∙◌, arith}
use Rattle.std.proofs.lemmas.Bool.{ltb-true}
use Rattle.pool.specs.Contents.{meant}
use Rattle.script.specs.Haves.{haves_of}
use Rattle.script.specs.Scripts.{meaning}
use Rattle.script.specs.Views.{start_of}
use Rattle.runner.specs.Stocks.{lay_told, files_laid, pool_laid}
use Rattle.runner.proofs.Laying.{at_start, length_starts, left_more, left_refused, pool_back}
use Rattle.runner.proofs.log.laying.put_starts.Goals as goal

pub returns-in_default : goal.returns-in_default
returns-in_default g c =
    let ss = (meaning c.args.script.now).haves in
    let hs = haves_of ss in
    let starts = c.starts-have-items in
    let k = c.loop-have.have-index in
    let fs = g.F.FileStore.map c.args.files.now in
    let p = meant c.args.pool.now in
    let lt : k < length hs = omega (arith, c.loop-have-test.true, length_starts start_of starts.result.now ss starts.ensures.value) in
    let at = at_start start_of starts.result.now ss k _ starts.ensures.value c.loop-have-test.true in
    let put = c.in_default.ensures in
    let none = left_refused hs fs _ p _ k c.loop-have.invariant _ at lt (sym put.number) in
    let pool = pool_back hs fs _ p _ k c.loop-have.invariant _ at lt c.count-count.result (meant c.put.new.self) (meant c.cut.new.self) c.count-count.ensures.value put.after c.cut.ensures in
    record {
      value = ap lay_told (sym none);
      files = c.copy_all-in_default.ensures ∙ c.copy_all.ensures ∙ ap (λ o. files_laid o fs) (sym none);
      pool = pool ∙ ap (λ o. pool_laid o p) (sym none);
    }

pub loop-have-preserved : goal.loop-have-preserved
loop-have-preserved g c =
    let ss = (meaning c.args.script.now).haves in
    let hs = haves_of ss in
    let starts = c.starts-have-items in
    let k = c.loop-have.have-index in
    let lt : k < length hs = omega (arith, c.loop-have-test.true, length_starts start_of starts.result.now ss starts.ensures.value) in
    let at = at_start start_of starts.result.now ss k _ starts.ensures.value c.loop-have-test.true in
    let put = c.in-Ok.ensures in
    left_more hs _ _ _ _ k c.loop-have.invariant _ at lt _ _ c.in-Ok.put.number put.number (λ z. omega (arith, ltb-true 0 _ (sym put.taken), put.number)) c.set.ensures put.after
