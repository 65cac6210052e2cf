-- What is chosen has its contents in the pool; it is written, and is read back.
use Rattle.std.proofs.Common.{map, ap, ◌∙◌}
use Rattle.model.specs.Records.{said}
use Rattle.pool.specs.Contents.{meant}
use Rattle.pool.proofs.Sounds.{sound}
use Rattle.trace_write.proofs.Lawfuls.{saved_back}
use Rattle.trace_write.proofs.Tables.{tables_are, accepted}
use Rattle.trace_write.specs.Puts.{saved, after_save}
use Rattle.trace_write.specs.Saves.{to_save, order}
use Rattle.trace_write.proofs.saves.whole.save.Goals as goal

pub returns-clause-accepted : goal.returns-clause-accepted
returns-clause-accepted c =
    let p = meant c.args.pool.now in
    let good = sound c.args.pool.now in
    let rs = map said c.args.records.now in
    let bs = c.args.out.now in
    let listed = c.order_of-order.ensures ∙ ap (λ ks. order (map said ks)) c.deref.ensures.0 in
    let same = tables_are p good rs c.choose-kept.result.items c.choose-kept.ensures.value c.order_of-order.result.numbers.items listed in
    let answer = c.put_trace.ensures.value ∙ ap (λ t. saved t bs) same in
    let after = c.put_trace.ensures.bytes ∙ ap (λ t. after_save t bs) same in
    accepted (to_save p rs) bs (saved_back p good rs) c.put_trace.result c.put_trace.new.out answer after
