-- What is left of the text gives the answer.
use Rattle.std.proofs.Common.{◌≡◌, ◌+◌, length, Err, sym, ap, ◌∙◌, subst, rules, tests, arith}
use Rattle.std.proofs.lemmas.List.{length_push}
use Rattle.std.proofs.lemmas.List.FromFn.{length-enumerate_from}
use Rattle.std.proofs.lemmas.Iterator.Consumers.{YieldsList-turn, YieldsList-end}
use Rattle.script.proofs.Sounds.{sound_reading}
use Rattle.script.proofs.Turns.{Left, parts, at_end, refused, next_line, numbered, turn_at, told}
use Rattle.script.proofs.reading.read.Goals as goal
use Rattle.script.specs.Sound.{Holds}
use Rattle.script.specs.Views.{held, made}

pub returns-in_err-map_err-clause-value : goal.returns-in_err-map_err-clause-value
returns-in_err-map_err-clause-value c =
    let text = c.args.text.now in
    let l = c.loop-i in
    let s = c.split.ensures in
    let e = c.enumerate-i-items.ensures in
    let turn = turn_at text (length l.yielded) c.in-Some.i c.in-Some.part.now
    (YieldsList-turn (numbered text c.into_iter-i-iterator.ensures.into_iter_gives e.source e.count s.rest s.done s.closure (λ x b q k. search (rules, tests)))
    l.yielded _ l.yielded_by _ _ (c.in-Some.i, c.in-Some.part) c.in-Some.is c.next.ensures.steps) in
    let t : c.map_err.result ≡ told (c.in-Some.i + 1) c.add_line.result = search rules in
    let r : c.from_residual.result ≡ Err c.in_err-map_err.field-0.0 = search rules in
    ap made r
    ∙ refused text (held l.tables) (length l.yielded) l.invariant c.in-Some.part.now turn.0 turn.2 c.add_line.result c.add_line.new.self c.in_err-map_err.field-0.0
    (ap (λ n. told (n + 1) c.add_line.result) (sym turn.1) ∙ sym t ∙ c.in_err-map_err.was) c.add_line.ensures

pub loop-i-preserved : goal.loop-i-preserved
loop-i-preserved c =
    let text = c.args.text.now in
    let l = c.loop-i in
    let s = c.split.ensures in
    let e = c.enumerate-i-items.ensures in
    let turn = turn_at text (length l.yielded) c.in-Some.i c.in-Some.part.now
    (YieldsList-turn (numbered text c.into_iter-i-iterator.ensures.into_iter_gives e.source e.count s.rest s.done s.closure (λ x b q k. search (rules, tests)))
    l.yielded _ l.yielded_by _ _ (c.in-Some.i, c.in-Some.part) c.in-Some.is c.next.ensures.steps) in
    let t : c.map_err.result ≡ told (c.in-Some.i + 1) c.add_line.result = search rules in
    subst (Left text (held c.add_line.new.self)) (sym (length_push l.yielded (c.in-Some.i, c.in-Some.part)))
    (next_line text (held l.tables) (length l.yielded) l.invariant c.in-Some.part.now turn.0 turn.2 c.add_line.result c.add_line.new.self _
    (ap (λ n. told (n + 1) c.add_line.result) (sym turn.1) ∙ sym t ∙ c.in_ok-map_err.was) c.add_line.ensures)

pub returns : goal.returns
returns c =
    let text = c.args.text.now in
    let l = c.loop-i in
    let s = c.split.ensures in
    let e = c.enumerate-i-items.ensures in
    let end = YieldsList-end (numbered text c.into_iter-i-iterator.ensures.into_iter_gives e.source e.count s.rest s.done s.closure (λ x b q k. search (rules, tests)))
    l.yielded _ l.yielded_by _ _ c.in-None.is c.next.ensures.steps in
    let value = at_end text (held l.tables) (length l.yielded) l.invariant (omega (arith, end.1, length-enumerate_from 0 (parts text))) in
    record { value = value; sound = subst Holds (sym value) (sound_reading text) }
