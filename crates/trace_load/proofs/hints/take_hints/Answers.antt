-- The places are counted before anything changes.
use Rattle.std.proofs.Common.{◌≡◌, ◌-◌, true, false, ltb, map, length, sym, ap, ◌∙◌, arith, rules}
use Rattle.lists.specs.Held.{held, room}
use Rattle.pool.specs.Contents.{meant}
use Rattle.std.proofs.lemmas.Bool.{leb-true, le-leb, lt-leb, ltb-true, ltb-false}
use Rattle.model.specs.Records.{said}
use Rattle.trace.specs.Told.{coming}
use Rattle.trace.specs.Told as told
use Rattle.trace_load.proofs.Counts.{test_is, refused_is, same_all, held_within}
use Rattle.trace_load.proofs.hints.take_hints.Goals as goal
use Rattle.trace_load.specs.Takes.{fresh}

pub returns-then-exceeds : goal.returns-then-exceeds
returns-then-exceeds c =
    let b = c.args.book.now in
    let t = told.meant c.args.trace.now in
    let p = meant c.args.pool.now in
    let within = held_within b.len b.items.now in
    let need = fresh (map said (held b)) t.records in
    let more : ltb c.saturating_sub-free.result need ≡ true = search rules in
    let free : c.saturating_sub-free.result ≡ room b - length (held b) = search rules in
    let test = test_is t.contents p t (held b) (room b) c.requires within c.saturating_sub-free.result free in
    let answer = refused_is t.contents p t (held b) (room b) c.requires within (sym test ∙ lt-leb need c.saturating_sub-free.result (ltb-true _ _ more)) in
    record { value = answer.0; held = answer.1; room = search rules }

pub take_all-requires : goal.take_all-requires
take_all-requires c =
    let b = c.args.book.now in
    let t = told.meant c.args.trace.now in
    let p = meant c.args.pool.now in
    let within = held_within b.len b.items.now in
    let need = fresh (map said (held b)) t.records in
    let few : ltb c.saturating_sub-free.result need ≡ false = search rules in
    let free : c.saturating_sub-free.result ≡ room b - length (held b) = search rules in
    let test = test_is t.contents p t (held b) (room b) c.requires within c.saturating_sub-free.result free in
    let enough = leb-true _ _ (sym test ∙ le-leb need c.saturating_sub-free.result (ltb-false _ _ few)) in
    let same = ap length (same_all t.contents p t (held b) (room b) c.requires within (map (λ x. x.now) c.contents.result.now) (coming c.records-2.result) c.contents.ensures c.records-2.ensures) in
    omega arith
