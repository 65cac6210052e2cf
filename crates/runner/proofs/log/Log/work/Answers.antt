-- The act or the skip does what is meant, with the room that it needs; then the line's state is turned, and all facts hold again.
use Rattle.std.proofs.Common.{refl, ap, ◌∙◌}
use Rattle.lists.specs.Held.{held, room}
use Rattle.engine.specs.States.{state}
use Rattle.model.specs.Records.{said}
use Rattle.model.specs.Step.{skipping}
use Rattle.pool.specs.Contents.{meant}
use Rattle.runner.specs.Views.{records, places}
use Rattle.runner.proofs.Always.{always}
use Rattle.runner.proofs.Works.{as_stopping, act_room, skip_room, after_act, after_skip}
use Rattle.runner.proofs.log.Log.work.Goals as goal

pub act-requires : goal.act-requires
act-requires g c = act_room c.args.self.now.inner c.args.line c.requires.left (always c.args.self.now)

pub skip-requires : goal.skip-requires
skip-requires g c =
    skip_room c.args.self.now.inner c.args.line c.requires.left (g.F.FileStore.map c.args.files.now) (meant c.args.pool.now) (records c.args.book.now) (places c.args.book.now)
    (said c.in-Some.record) c.in-Some.ensures c.reads.result.now c.reads.ensures.value c.reads.ensures.few (always c.args.self.now)

pub invariant_of-self : goal.invariant_of-self
invariant_of-self g c =
    let s = state (g.F.FileStore.map c.act.new.files) c.act.new.pool c.act.new.entries in
    let t = c.turn.ensures in
    let left =
    after_act c.args.self.now.inner c.args.line c.requires.left _ _ (records c.args.book.now) (places c.args.book.now) _ _ s
    (as_stopping _ _ s c.err-stop.ensures.value c.act.ensures.outcome) (always c.args.self.now) c.in_default.ensures c.turn.new.self
    (record { entries = ap held t.entries; rooms = ap room t.entries ∙ c.act.ensures.room; lines = t.lines; opened = t.opened ∙ c.requires.opened; noted = t.notes s.files }) in
    record { roomy = left.kept.roomy; inside = left.kept.inside; few = left.kept.few; follows = left.kept.follows }

pub returns-in_default : goal.returns-in_default
returns-in_default g c =
    let s = state (g.F.FileStore.map c.act.new.files) c.act.new.pool c.act.new.entries in
    let t = c.turn.ensures in
    let left =
    after_act c.args.self.now.inner c.args.line c.requires.left _ _ (records c.args.book.now) (places c.args.book.now) _ _ s
    (as_stopping _ _ s c.err-stop.ensures.value c.act.ensures.outcome) (always c.args.self.now) c.in_default.ensures c.turn.new.self
    (record { entries = ap held t.entries; rooms = ap room t.entries ∙ c.act.ensures.room; lines = t.lines; opened = t.opened ∙ c.requires.opened; noted = t.notes s.files }) in
    record { line = refl; skipped = ap skipping c.in_default.ensures; stop = left.stop; world = left.world }

pub invariant_of-self-2 : goal.invariant_of-self-2
invariant_of-self-2 g c =
    let s = state (g.F.FileStore.map c.skip.new.files) c.args.pool.now c.skip.new.entries in
    let t = c.turn-2.ensures in
    let left =
    after_skip c.args.self.now.inner c.args.line c.requires.left _ _ (records c.args.book.now) (places c.args.book.now) (said c.in-Some.record) c.in-Some.ensures c.reads.result.now c.reads.ensures.value c.reads.ensures.few _ s
    (as_stopping _ _ s c.err-stop-2.ensures.value (c.skip.ensures.outcome (meant c.args.pool.now))) (always c.args.self.now) c.turn-2.new.self
    (record { entries = ap held t.entries; rooms = ap room t.entries ∙ c.skip.ensures.room; lines = t.lines; opened = t.opened ∙ c.requires.opened; noted = t.notes s.files }) in
    record { roomy = left.kept.roomy; inside = left.kept.inside; few = left.kept.few; follows = left.kept.follows }

pub returns-clause-world : goal.returns-clause-world
returns-clause-world g c =
    let s = state (g.F.FileStore.map c.skip.new.files) c.args.pool.now c.skip.new.entries in
    let t = c.turn-2.ensures in
    (after_skip c.args.self.now.inner c.args.line c.requires.left _ _ (records c.args.book.now) (places c.args.book.now) (said c.in-Some.record) c.in-Some.ensures c.reads.result.now c.reads.ensures.value c.reads.ensures.few _ s
    (as_stopping _ _ s c.err-stop-2.ensures.value (c.skip.ensures.outcome (meant c.args.pool.now))) (always c.args.self.now) c.turn-2.new.self
    (record { entries = ap held t.entries; rooms = ap room t.entries ∙ c.skip.ensures.room; lines = t.lines; opened = t.opened ∙ c.requires.opened; noted = t.notes s.files })).world
