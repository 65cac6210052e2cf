-- One content more fits, or the whole does not.
use Rattle.std.proofs.Common.{rules, tests, ◌≤◌, ◌+◌, ◌++◌, length, None, ◌≡◌, ap, ◌∙◌, arith}
use Rattle.std.proofs.lemmas.Iterator.{YieldsList-from_slice}
use Rattle.std.proofs.lemmas.Iterator.Adapters.{YieldsList-from_skip}
use Rattle.std.proofs.lemmas.Iterator.Consumers.{YieldsList-at, YieldsList-from_filter}
use Rattle.std.proofs.lemmas.List.{length-take, length_push}
use Rattle.lists.specs.Held.{held, room}
use Rattle.pool.specs.Contents.{meant}
use Rattle.engine.specs.Fits.{fitting, kept}
use Rattle.engine.specs.Reads.{numbers}
use Rattle.engine.proofs.Fits.{left, left_all, next_read, all_read, gather_over, gather_more, gather_done}
use Rattle.engine.proofs.text.gather.Goals as goal

pub loop-read-preserved : goal.loop-read-preserved
loop-read-preserved c =
    let p = meant c.args.pool.now in
    let o = c.loop-read.out in
    let inv = c.loop-read.invariant in
    record {
      added =
          ap (λ k. fitting (room c.args.out.now) (held c.add.new.out ++ left p (numbers c.args.acts.now.line c.args.acts.now.entries.now) (k + 1))) (length_push c.loop-read.yielded c.in-Some.read)
          ∙ gather_more p (numbers c.args.acts.now.line c.args.acts.now.entries.now) (length c.loop-read.yielded + 1) _ (held o) _ _ inv.added _
          (next_read {s = c.into_iter-read-iterator.result} c.args.acts.now.line c.args.acts.now.entries.now c.loop-read.yielded c.loop-read.read-iterator c.loop-read.yielded_by c.next.result c.next.new.self c.next.ensures.steps c.in-Some.read c.in-Some.is
          (YieldsList-at c.into_iter-read-iterator.ensures.into_iter_gives
          (YieldsList-from_skip 1
          (YieldsList-at c.skip-read-items.ensures.source (YieldsList-from_filter _ _ (YieldsList-from_slice c.args.acts.now.entries.now (cc)) c.filter-reads.ensures.closure (λ x r q k. search (rules, tests))))
          c.skip-read-items.ensures.count)))
          (c.in_ok-add.ensures.held ∙ ap (λ m. fitting m (held o ++ c.bytes.result.now)) inv.room ∙ ap (λ x. fitting (room c.args.out.now) (held o ++ x)) c.bytes.ensures.value);
      room = c.add.ensures.room ∙ inv.room;
    }

pub returns-in_err-add-clause-held : goal.returns-in_err-add-clause-held
returns-in_err-add-clause-held c =
    let p = meant c.args.pool.now in
    let o = c.loop-read.out in
    let inv = c.loop-read.invariant in
    let none : kept c.from_residual.result (held c.add.new.out) ≡ None = search rules in
    none
    ∙ gather_over p (numbers c.args.acts.now.line c.args.acts.now.entries.now) (length c.loop-read.yielded + 1) _ (held o) _ _ inv.added
    (next_read {s = c.into_iter-read-iterator.result} c.args.acts.now.line c.args.acts.now.entries.now c.loop-read.yielded c.loop-read.read-iterator c.loop-read.yielded_by c.next.result c.next.new.self c.next.ensures.steps c.in-Some.read c.in-Some.is
    (YieldsList-at c.into_iter-read-iterator.ensures.into_iter_gives
    (YieldsList-from_skip 1
    (YieldsList-at c.skip-read-items.ensures.source (YieldsList-from_filter _ _ (YieldsList-from_slice c.args.acts.now.entries.now (cc)) c.filter-reads.ensures.closure (λ x r q k. search (rules, tests))))
    c.skip-read-items.ensures.count)))
    (c.in_err-add.ensures.held ∙ ap (λ m. fitting m (held o ++ c.bytes.result.now)) inv.room ∙ ap (λ x. fitting (room c.args.out.now) (held o ++ x)) c.bytes.ensures.value)
    ∙ ap (λ t. fitting (room c.args.out.now) (held c.args.out.now ++ t)) (left_all p c.args.acts.now.line c.args.acts.now.entries.now)

pub returns-clause-held : goal.returns-clause-held
returns-clause-held c =
    let p = meant c.args.pool.now in
    let o = c.loop-read.out in
    let inv = c.loop-read.invariant in
    let short : length (held o) ≤ room c.args.out.now = omega (arith, length-take o.len o.items.now, inv.room) in
    gather_done p (numbers c.args.acts.now.line c.args.acts.now.entries.now) (length c.loop-read.yielded + 1) 0 (held o) _ _ inv.added
    (all_read {s = c.into_iter-read-iterator.result} c.args.acts.now.line c.args.acts.now.entries.now c.loop-read.yielded c.loop-read.read-iterator c.loop-read.yielded_by c.next.result c.next.new.self c.next.ensures.steps c.in-None.is
    (YieldsList-at c.into_iter-read-iterator.ensures.into_iter_gives
    (YieldsList-from_skip 1
    (YieldsList-at c.skip-read-items.ensures.source (YieldsList-from_filter _ _ (YieldsList-from_slice c.args.acts.now.entries.now (cc)) c.filter-reads.ensures.closure (λ x r q k. search (rules, tests))))
    c.skip-read-items.ensures.count)))
    short
    ∙ ap (λ t. fitting (room c.args.out.now) (held c.args.out.now ++ t)) (left_all p c.args.acts.now.line c.args.acts.now.entries.now)
