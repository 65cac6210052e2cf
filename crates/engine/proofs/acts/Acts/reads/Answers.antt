-- One read more has a place, since there are at most sixteen.
use Rattle.std.proofs.Common.{take, refl, ap, rules, tests, ◌∙◌}
use Rattle.std.proofs.lemmas.Iterator.{YieldsList-from_slice}
use Rattle.std.proofs.lemmas.Iterator.Consumers.{YieldsList-at, YieldsList-from_filter, YieldsList-from_enumerate}
use Rattle.std.proofs.lemmas.List.{length-set}
use Rattle.engine.proofs.Listing.{counted, has_place, one_more, all_listed}
use Rattle.engine.proofs.acts.Acts.reads.Goals as goal

pub bounds-reads-place : goal.bounds-reads-place
bounds-reads-place c =
    has_place {s = c.into_iter-place-iterator.result} c.args.self.now.line c.args.self.now.entries.now c.loop-place.yielded c.loop-place.place-iterator c.loop-place.yielded_by c.next.result c.next.new.self c.next.ensures.steps (c.in-Some.place, c.in-Some.entry) c.in-Some.is
    (YieldsList-at c.into_iter-place-iterator.ensures.into_iter_gives
    (YieldsList-from_enumerate
    (YieldsList-at c.enumerate-place-items.ensures.source (YieldsList-from_filter _ _ (YieldsList-from_slice c.args.self.now.entries.now (cc)) c.filter-made.ensures.closure (λ x r q k. search (rules, tests))))
    (cc)))
    c.requires

pub loop-place-preserved : goal.loop-place-preserved
loop-place-preserved c =
    record {
      made =
          one_more {s = c.into_iter-place-iterator.result} c.args.self.now.line c.args.self.now.entries.now c.loop-place.yielded c.loop-place.place-iterator c.loop-place.yielded_by c.next.result c.next.new.self c.next.ensures.steps (c.in-Some.place, c.in-Some.entry) c.in-Some.is
          (YieldsList-at c.into_iter-place-iterator.ensures.into_iter_gives
          (YieldsList-from_enumerate
          (YieldsList-at c.enumerate-place-items.ensures.source (YieldsList-from_filter _ _ (YieldsList-from_slice c.args.self.now.entries.now (cc)) c.filter-made.ensures.closure (λ x r q k. search (rules, tests))))
          (cc)))
          c.loop-place.reads c.from.result c.from.ensures c.requires c.loop-place.invariant.long c.loop-place.invariant.made;
      long = length-set c.loop-place.reads c.in-Some.place c.from.result ∙ c.loop-place.invariant.long;
    }

pub returns : goal.returns
returns c =
    ap (λ n. take n c.loop-place.reads) (counted c.args.self.now.line c.args.self.now.entries.now _ refl c.requires)
    ∙ all_listed {s = c.into_iter-place-iterator.result} c.args.self.now.line c.args.self.now.entries.now c.loop-place.yielded c.loop-place.place-iterator c.loop-place.yielded_by c.next.result c.next.new.self c.next.ensures.steps c.in-None.is
    (YieldsList-at c.into_iter-place-iterator.ensures.into_iter_gives
    (YieldsList-from_enumerate
    (YieldsList-at c.enumerate-place-items.ensures.source (YieldsList-from_filter _ _ (YieldsList-from_slice c.args.self.now.entries.now (cc)) c.filter-made.ensures.closure (λ x r q k. search (rules, tests))))
    (cc)))
    c.loop-place.reads c.loop-place.invariant.made
