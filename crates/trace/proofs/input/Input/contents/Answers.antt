-- The loop over the contents gives the section.
use Rattle.std.proofs.Common.{◌-◌, [], ◌∷◌, ◌++◌, map, ◌∙◌, ap, sym, arith}
use Rattle.std.proofs.lemmas.List.{length-set, length-take}
use Rattle.index.specs.Sums.{bucket_of_ends}
use Rattle.trace.proofs.Breaks.{break_told}
use Rattle.trace.proofs.Pieces.{rest_more, rest_stop, section_begins, exact, firsts_more}
use Rattle.trace.proofs.input.Input.contents.Goals as goal
use Rattle.trace.specs.Reads.{many}
use Rattle.trace.specs.Told.{left, listed}
use Rattle.trace.specs.Format.{a_content, push}

pub returns-in_err-list-clause-value : goal.returns-in_err-list-clause-value
returns-in_err-list-clause-value c =
    let l = c.loop-i in
    let n = c.in_ok-count.count in
    let s = c.count.new.self in
    let stop = rest_stop (many a_content push n [] (left s)) n l.list l.i (left l.self) l.invariant.rest c.loop-i-test.true c.in_err-list.field-0.0 c.in_err-list.ensures.value in
    let begins = section_begins n (left c.args.self.now) (left s) c.in_ok-count.ensures.value in
    break_told listed _ _ c.in_err-list.field-0.0 _ c.from_residual-in_err-list.ensures.1 (stop ∙ begins)

pub content-requires : goal.content-requires
content-requires c =
    let l = c.loop-i in
    let few = c.in_ok-count.ensures.within in
    record {
      index = l.invariant.indexed ∙ ap (map bucket_of_ends) (sym (exact l.list l.i));
      room = omega (arith, length-take (l.i - 0) l.list);
    }

pub loop-i-preserved : goal.loop-i-preserved
loop-i-preserved c =
    let l = c.loop-i in
    let n = c.in_ok-count.count in
    let long = l.invariant.long in
    let few = c.in_ok-count.ensures.within in
    record {
      rest =
          rest_more (many a_content push n [] (left c.count.new.self)) n l.list l.i (left l.self) l.invariant.rest c.loop-i-test.true
          c.in_ok-list.field-0 (left c.content.new.self) (omega arith) c.in_ok-list.ensures.value;
      long = length-set l.list l.i c.in_ok-list.field-0 ∙ long;
      indexed =
          c.in_ok-list.ensures.index
          ∙ ap (map bucket_of_ends) (ap (λ es. es ++ c.in_ok-list.field-0.now ∷ []) (exact l.list l.i) ∙ sym (firsts_more l.list l.i c.in_ok-list.field-0 (omega arith)));
    }
