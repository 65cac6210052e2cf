-- Each content that is put gives one number more, and the list ends where no content is whole.
use Rattle.std.proofs.Common.{◌≡◌, ◌+◌, Some, None, sym, ap, ◌∙◌, subst, rules, arith}
use Rattle.std.specs.List.{flat_map}
use Rattle.output.proofs.Steps.{as_bytes, each_more, each_room}
use Rattle.model.specs.Contents.{Pool}
use Rattle.pool.specs.Contents.{meant, number_told}
use Rattle.trace.specs.Reads.{two_bytes}
use Rattle.boundary.specs.Puts.{first, cut_at, numbers_given}
use Rattle.boundary.proofs.Putting.{SoFar, has_next, next_is, one_more, cut_off, no_room, given_few, two_each, whole}
use Rattle.boundary.proofs.puts.put_list.Goals as goal

pub returns-in_default-clause-count : goal.returns-in_default-clause-count
returns-in_default-clause-count c =
    let none : first c.loop-done.rest.now ≡ None = search rules in
    cut_off _ _ _ _ _ _ c.loop-done.invariant.so_far (omega arith) none

pub returns-in_default-clause-written : goal.returns-in_default-clause-written
returns-in_default-clause-written c =
    let none : first c.loop-done.rest.now ≡ None = search rules in
    let all = cut_off _ _ _ _ _ _ c.loop-done.invariant.so_far (omega arith) none in
    as_bytes _ (ap (flat_map two_bytes) (whole _ _ all)) c.loop-done.invariant.written

pub put_number-requires : goal.put_number-requires
put_number-requires c =
    let ns = numbers_given c.args.most (meant c.args.pool.now) c.args.list.now in
    let some : first c.loop-done.rest.now ≡ Some (cut_at c.in-Some.content.now c.in-Some.after.now) = search rules in
    let lt = has_next _ _ _ _ _ _ c.loop-done.invariant.so_far (omega arith) _ some in
    each_room two_bytes ns c.loop-done.done 0 lt
    (omega (arith, two_each ns, given_few c.args.most (meant c.args.pool.now) c.args.list.now, c.requires)) c.loop-done.invariant.written

pub loop-done-preserved : goal.loop-done-preserved
loop-done-preserved c =
    let ns = numbers_given c.args.most (meant c.args.pool.now) c.args.list.now in
    let so_far = c.loop-done.invariant.so_far in
    let some : first c.loop-done.rest.now ≡ Some (cut_at c.in-Some.content.now c.in-Some.after.now) = search rules in
    let lt = has_next _ _ _ _ _ _ so_far (omega arith) _ some in
    let is = next_is _ _ _ _ _ _ so_far (omega arith) _ some in
    let told : c.map_or-number.result ≡ number_told c.put.result = search rules in
    let P : Pool → Type 0 = λ q. SoFar c.args.most (meant c.args.pool.now) q c.args.list.now c.in-Some.after.now (c.loop-done.done + 1) in
    record {
      so_far = subst P (sym c.put.ensures.after) (one_more _ _ _ _ _ _ so_far (omega arith) _ some);
      written = each_more two_bytes ns c.loop-done.done 0 lt c.loop-done.invariant.written
          (as_bytes _ (ap two_bytes (told ∙ c.put.ensures.number ∙ sym is)) c.put_number.ensures);
    }

pub returns-clause-count : goal.returns-clause-count
returns-clause-count c =
    let end : c.loop-done.done ≡ c.args.most = omega arith in
    sym end ∙ no_room _ _ _ _ _ _ c.loop-done.invariant.so_far end

pub returns-clause-written : goal.returns-clause-written
returns-clause-written c =
    let end : c.loop-done.done ≡ c.args.most = omega arith in
    as_bytes _ (ap (flat_map two_bytes) (whole _ _ (no_room _ _ _ _ _ _ c.loop-done.invariant.so_far end))) c.loop-done.invariant.written
