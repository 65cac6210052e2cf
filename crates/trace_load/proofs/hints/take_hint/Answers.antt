-- The hint is appended, takes a place, or is left out.
use Rattle.std.proofs.Common.{◌≡◌, true, false, not, refl}
use Rattle.lists.specs.Held.{held, room}
use Rattle.model.specs.Book.{own}
use Rattle.model.specs.contracts.record.Standing.{the_type}
use Rattle.model.specs.declared.record.Standing.{Standing}
use Rattle.model.specs.declared.record.Standing.TheVariants.{Hint, Own, Struck}
use Rattle.trace_load.proofs.Taken.{left_out, replaced, appended}
use Rattle.trace_load.proofs.hints.take_hint.Goals as goal
use denote.Enum.Bare.{sameb}

not_own : (s : Standing) → true ≡ not (sameb the_type s Own) → own s ≡ false
not_own Hint e = refl
not_own Own e = e
not_own Struck e = refl

is_own : (s : Standing) → false ≡ not (sameb the_type s Own) → own s ≡ true
is_own Hint e = e
is_own Own e = refl
is_own Struck e = e

pub returns-in_default-clause-held : goal.returns-in_default-clause-held
returns-in_default-clause-held c =
    let xs = held c.args.book.now in
    appended c.args.rec xs _ c.as_slice-records.ensures (room c.args.book.now) c.push.result (held c.push.new.self) c.requires c.in_default.ensures c.push.ensures.fits c.push.ensures.held

pub returns-then-ne-clause-held : goal.returns-then-ne-clause-held
returns-then-ne-clause-held c =
    let xs = held c.args.book.now in
    replaced c.args.rec xs _ c.as_slice-records.ensures c.in-Some.at _ c.replace.result (held c.replace.new.self) c.in-Some.ensures (not_own _ c.if-ne.ensures) c.replace.ensures.fits c.replace.ensures.held

pub returns-else-ne-clause-held : goal.returns-else-ne-clause-held
returns-else-ne-clause-held c =
    let xs = held c.args.book.now in
    left_out c.args.rec xs _ c.as_slice-records.ensures c.in-Some.at _ c.in-Some.ensures (is_own _ c.if-ne.ensures)
