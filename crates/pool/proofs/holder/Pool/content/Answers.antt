-- A place lies within the bytes that are used, so the part that it tells is there.
use Rattle.std.proofs.Common.{◌-◌, sym, ap, ◌∙◌, rules, Some}
use Rattle.std.proofs.lemmas.Bool.{cond-true}
use Rattle.model.specs.Contents.{holds}
use Rattle.pool.specs.Contents.{meant}
use Rattle.pool.proofs.Finds.{held_place}
use Rattle.pool.proofs.Places.{within_bytes, read_at, start_held, part_at}
use Rattle.pool.proofs.holder.Pool.content.Goals as goal

pub overflow_add-bytes : goal.overflow_add-bytes
overflow_add-bytes c =
    let p = c.args.self.now in
    let h = within_bytes p (c.args.number - 1) (held_place p c.args.number (sym c.if-holds.ensures)).1 in
    search rules

pub slice_bounds-bytes-end : goal.slice_bounds-bytes-end
slice_bounds-bytes-end c =
    let p = c.args.self.now in
    let h = within_bytes p (c.args.number - 1) (held_place p c.args.number (sym c.if-holds.ensures)).1 in
    search rules

pub returns-then-holds : goal.returns-then-holds
returns-then-holds c =
    let p = c.args.self.now in
    let at = c.args.number - 1 in
    let low = (held_place p c.args.number (sym c.if-holds.ensures)).1 in
    record {
      told = ap Some (read_at p at low) ∙ sym (cond-true (holds (meant p) c.args.number) _ _ (sym c.if-holds.ensures));
      start = start_held p at low;
      part = part_at p at low;
    }
