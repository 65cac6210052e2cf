-- One place more, right behind the others, and its bytes: one content more.
use Rattle.std.proofs.Common.{◌+◌, ◌-◌, ◌<◌, map, length, sym, ap, subst, ◌∙◌, arith, rules}
use borrow.Rule.Slice.PartMut.{take_put}
use Rattle.index.proofs.Equals.{added}
use Rattle.index.specs.Sums.{bucket_of_ends}
use Rattle.pool.specs.Contents.{meant, held}
use Rattle.pool.specs.Sound.{Apart}
use Rattle.pool.proofs.Adds.{short_added, pieces_kept, pieces_added, copied_piece, packed_added, filled_added, apart_added}
use Rattle.pool.proofs.Places.{inside, all_bytes, all_places, count_held}
use Rattle.pool.proofs.Puts.{fitting, put_fresh}
use Rattle.pool.proofs.holder.Pool.append.Goals as goal

pub slice_bounds-copy_from_slice-end : goal.slice_bounds-copy_from_slice-end
slice_bounds-copy_from_slice-end c = let f = (fitting c.args.self.now c.args.content.now c.requires.fits).bytes in search rules

pub invariant_of-self : goal.invariant_of-self
invariant_of-self c =
    let p = c.args.self.now in
    let x = c.args.content.now in
    let same = pieces_kept p.bytes.now _ p.used p.count p.places.now (all_places p) (inside p) (take_put p.used (p.used + length x - p.used) p.bytes.now c.copy_from_slice.new.self (all_bytes p)) in
    record {
      bytes_fit = search rules;
      places_fit = p.places_fit;
      packed = p.packed;
      filled = p.filled;
      short = p.short;
      apart = subst Apart (sym same) p.apart;
      indexed = p.indexed ∙ ap (map bucket_of_ends) (sym same);
    }

pub invariant_of-self-2 : goal.invariant_of-self-2
invariant_of-self-2 c =
    let p = c.args.self.now in
    let x = c.args.content.now in
    let f = fitting p x c.requires.fits in
    let place : p.count < length p.places.now = omega (arith, f.place) in
    let fit = all_bytes p in
    let more =
    pieces_added p.bytes.now _ x p.used p.count p.places.now place (inside p)
    (take_put p.used (p.used + length x - p.used) p.bytes.now c.copy_from_slice.new.self fit)
    (copied_piece p.bytes.now c.copy_from_slice.new.self x p.used fit c.copy_from_slice.ensures.after) in
    record {
      bytes_fit = let h = f.bytes in search rules;
      places_fit = let h = f.place in search rules;
      packed = packed_added p.used (length x) p.count p.places.now place p.filled p.packed;
      filled = filled_added p.used (length x) p.count p.places.now place p.filled;
      short = short_added p.used (length x) p.count p.places.now place p.short f.short;
      apart = apart_added (held p) _ x c.requires.fresh more p.apart;
      indexed =
          c.push.ensures ∙ added bucket_of_ends x (held p) p.index c.args.bucket.at p.indexed c.requires.bucket (omega (arith, count_held p, f.place))
          ∙ ap (map bucket_of_ends) (sym more);
    }

pub returns-clause-after : goal.returns-clause-after
returns-clause-after c =
    let p = c.args.self.now in
    let x = c.args.content.now in
    let f = fitting p x c.requires.fits in
    let place : p.count < length p.places.now = omega (arith, f.place) in
    let fit = all_bytes p in
    let more =
    pieces_added p.bytes.now _ x p.used p.count p.places.now place (inside p)
    (take_put p.used (p.used + length x - p.used) p.bytes.now c.copy_from_slice.new.self fit)
    (copied_piece p.bytes.now c.copy_from_slice.new.self x p.used fit c.copy_from_slice.ensures.after) in
    put_fresh (meant p) _ x c.requires.fresh c.requires.fits more (search rules) (search rules)
