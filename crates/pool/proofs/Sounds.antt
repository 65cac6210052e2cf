-- What holds of every pool: other crates take it from here, or from what `count` promises.
use Rattle.std.proofs.Common.{ℕ, ◌<◌, ◌≤◌, [], length, get_or, ap, inl, inr, arith}
use Rattle.std.proofs.lemmas.Bool.{cases_lt}
use Rattle.std.proofs.lemmas.List.{get_or_past}
use Rattle.pool.specs.Contents.{held, meant}
use Rattle.pool.specs.Pieces.{nowhere}
use Rattle.pool.specs.Sound.{Sound}
use Rattle.pool.specs.declared.holder.Pool.{Pool}
use Rattle.pool.proofs.Places.{count_held, used_held, length_piece, within_bytes, getD_pieces, all_places}

pub sound : (p : Pool) → Sound (meant p)
sound p = record {
  count = omega (arith, count_held p, p.places_fit);
  used = omega (arith, used_held p, p.bytes_fit);
  places = omega arith;
  room = omega arith;
  short = λ i h.
      let lt : i < p.count = omega (arith, count_held p) in
      let place = get_or p.places.now i nowhere in
      omega (arith, ap length (getD_pieces p.bytes.now p.count p.places.now i (all_places p) lt), length_piece p.bytes.now place (within_bytes p i lt), p.short i lt);
  apart = p.apart;
}

-- what stands at any place is short: past the last there is nothing
pub short_held : (p : Pool) (k : ℕ) → length (get_or (held p) k []) ≤ 4096
short_held p k =
    elim (cases_lt k (length (held p))) [
      | inl h ↦ (sound p).short k h
      | inr h ↦ omega (arith, ap length (get_or_past (held p) k [] h))
    ]
