-- What is told of builds, part by part.
use Rattle.std.proofs.Common.{◌≡◌, ℕ, ◌+◌, ◌-◌, ◌<◌, ◌≤◌, Bool, true, false, cond, nat_le, List, ◌++◌, length, take, get_or, Ok, Err, Result, ap, ◌∙◌, subst, refl, arith}
use Rattle.std.proofs.lemmas.List.{take-append-drop, length-drop}
use Rattle.std.specs.Result.{result_unwrap_or}
use borrow.Rule.Slice.PartMut.{mid_of, put_mid}
use Rattle.std.specs.List.{flat_map}
use Rattle.output.specs.Writes.{laid, Room, Writes}
use Rattle.output.specs.declared.writing.Output.{Output}
use Rattle.output.proofs.Steps.{each_more, each_room}
use Rattle.model.specs.Load.{Traced}
use Rattle.model.specs.declared.refusal.Refusal.{Refusal}
use Rattle.model.specs.declared.refusal.Refusal.TheVariants.{SaveBufferShort}
use Rattle.model.specs.declared.answers.BuildRefusal.{BuildRefusal}
use Rattle.model.specs.declared.answers.Built.{Built}
use Rattle.trace.specs.Reads.{two_bytes}
use Rattle.trace.specs.Format.{encoded}
use Rattle.trace_write.specs.Puts.{saved, after_save}
use Rattle.boundary.specs.Accounts.{head, four_bytes, trace_part}
use Rattle.boundary.proofs.Parts.{rest_is, put_rest, into_rest, in_front}
use Rattle.boundary.proofs.Putting.{two_each}

pub head_size : (a : Result Built BuildRefusal) (fs : List ℕ) → length fs ≡ 64 → length (head a fs) ≡ 134
head_size a fs long = omega (arith, two_each fs)

-- one file's number more
module _ (fs : List ℕ) (long : length fs ≡ 64) (f : ℕ) (lt : f < 64) {a b : Output} (so_far : Writes (flat_map two_bytes (take f fs)) a b) where
  pub room : Room 128 a → Room (length (two_bytes (get_or fs f 0))) b
  room r = let t = two_each fs in each_room two_bytes fs f 0 (omega arith) (omega arith) so_far

  pub more : {c : Output} → Writes (two_bytes (get_or fs f 0)) b c → Writes (flat_map two_bytes (take (f + 1) fs)) a c
  more w = each_more two_bytes fs f 0 (omega arith) so_far w

-- THE TRACE FILE, into the part of a buffer behind its length
module _ (t : Traced) (out ys : List ℕ) (fits : 4 ≤ length out) (after : ys ≡ after_save t (mid_of 4 (length out - 4) out)) where
  abbrev room_left : ℕ
  room_left = length out - 4

  trace_by : (b : Bool) (len : ℕ) → nat_le (length (encoded t)) room_left ≡ b → len ≡ result_unwrap_or (cond b (Ok (length (encoded t))) (Err SaveBufferShort)) 0 →
      ys ≡ cond b (laid 0 (encoded t) (mid_of 4 room_left out)) (mid_of 4 room_left out) →
      laid 0 (four_bytes len) (put_mid 4 room_left out ys) ≡ laid 0 (cond b (four_bytes (length (encoded t)) ++ encoded t) (four_bytes 0)) out
  trace_by true len e is laid_is =
      ap (λ n. laid 0 (four_bytes n) (put_mid 4 room_left out ys)) is
      ∙ ap (laid 0 (four_bytes (length (encoded t)))) (into_rest 4 (encoded t) out ys laid_is)
      ∙ in_front 4 (four_bytes (length (encoded t))) (encoded t) out refl fits
  trace_by false len e is same =
      ap (λ n. laid 0 (four_bytes n) (put_mid 4 room_left out ys)) is
      ∙ ap (laid 0 (four_bytes 0)) (put_rest 4 out ys ∙ ap (λ r. take 4 out ++ r) (same ∙ rest_is 4 out) ∙ take-append-drop 4 out)

  pub trace_told : (r : Result ℕ Refusal) (len : ℕ) → r ≡ saved t (mid_of 4 room_left out) → len ≡ result_unwrap_or r 0 →
      laid 0 (four_bytes len) (put_mid 4 room_left out ys) ≡ laid 0 (trace_part room_left t) out
  trace_told r len told is =
      let long : length (mid_of 4 room_left out) ≡ room_left = ap length (rest_is 4 out) ∙ length-drop 4 out in
      let P : ℕ → Type 0 = λ n. r ≡ cond (nat_le (length (encoded t)) n) (Ok (length (encoded t))) (Err SaveBufferShort) in
      let Q : ℕ → Type 0 = λ n. ys ≡ cond (nat_le (length (encoded t)) n) (laid 0 (encoded t) (mid_of 4 room_left out)) (mid_of 4 room_left out) in
      trace_by (nat_le (length (encoded t)) room_left) len refl (is ∙ ap (λ q. result_unwrap_or q 0) (subst P long told)) (subst Q long after)
