-- A number that the table does not list is listed at the end, and the table tells its place.
use Rattle.std.proofs.Common.{◌≡◌, ℕ, ◌+◌, ◌≤◌, false, eqb, List, [], ◌∷◌, ◌++◌, length, slice_set, sym, ap, ◌∙◌, subst, inl, inr, arith}
use Rattle.std.proofs.lemmas.Bool.{cases_eq}
use Rattle.std.proofs.lemmas.List.{get_or-set_same, get_or-set_other, length-set, length_push}
use Rattle.std.specs.List.{AllByRecursion, list_any, slice_index}
use Rattle.trace_write.proofs.Listed.{is_new, push_same, push_other}
use Rattle.trace_write.proofs.Orders.{note_room, note_numbers, note_apart}
use Rattle.trace_write.specs.Rooms.{Number, Apart}
use Rattle.trace_write.specs.Saves.{place_listed}
use Rattle.trace_write.proofs.order.Order.note.Goals as goal

pub push-requires : goal.push-requires
push-requires c =
    let o = c.args.self.now in
    let ns = o.numbers.items in
    let n = c.args.number in
    let new = is_new n ns (sym c.listed.ensures.value ∙ c.if-listed-eq0.true) in
    (omega arith, note_room ns o.all o.apart n c.requires new)

-- the table with the new number's place
placed : (n : ℕ) (ns places : List ℕ) (at : ℕ) → length places ≡ 1025 → n ≤ 1024 → list_any (λ m. eqb m n) ns ≡ false → at ≡ length ns + 1
    → ((m : ℕ) → m ≤ 1024 → slice_index places m ≡ place_listed m ns)
    → (m : ℕ) → m ≤ 1024 → slice_index (slice_set places n at) m ≡ place_listed m (ns ++ n ∷ [])
placed n ns places at size low new at_end old m few =
    elim (cases_eq m n) [
      | inl e ↦ subst (λ k. slice_index (slice_set places n at) k ≡ place_listed k (ns ++ n ∷ [])) (sym e)
          (get_or-set_same places n at 0 (omega (arith, size)) ∙ at_end ∙ sym (push_same n ns new))
      | inr ne ↦ get_or-set_other places n m at 0 ne ∙ old m few ∙ sym (push_other n ns m ne)
    ]

pub invariant_of-self : goal.invariant_of-self
invariant_of-self c =
    let o = c.args.self.now in
    let ns = o.numbers.items in
    let n = c.args.number in
    let new = is_new n ns (sym c.listed.ensures.value ∙ c.if-listed-eq0.true) in
    let at_end : c.len.result ≡ length ns + 1 = c.len.ensures.value ∙ ap length c.push.ensures.items ∙ length_push ns n in
    record {
      all = subst (AllByRecursion Number) (sym c.push.ensures.items) (note_numbers ns o.all o.apart n c.requires new);
      apart = subst Apart (sym c.push.ensures.items) (note_apart ns o.all o.apart n c.requires new);
      long = length-set o.places n c.len.result ∙ o.long;
      placed = λ m few. placed n ns o.places c.len.result o.long c.requires.1 new at_end o.placed m few ∙ ap (place_listed m) (sym c.push.ensures.items);
    }
