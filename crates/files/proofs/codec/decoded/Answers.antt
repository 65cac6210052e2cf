-- With a number for each file, the table is the map.
use denote.Param.Members.{Mut}
use Rattle.std.proofs.Common.{◌≡◌, ℕ, zero, suc, ◌+◌, ◌<◌, ◌≤◌, List, get_or, sym, ap, ◌∙◌, subst, inl, inr, arith, rules, tests}
use Rattle.std.proofs.lemmas.Bool.{cases_eq}
use Rattle.std.proofs.lemmas.List.{ext_get_or}
use Rattle.std.specs.Array.{IsFromFnResultFrom}
use Rattle.std.specs.Fn.{Called}
use Rattle.files.specs.Layout.{mapped}
use Rattle.files.specs.Trips.{mapped_long}
use Rattle.files.proofs.codec.decoded.Goals as goal

-- calls that give the elements of a list, and leave the closure as it was, fill an array with that list
filled : {F : Type 0} (g : Mut F (ℕ × Unit {0}) ℕ) (f : F) (ms ys : List ℕ) (i n : ℕ) → ((k y : ℕ) (q : F) → Called g f (k, tt) y q → (q ≡ f) × (y ≡ get_or ms k 0)) → IsFromFnResultFrom g f ys i n → (k : ℕ) → i ≤ k → k < i + n → get_or ys k 0 ≡ get_or ms k 0
filled g f ms ys i zero call each k low high = absurd (omega arith)
filled g f ms ys i (suc n) call each k low high =
    let first = call i each.1 each.0 each.3 in
    elim (cases_eq k i) [
      | inl e ↦ ap (λ j. get_or ys j 0) e ∙ each.2.1 0 ∙ first.1 ∙ ap (λ j. get_or ms j 0) (sym e)
      | inr ne ↦ filled g f ms ys (i + 1) n call (subst (λ q. IsFromFnResultFrom g q ys (i + 1) n) first.0 each.4) k (omega arith) (omega arith)
    ]

pub returns : goal.returns
returns c =
    let items = c.from_fn.ensures.items in
    let ms = mapped c.args.bytes.now in
    ext_get_or 0 c.from_fn.result ms (items.long ∙ sym (mapped_long c.args.bytes.now))
    (λ k h. filled _ _ ms c.from_fn.result 0 64 (λ i y q called. (search rules, search (rules, tests))) items.each k (omega arith) (omega (arith, items.long)))
