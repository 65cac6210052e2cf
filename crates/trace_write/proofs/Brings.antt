-- The records of what is saved, taken into an empty pool and book, say in bytes what the chosen records say.
use Rattle.std.proofs.Common.{◌≡◌, ℕ, suc, ◌-◌, ◌≤◌, true, List, [], ◌∷◌, map, length, get_or, sym, refl, ap, ◌∙◌, subst, inl, inr, arith}
use Rattle.std.proofs.lemmas.List.{length-map}
use Rattle.std.proofs.lemmas.Bool.{and_parts, and_from, le-leb, cases_eq}
use Rattle.std.specs.List.{AllByRecursion}
use Rattle.model.specs.Contents.{Content, Pool, holds, content}
use Rattle.model.specs.Records.{Record}
use Rattle.model.specs.declared.record.Standing.TheVariants.{Hint}
use Rattle.model.specs.declared.record.Use.{Use}
use Rattle.trace.specs.Format.{Before, start, noted, higher, use_ok, record_ok}
use Rattle.trace.specs.Reads.{after, each}
use Rattle.trace_write.proofs.Lawfuls.{listed_are, saved_lawful}
use Rattle.trace_write.proofs.Lists.{place_same, place_other, place_low}
use Rattle.trace_write.proofs.Rounds.{put_all, use_lawful, record_lawful, hints_all, lawful_parts}
use Rattle.trace_write.proofs.Selects.{In}
use Rattle.trace_write.specs.Laws.{seen, shown, BroughtBack}
use Rattle.trace_write.specs.Saves.{chosen, place, order, indexed_use, indexed, to_save}

-- THE PLACE of a number that is listed

place_at : (f : ℕ → Content) (n : ℕ) (ns : List ℕ) → place n ns ≤ length ns → get_or (map f ns) (place n ns - 1) [] ≡ f n
place_at f n [] h = absurd (omega arith)
place_at f n (m ∷ ns) h =
    elim (cases_eq n m) [
      | inl e ↦ ap (λ k. get_or (map f (m ∷ ns)) (k - 1) []) (place_same n m ns e) ∙ ap f (sym e)
      | inr ne ↦
          (let a = place_other n m ns ne in
          let low = place_low n ns in
          let next : place n (m ∷ ns) - 1 ≡ suc (place n ns - 1) = omega arith in
          ap (λ k. get_or (map f (m ∷ ns)) k []) next ∙ place_at f n ns (omega arith))
    ]

all_at : (P : ℕ → Type 0) (n : ℕ) (ns : List ℕ) → AllByRecursion P ns → place n ns ≤ length ns → P n
all_at P n [] a h = absurd (omega arith)
all_at P n (m ∷ ns) a h =
    elim (cases_eq n m) [
      | inl e ↦ subst P (sym e) a.0
      | inr ne ↦ (let b = place_other n m ns ne in all_at P n ns a.1 (omega arith))
    ]

-- q holds the contents of the numbers ns of p, in their order
module _ (p q : Pool) (ns : List ℕ) (same : q.contents ≡ map (content p) ns) (all : AllByRecursion (In p) ns) where
  abbrev n : ℕ
  n = length (map (content p) ns)

  use_same : (h : ℕ) (u : Use) → use_ok n h (indexed_use ns u) ≡ true → seen q (indexed_use ns u) ≡ seen p u
  use_same h u e =
      let k = place u.number ns in
      let there : k ≤ length ns = omega (arith, (use_lawful n h (indexed_use ns u) e).high, length-map ns (content p)) in
      let was = all_at (In p) u.number ns all there in
      let in_q : holds q k ≡ true = and_from _ _ (le-leb 1 k (place_low u.number ns)) (le-leb _ _ (omega (arith, ap length same, length-map ns (content p)))) in
      let in_p : holds p u.number ≡ true = and_from _ _ (le-leb _ _ was.0) (le-leb _ _ was.1) in
      let bytes : content q k ≡ content p u.number = ap (λ xs. get_or xs (k - 1) []) same ∙ place_at (content p) u.number ns there in
      rw (in_q, in_p, bytes)

  uses_same : (h : ℕ) (us : List Use) → each (use_ok n) higher h (map (indexed_use ns) us) ≡ true → map (seen q) (map (indexed_use ns) us) ≡ map (seen p) us
  uses_same h [] e = refl
  uses_same h (u ∷ us) e =
      let a = and_parts (use_ok n h (indexed_use ns u)) _ e in
      rw (use_same h u a.0, uses_same (higher h (indexed_use ns u)) us a.1)

  record_same : (s : Before) (r : Record) → record_ok n s (indexed ns r) ≡ true → shown q (indexed ns r) ≡ shown p r
  record_same s r e =
      let l = record_lawful n s (indexed ns r) e in
      rw (uses_same s.high r.reads l.reads, use_same (after higher s.high (map (indexed_use ns) r.reads)) r.write l.write)

  records_same : (s : Before) (rs : List Record) → each (record_ok n) noted s (map (indexed ns) rs) ≡ true → map (shown q) (map (indexed ns) rs) ≡ map (shown p) rs
  records_same s [] e = refl
  records_same s (r ∷ rs) e =
      let a = and_parts (record_ok n s (indexed ns r)) _ e in
      rw (record_same s r a.0, records_same (noted s (indexed ns r)) rs a.1)

all_hints : (ns : List ℕ) (rs : List Record) → map (λ r. r.standing) (map (indexed ns) rs) ≡ map (λ r. Hint) rs
all_hints ns [] = refl
all_hints ns (r ∷ rs) = ap (λ ss. Hint ∷ ss) (all_hints ns rs)

pub brought_back : BroughtBack
brought_back p rs e q sound empty taken =
    let t = to_save p rs in
    let ns = order (chosen p rs) in
    let l = lawful_parts t (saved_lawful p sound rs) in
    let same = put_all t.contents [] e q empty l.contents taken in
    let back = hints_all t.contents q same l.contents start [] t.records refl l.records in
    rw back (records_same p q ns same (listed_are p sound rs).0 start (chosen p rs) l.records, all_hints ns (chosen p rs))
