-- What is saved is a trace that a file can hold: it is read back.
use Rattle.std.proofs.Common.{◌≡◌, ℕ, ◌-◌, ◌≤◌, Bool, true, false, cond, eqb, leb, List, [], ◌∷◌, ◌++◌, map, length, Ok, sym, refl, ap, ◌∙◌, subst, inl, inr, append_assoc, arith}
use Rattle.std.proofs.ByRecursion.{All-push, All-weaker}
use Rattle.std.proofs.lemmas.Slice.Eq.{bytes_eq-Decides}
use Rattle.std.proofs.lemmas.List.{length-map, map_push}
use Rattle.std.proofs.lemmas.Bool.{and_from, or_from, not_from_false, le-leb, eq-eqb, cases_Bool, cases_order}
use Rattle.std.specs.List.{flat_map, list_any, AllByRecursion}
use Rattle.std.specs.Str.{bytes_eq}
use Rattle.model.specs.Contents.{Pool, count, content, mem}
use Rattle.model.specs.Records.{Record}
use Rattle.pool.specs.Sound.{Sound}
use Rattle.trace.proofs.Forths.{read_back}
use Rattle.trace.specs.Format.{push, content_ok, start, noted, record_ok, decoded, encoded, lawful}
use Rattle.trace.specs.Reads.{after, each}
use Rattle.trace_write.proofs.Indices.{all_records}
use Rattle.trace_write.proofs.Lists.{not_there, apart_push, no_more}
use Rattle.trace_write.proofs.Selects.{In, chosen_ok, with_command, chosen_all, all_numbers}
use Rattle.trace_write.specs.Rooms.{Apart}
use Rattle.trace_write.specs.Saves.{chosen, listed, numbers_in, order, indexed, to_save}

-- THE ORDER: numbers of the pool, each once

module _ (P : ℕ → Type 0) where
  once_more : (o : List ℕ) (n : ℕ) → AllByRecursion P o → Apart o → P n → AllByRecursion P (listed o n) × Apart (listed o n)
  once_more o n a b c = by (list_any (λ m. eqb m n) o) refl
    where
      by : (t : Bool) → list_any (λ m. eqb m n) o ≡ t → AllByRecursion P (cond t o (o ++ n ∷ [])) × Apart (cond t o (o ++ n ∷ []))
      by true e = (a, b)
      by false e = (All-push P o n a c, apart_push o n b (not_there n o e))

  pub all_once : (o ms : List ℕ) → AllByRecursion P o → Apart o → AllByRecursion P ms → AllByRecursion P (after listed o ms) × Apart (after listed o ms)
  all_once o [] a b c = (a, b)
  all_once o (m ∷ ms) a b c = let d = once_more o m a b c.0 in all_once (listed o m) ms d.0 d.1 c.1

-- THE CONTENTS: no two are equal

apart_middle : (ms : List ℕ) (n : ℕ) (ns : List ℕ) → Apart (ms ++ n ∷ ns) → AllByRecursion (λ m. m ≡ n → ⊥) ms
apart_middle [] n ns a = tt
apart_middle (m ∷ ms) n ns a = (at ms a.0, apart_middle ms n ns a.1)
  where
    at : (ks : List ℕ) → AllByRecursion (λ k. m ≡ k → ⊥) (ks ++ n ∷ ns) → m ≡ n → ⊥
    at [] b = b.0
    at (k ∷ ks) b = at ks b.1

module _ (p : Pool) (sound : Sound p) where
  differ : (n m : ℕ) → In p n → In p m → (m ≡ n → ⊥) → bytes_eq (content p n) (content p m) ≡ false
  differ n m a b ne =
      elim (cases_Bool (bytes_eq (content p n) (content p m))) [
        | inl t ↦
            (let same = (bytes_eq-Decides (content p n) (content p m)).0 t in
            elim (cases_order n m) [
              | inl e ↦ absurd (ne (sym e))
              | inr (inl h) ↦ absurd (sound.apart (n - 1) (m - 1) (omega (arith, a.0)) (omega (arith, b.0, b.1)) same)
              | inr (inr h) ↦ absurd (sound.apart (m - 1) (n - 1) (omega (arith, b.0)) (omega (arith, a.0, a.1)) (sym same))
            ])
        | inr f ↦ f
      ]

  fresh : (n : ℕ) (ms : List ℕ) → In p n → AllByRecursion (In p) ms → AllByRecursion (λ m. m ≡ n → ⊥) ms → mem (content p n) (map (content p) ms) ≡ false
  fresh n [] a b c = refl
  fresh n (m ∷ ms) a b c = or_from _ _ (differ n m a b.0 c.0) (fresh n ms a b.1 c.1)

  contents_ok : (ms ns : List ℕ) → AllByRecursion (In p) ms → AllByRecursion (In p) ns → Apart (ms ++ ns) → each content_ok push (map (content p) ms) (map (content p) ns) ≡ true
  contents_ok ms [] a b c = refl
  contents_ok ms (n ∷ ns) a b c =
      let short = le-leb (length (content p n)) 4096 (sound.short (n - 1) (omega (arith, b.0.0, b.0.1))) in
      let new = not_from_false _ (fresh n ms b.0 a (apart_middle ms n ns c)) in
      let more = contents_ok (ms ++ n ∷ []) ns (All-push (In p) ms n a b.0) b.1 (subst Apart (sym (append_assoc ms (n ∷ []) ns)) c) in
      and_from (content_ok (map (content p) ms) (content p n)) _ (and_from (leb (length (content p n)) 4096) _ short new)
      (ap (λ es. each content_ok push es (map (content p) ns)) (sym (map_push (content p) ms n)) ∙ more)

  -- THE WHOLE

  module _ (rs : List Record) where
    abbrev ss : List Record
    ss = chosen p rs

    abbrev ns : List ℕ
    ns = order ss

    pub chosen_are : (each (chosen_ok p) with_command [] ss ≡ true) × (length ss ≤ 256)
    chosen_are = chosen_all p [] rs refl (omega arith)

    pub listed_are : AllByRecursion (In p) ns × Apart ns
    listed_are = all_once (In p) [] (flat_map numbers_in ss) tt tt (all_numbers p [] ss chosen_are.0)

    pub few_numbers : length ns ≤ 1024
    few_numbers =
        let a = listed_are in
        let few = no_more (count p) ns (All-weaker (In p) (λ n. 1 ≤ n) (λ n h. h.0) ns a.0) (All-weaker (In p) (λ n. n ≤ count p) (λ n h. h.1) ns a.0) a.1 in
        omega (arith, sound.count, sound.places)

    pub saved_lawful : lawful (to_save p rs) ≡ true
    saved_lawful =
        let a = listed_are in
        let n = length-map ns (content p) in
        let m = length-map ss (indexed ns) in
        let r = all_records ns p [] [] ss chosen_are.0 refl in
        let c = chosen_are.1 in
        let d = few_numbers in
        and_from _ _ (and_from _ _ (le-leb (length (map (content p) ns)) 1024 (omega arith)) (contents_ok [] ns tt a.0 a.1))
        (and_from _ _
        (and_from _ _ (le-leb (length (map (indexed ns) ss)) 256 (omega arith))
        (ap (λ k. each (record_ok k) noted start (map (indexed ns) ss)) n ∙ r.0))
        (eq-eqb _ _ (r.1 ∙ sym n)))

    pub saved_back : decoded (encoded (to_save p rs)) ≡ Ok (to_save p rs)
    saved_back = read_back (to_save p rs) saved_lawful
