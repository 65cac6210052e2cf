-- The places in the order of first use are indices as a file wants them.
use Rattle.std.proofs.Common.{◌≡◌, ℕ, suc, ◌+◌, ◌<◌, ◌≤◌, max, Bool, true, false, cond, not, ◌&&◌, eqb, leb, List, [], ◌∷◌, ◌++◌, map, length, sym, refl, ap, ◌∙◌, inl, inr, append_assoc, append-nil, arith}
use Rattle.std.proofs.lemmas.List.{length-append, length_push, length-map}
use Rattle.std.proofs.lemmas.Bool.{and_parts, and_from, le-leb, cases_eq, cases_lt}
use Rattle.std.specs.List.{flat_map, list_all, list_any}
use Rattle.model.specs.Contents.{Pool, holds}
use Rattle.model.specs.Records.{Record}
use Rattle.model.specs.declared.command.Command.{Command}
use Rattle.model.specs.declared.record.Use.{Use}
use Rattle.trace.specs.Format.{noted, raised, higher, push, index_ok, use_ok, count_ok, known_command, record_ok}
use Rattle.trace.specs.Reads.{after, each}
use Rattle.trace.specs.Told.{met}
use Rattle.trace_write.proofs.Lists.{place_same, place_other, place_low, listed_old, listed_new}
use Rattle.trace.proofs.Chains.{after_append}
use Rattle.trace_write.proofs.Selects.{with_command, chosen_ok, savable_parts}
use Rattle.trace_write.specs.Saves.{use_savable, savable, place, listed, numbers_in, indexed_use, indexed}

-- listing only adds at the end
pub record Longer (ns o : List ℕ) : Type 0 where
  pub more : List ℕ
  pub same : ns ≡ o ++ more

longer_one : (o : List ℕ) (n : ℕ) → Longer (listed o n) o
longer_one o n = by (list_any (λ m. eqb m n) o)
  where
    by : (t : Bool) → Longer (cond t o (o ++ n ∷ [])) o
    by true = record { more = []; same = sym (append-nil o) }
    by false = record { more = n ∷ []; same = refl }

pub longer : (o ms : List ℕ) → Longer (after listed o ms) o
longer o [] = record { more = []; same = sym (append-nil o) }
longer o (m ∷ ms) =
    let a = longer_one o m in
    let b = longer (listed o m) ms in
    record { more = a.more ++ b.more; same = b.same ∙ ap (λ l. l ++ b.more) a.same ∙ append_assoc o a.more b.more }

pub place_front : (n : ℕ) (o xs : List ℕ) → place n o ≤ length o → place n (o ++ xs) ≡ place n o
place_front n [] xs h = absurd (omega arith)
place_front n (m ∷ o) xs h =
    elim (cases_eq n m) [
      | inl e ↦ place_same n m (o ++ xs) e ∙ sym (place_same n m o e)
      | inr ne ↦
          place_other n m (o ++ xs) ne ∙ ap suc (place_front n o xs (let a = place_other n m o ne in omega arith)) ∙ sym (place_other n m o ne)
    ]

pub place_end : (n : ℕ) (o xs : List ℕ) → length o < place n o → place n (o ++ n ∷ xs) ≡ length o + 1
place_end n [] xs h = place_same n n xs refl
place_end n (m ∷ o) xs h =
    elim (cases_eq n m) [
      | inl e ↦ absurd (let a = place_same n m o e in omega arith)
      | inr ne ↦ (let a = place_other n m o ne in let b = place_end n o xs (omega arith) in let c = place_other n m (o ++ n ∷ xs) ne in omega arith)
    ]

-- ns is the whole order
module _ (ns : List ℕ) where
  pub record Index (o : List ℕ) (n : ℕ) : Type 0 where
    pub ok : index_ok (length ns) (length o) (place n ns) ≡ true
    pub high : max (length o) (place n ns) ≡ length (listed o n)

  index_from : (o : List ℕ) (n : ℕ) → 1 ≤ place n ns → place n ns ≤ length ns → place n ns ≤ length o + 1 → max (length o) (place n ns) ≡ length (listed o n) → Index o n
  index_from o n a b c e =
      record { ok = and_from (leb 1 (place n ns) && leb (place n ns) (length ns)) _ (and_from (leb 1 (place n ns)) _ (le-leb _ _ a) (le-leb _ _ b)) (le-leb _ _ c); high = e }

  pub one_index : (o : List ℕ) (n : ℕ) (ms : List ℕ) → ns ≡ after listed (listed o n) ms → Index o n
  one_index o n ms e =
      let l = longer (listed o n) ms in
      let low = place_low n ns in
      elim (cases_lt (length o) (place n o)) [
        | inl past ↦
            (let new = listed_new o n past in
            let whole : ns ≡ o ++ n ∷ l.more = e ∙ l.same ∙ ap (λ x. x ++ l.more) new ∙ append_assoc o (n ∷ []) l.more in
            let at : place n ns ≡ length o + 1 = ap (place n) whole ∙ place_end n o l.more past in
            let size = ap length whole ∙ length-append o (n ∷ l.more) in
            let grown = ap length new ∙ length_push o n in
            index_from o n low (omega arith) (omega arith) (omega arith))
        | inr there ↦
            (let old = listed_old o n there in
            let whole : ns ≡ o ++ l.more = e ∙ l.same ∙ ap (λ x. x ++ l.more) old in
            let at : place n ns ≡ place n o = ap (place n) whole ∙ place_front n o l.more there in
            let size = ap length whole ∙ length-append o l.more in
            index_from o n low (omega arith) (omega arith) (omega (arith, ap length old)))
      ]

  module _ (p : Pool) where
    use_index : (u : Use) (o ms : List ℕ) → use_savable p u ≡ true → ns ≡ after listed (listed o u.number) ms → use_ok (length ns) (length o) (indexed_use ns u) ≡ true
    use_index u o ms s e = and_from (leb u.file 63) _ (and_parts (leb u.file 63) (holds p u.number) s).0 (one_index o u.number ms e).ok

    pub uses_indices : (us : List Use) (o ms : List ℕ) → list_all (use_savable p) us ≡ true → ns ≡ after listed o (map (λ u. u.number) us ++ ms) → (each (use_ok (length ns)) higher (length o) (map (indexed_use ns) us) ≡ true) × (after higher (length o) (map (indexed_use ns) us) ≡ length (after listed o (map (λ u. u.number) us)))
    uses_indices [] o ms s e = (refl, refl)
    uses_indices (u ∷ us) o ms s e =
        let t = and_parts (use_savable p u) (list_all (use_savable p) us) s in
        let rest = map (λ v. v.number) us ++ ms in
        let i = one_index o u.number rest e in
        let more = uses_indices us (listed o u.number) ms t.1 e in (
          and_from (use_ok (length ns) (length o) (indexed_use ns u)) _ (use_index u o rest t.0 e)
              (ap (λ h. each (use_ok (length ns)) higher h (map (indexed_use ns) us)) i.high ∙ more.0),
          ap (λ h. after higher h (map (indexed_use ns) us)) i.high ∙ more.1,
        )

    -- a record after the commands cs, where the numbers o have been listed
    one_record : (cs : List Command) (o : List ℕ) (r : Record) (ms : List ℕ) → chosen_ok p cs r ≡ true → ns ≡ after listed o (numbers_in r ++ ms) → (record_ok (length ns) (met cs (length o)) (indexed ns r) ≡ true) × (raised (length o) (indexed ns r) ≡ length (after listed o (numbers_in r)))
    one_record cs o r ms c e =
        let a = and_parts (savable p r) (not (known_command r.command cs)) c in
        let s = savable_parts p r a.0 in
        let reads = map (λ u. u.number) r.reads in
        let n = r.write.number in
        let us = uses_indices r.reads o (n ∷ ms) s.reads (e ∙ ap (after listed o) (append_assoc reads (n ∷ []) ms)) in
        let o1 = after listed o reads in
        let last : ns ≡ after listed (listed o1 n) ms =
        e ∙ ap (after listed o) (append_assoc reads (n ∷ []) ms) ∙ after_append listed o reads (n ∷ ms) in
        let high = after higher (length o) (map (indexed_use ns) r.reads) in
        let w = ap (λ h. use_ok (length ns) h (indexed_use ns r.write)) us.1 ∙ use_index r.write o1 ms s.write last in (
          and_from _ _ (and_from _ _ s.files a.1)
              (and_from _ _ (ap count_ok (length-map r.reads (indexed_use ns)) ∙ s.count) (and_from _ _ (and_from _ _ us.0 w) refl)),
          ap (λ h. max h (place n ns)) us.1 ∙ (one_index o1 n ms last).high ∙ ap length (sym (after_append listed o reads (n ∷ []))),
        )

    pub all_records : (cs : List Command) (o : List ℕ) (ss : List Record) → each (chosen_ok p) with_command cs ss ≡ true → ns ≡ after listed o (flat_map numbers_in ss) → (each (record_ok (length ns)) noted (met cs (length o)) (map (indexed ns) ss) ≡ true) × ((after noted (met cs (length o)) (map (indexed ns) ss)).high ≡ length ns)
    all_records cs o [] c e = (refl, ap length (sym e))
    all_records cs o (r ∷ ss) c e =
        let a = and_parts (chosen_ok p cs r) _ c in
        let one = one_record cs o r (flat_map numbers_in ss) a.0 e in
        let o1 = after listed o (numbers_in r) in
        let more = all_records (push cs r.command) o1 ss a.1 (e ∙ after_append listed o (numbers_in r) (flat_map numbers_in ss)) in (
          and_from (record_ok (length ns) (met cs (length o)) (indexed ns r)) _ one.0
              (ap (λ h. each (record_ok (length ns)) noted (met (push cs r.command) h) (map (indexed ns) ss)) one.1 ∙ more.0),
          ap (λ h. (after noted (met (push cs r.command) h) (map (indexed ns) ss)).high) one.1 ∙ more.1,
        )
