-- The contents and records of an accepted file, taken into an empty pool and book, are saved as the file's own trace.
use Rattle.std.proofs.Common.{◌≡◌, ℕ, zero, suc, ◌+◌, ◌-◌, ◌<◌, ◌≤◌, max, Bool, true, false, cond, not, ◌&&◌, eqb, leb, List, [], ◌∷◌, ◌++◌, map, length, get_or, take, Some, None, Ok, sym, refl, ap, ◌∙◌, inl, inr, append_assoc, append-nil, arith}
use Rattle.std.proofs.lemmas.Slice.Eq.{bytes_eq-Decides}
use Rattle.std.proofs.ByRecursion.{All-push, All-weaker}
use Rattle.std.proofs.lemmas.List.{length_push, map_push, take_more, take_all}
use Rattle.std.proofs.lemmas.Bool.{cond-true, cond-false, and_parts, and_from, or_parts, not-true, not_from_false, le-leb, leb-true, lt-ltb, eqb-true, eqb-false, cases_eq, cases_lt}
use Rattle.std.specs.List.{flat_map, list_all, AllByRecursion}
use Rattle.std.specs.Str.{bytes_eq}
use Rattle.model.specs.Contents.{Content, Pool, mem, find, up, fits, given, put, content}
use Rattle.model.specs.Records.{Record}
use Rattle.model.specs.Book.{unstruck, same_command, own, hint}
use Rattle.model.specs.Load.{Traced, puts, numbered, hints}
use Rattle.model.specs.declared.record.Standing.TheVariants.{Hint}
use Rattle.model.specs.declared.record.Use.{Use}
use Rattle.trace.proofs.Accepted.{accepted}
use Rattle.trace.proofs.Forths.{hint_forth}
use Rattle.trace.specs.Format.{Before, start, noted, raised, higher, push, content_ok, index_ok, use_ok, is_hint, count_ok, files_ok, known_command, record_ok, decoded, encoded, lawful}
use Rattle.trace.specs.Laws.{Bytes}
use Rattle.trace.specs.Reads.{after, each}
use Rattle.trace_write.proofs.Indices.{place_front, place_end}
use Rattle.trace_write.proofs.Lists.{place_other, listed_old, listed_new}
use Rattle.trace.proofs.Chains.{after_append}
use Rattle.trace_write.specs.Saves.{use_savable, savable, is_new, choice, chosen, numbers_in, place, listed, order, indexed_use, indexed, traced, to_save}

-- THE CONTENTS ARE PUT IN ORDER

put_new : (p : Pool) (x : Content) (es : List Content) → p.contents ≡ es → mem x es ≡ false → (given p x ≡ 0 → ⊥) → (put p x).contents ≡ es ++ x ∷ []
put_new p x es e new ne = by (mem x p.contents) (fits p x) (ap (mem x) e ∙ new) ne
  where
    by : (a b : Bool) → a ≡ false → (cond a (find x p.contents) (cond b (length p.contents + 1) 0) ≡ 0 → ⊥) → cond a p.contents (cond b (p.contents ++ x ∷ []) p.contents) ≡ es ++ x ∷ []
    by true b f n = let z : ◌≡◌ {A = ℕ} 0 1 = cc in absurd (omega arith)
    by false true f n = ap (λ l. l ++ x ∷ []) e
    by false false f n = absurd (n refl)

pub put_all : (xs es : List Content) (p q : Pool) → p.contents ≡ es → each content_ok push es xs ≡ true → puts xs p ≡ Some q → q.contents ≡ es ++ xs
put_all [] es p q e ok h = let same : p ≡ q = cc in ap (λ r. r.contents) (sym same) ∙ e ∙ sym (append-nil es)
put_all (x ∷ xs) es p q e ok h = by (eqb (given p x) 0) refl h (λ a b. put_all xs (push es x) (put p x) q a c.1 b)
  where
    c : (content_ok es x ≡ true) × (each content_ok push (push es x) xs ≡ true)
    c = and_parts (content_ok es x) (each content_ok push (push es x) xs) ok

    by : (b : Bool) → eqb (given p x) 0 ≡ b → cond b None (puts xs (put p x)) ≡ Some q → ((put p x).contents ≡ push es x → puts xs (put p x) ≡ Some q → q.contents ≡ push es x ++ xs) → q.contents ≡ es ++ x ∷ xs
    by true b f more = let z : ◌≡◌ {A = ℕ} 0 1 = cc in absurd (omega arith)
    by false b f more =
        let new = not-true (mem x es) (and_parts (leb (length x) 4096) (not (mem x es)) c.0).1 in
        more (put_new p x es e new (eqb-false (given p x) 0 b)) f ∙ append_assoc es (x ∷ []) xs

-- so each has the number of its place
find_new : (x : Content) (es ys : List Content) → mem x es ≡ false → find x (es ++ x ∷ ys) ≡ length es + 1
find_new x [] ys m = cond-true (bytes_eq x x) 1 (up (find x ys)) ((bytes_eq-Decides x x).1 refl)
find_new x (e ∷ es) ys m =
    let t = or_parts (bytes_eq x e) (mem x es) m in
    let one : length es + 1 ≡ suc (length es) = omega arith in
    let two : suc (suc (length es)) ≡ suc (length es) + 1 = omega arith in
    cond-false (bytes_eq x e) 1 (up (find x (es ++ x ∷ ys))) t.0 ∙ ap up (find_new x es ys t.1 ∙ one) ∙ two

find_place : (xs es : List Content) (j : ℕ) → each content_ok push es xs ≡ true → j < length xs → find (get_or xs j []) (es ++ xs) ≡ length es + j + 1
find_place [] es j ok h = absurd (omega arith)
find_place (x ∷ xs) es zero ok h =
    let c = and_parts (content_ok es x) _ ok in
    let d = and_parts (leb (length x) 4096) (not (mem x es)) c.0 in
    let z : length es + 1 ≡ length es + 0 + 1 = omega arith in
    find_new x es xs (not-true (mem x es) d.1) ∙ z
find_place (x ∷ xs) es (suc j) ok h =
    let c = and_parts (content_ok es x) (each content_ok push (push es x) xs) ok in
    let l = length_push es x in
    let more = find_place xs (push es x) j c.1 (omega arith) in
    let z : length (push es x) + j + 1 ≡ length es + suc j + 1 = omega arith in
    ap (find (get_or xs j [])) (sym (append_assoc es (x ∷ []) xs)) ∙ more ∙ z

-- THE NUMBERS 1 TO h

upto : ℕ → List ℕ
upto zero = []
upto (suc h) = upto h ++ suc h ∷ []

length_upto : (h : ℕ) → length (upto h) ≡ h
unfolding upto
length_upto zero = refl
length_upto (suc h) = let a = length_push (upto h) (suc h) in let b = length_upto h in omega arith

below : (h : ℕ) → AllByRecursion (λ m. m ≤ h) (upto h)
unfolding upto
below zero = tt
below (suc h) = All-push (λ m. m ≤ suc h) (upto h) (suc h) (All-weaker (λ m. m ≤ h) (λ m. m ≤ suc h) (λ m l. omega arith) (upto h) (below h)) (omega arith)

place_none : (n : ℕ) (o : List ℕ) → AllByRecursion (λ m. n ≡ m → ⊥) o → place n o ≡ length o + 1
place_none n [] a = refl
place_none n (m ∷ o) a = let b = place_other n m o a.0 in let c = place_none n o a.1 in omega arith

place_above : (n h : ℕ) → h < n → place n (upto h) ≡ h + 1
place_above n h lt =
    place_none n (upto h) (All-weaker (λ m. m ≤ h) (λ m. n ≡ m → ⊥) (λ m l e. omega arith) (upto h) (below h)) ∙ ap (λ k. k + 1) (length_upto h)

place_upto : (h i : ℕ) → 1 ≤ i → i ≤ h → place i (upto h) ≡ i
unfolding upto
place_upto zero i a b = absurd (omega arith)
place_upto (suc h) i a b =
    let l = length_upto h in
    elim (cases_eq i (suc h)) [
      | inl e ↦
          (let past = place_above (suc h) h (omega arith) in
          let at = place_end (suc h) (upto h) [] (omega arith) in
          let same = ap (λ k. place k (upto h ++ suc h ∷ [])) e in omega arith)
      | inr ne ↦
          (let old = place_upto h i a (omega arith) in
          let at = place_front i (upto h) (suc h ∷ []) (omega arith) in omega arith)
    ]

-- a number that is at most one above the highest is listed as the next
list_upto : (h i : ℕ) → 1 ≤ i → i ≤ h + 1 → listed (upto h) i ≡ upto (max h i)
unfolding upto
list_upto h i a b =
    let l = length_upto h in
    elim (cases_lt h i) [
      | inl lt ↦
          (let past = place_above i h lt in
          let same : i ≡ suc h = omega arith in
          let top : max h i ≡ suc h = omega arith in
          listed_new (upto h) i (omega arith)
          ∙ ap (λ k. upto h ++ k ∷ []) same
          ∙ ap upto (sym top))
      | inr le ↦
          (let at = place_upto h i a le in
          let top : max h i ≡ h = omega arith in
          listed_old (upto h) i (omega arith) ∙ ap upto (sym top))
    ]

-- THE RECORDS KEEP THEIR INDICES

-- what an accepted use says
pub record LawfulUse (n h : ℕ) (u : Use) : Type 0 where
  pub file : leb u.file 63 ≡ true
  pub low : 1 ≤ u.number
  pub high : u.number ≤ n
  pub next : u.number ≤ h + 1

pub use_lawful : (n h : ℕ) (u : Use) → use_ok n h u ≡ true → LawfulUse n h u
use_lawful n h u e =
    let i = u.number in
    let a = and_parts (leb u.file 63) (index_ok n h i) e in
    let b = and_parts (leb 1 i && leb i n) (leb i (h + 1)) a.1 in
    let c = and_parts (leb 1 i) (leb i n) b.0 in
    record { file = a.0; low = leb-true 1 i c.0; high = leb-true i n c.1; next = leb-true i (h + 1) b.1 }

pub record LawfulRecord (n : ℕ) (s : Before) (r : Record) : Type 0 where
  pub files : files_ok r.command ≡ true
  pub new : known_command r.command s.commands ≡ false
  pub count : count_ok (length r.reads) ≡ true
  pub reads : each (use_ok n) higher s.high r.reads ≡ true
  pub write : use_ok n (after higher s.high r.reads) r.write ≡ true
  pub standing : is_hint r.standing ≡ true

pub record_lawful : (n : ℕ) (s : Before) (r : Record) → record_ok n s r ≡ true → LawfulRecord n s r
record_lawful n s r e =
    let a = and_parts _ _ e in
    let b = and_parts (files_ok r.command) (not (known_command r.command s.commands)) a.0 in
    let c = and_parts (count_ok (length r.reads)) _ a.1 in
    let d = and_parts _ (is_hint r.standing) c.1 in
    let f = and_parts (each (use_ok n) higher s.high r.reads) (use_ok n (after higher s.high r.reads) r.write) d.0 in
    record { files = b.0; new = not-true _ b.1; count = c.0; reads = f.0; write = f.1; standing = d.1 }

-- a function of uses that leaves each lawful one as it is
uses_same : (n h : ℕ) (f : Use → Use) → ((g : ℕ) (u : Use) → LawfulUse n g u → f u ≡ u) → (us : List Use) → each (use_ok n) higher h us ≡ true → map f us ≡ us
uses_same n h f one [] e = refl
uses_same n h f one (u ∷ us) e =
    let a = and_parts (use_ok n h u) _ e in
    ap (λ v. v ∷ map f us) (one h u (use_lawful n h u a.0)) ∙ ap (λ vs. u ∷ vs) (uses_same n (higher h u) f one us a.1)

uses_pass : (n h : ℕ) (test : Use → Bool) → ((g : ℕ) (u : Use) → LawfulUse n g u → test u ≡ true) → (us : List Use) → each (use_ok n) higher h us ≡ true → list_all test us ≡ true
uses_pass n h test one [] e = refl
uses_pass n h test one (u ∷ us) e =
    let a = and_parts (use_ok n h u) _ e in and_from (test u) _ (one h u (use_lawful n h u a.0)) (uses_pass n (higher h u) test one us a.1)

uses_listed : (n h : ℕ) (us : List Use) → each (use_ok n) higher h us ≡ true → after listed (upto h) (map (λ u. u.number) us) ≡ upto (after higher h us)
uses_listed n h [] e = refl
uses_listed n h (u ∷ us) e =
    let a = and_parts (use_ok n h u) _ e in
    let b = use_lawful n h u a.0 in
    ap (λ o. after listed o (map (λ v. v.number) us)) (list_upto h u.number b.low b.next) ∙ uses_listed n (higher h u) us a.1

record_listed : (n : ℕ) (s : Before) (r : Record) → LawfulRecord n s r → after listed (upto s.high) (numbers_in r) ≡ upto (raised s.high r)
record_listed n s r l =
    let h = after higher s.high r.reads in
    let w = use_lawful n h r.write l.write in
    after_append listed (upto s.high) (map (λ u. u.number) r.reads) (r.write.number ∷ [])
    ∙ ap (λ o. listed o r.write.number) (uses_listed n s.high r.reads l.reads)
    ∙ list_upto h r.write.number w.low w.next

-- a record whose uses and standing are left as they are
record_same : (n : ℕ) (s : Before) (r : Record) (f : Use → Use) → ((g : ℕ) (u : Use) → LawfulUse n g u → f u ≡ u) → LawfulRecord n s r → ◌≡◌ {A = Record} (record { command = r.command; reads = map f r.reads; write = f r.write; standing = Hint }) r
record_same n s r f one l =
    let h = after higher s.high r.reads in
    ap (λ us. record { command = r.command; reads = us; write = f r.write; standing = Hint }) (uses_same n s.high f one r.reads l.reads)
    ∙ ap (λ u. record { command = r.command; reads = r.reads; write = u; standing = Hint }) (one h r.write (use_lawful n h r.write l.write))
    ∙ ap (λ t. record { command = r.command; reads = r.reads; write = r.write; standing = t }) (hint_forth r.standing l.standing)

-- THE RECORDS ARE TAKEN AND CHOSEN IN ORDER

hint_new : (q : Record) (rs : List Record) → known_command q.command (map (λ r. r.command) rs) ≡ false → hint q rs ≡ rs ++ q ∷ []
hint_new q [] e = refl
hint_new q (r ∷ rs) e =
    let t = or_parts (same_command q.command r.command) (known_command q.command (map (λ s. s.command) rs)) e in
    cond-false (same_command q.command r.command) (cond (own r.standing) (r ∷ rs) (q ∷ rs)) (r ∷ hint q rs) t.0 ∙ ap (λ l. r ∷ l) (hint_new q rs t.1)

-- the state after the records rs
abbrev Met : Before → List Record → Type 0
Met s rs = s.commands ≡ map (λ r. r.command) rs

met_more : (s : Before) (rs : List Record) (r : Record) → Met s rs → Met (noted s r) (rs ++ r ∷ [])
met_more s rs r e = ap (λ cs. cs ++ r.command ∷ []) e ∙ sym (map_push (λ x. x.command) rs r)

module _ (cs : List Content) (q : Pool) (same : q.contents ≡ cs) (ok : each content_ok push [] cs ≡ true) where
  abbrev n : ℕ
  n = length cs

  numbered_same : (g : ℕ) (u : Use) → LawfulUse n g u → numbered cs q u ≡ u
  numbered_same g u l =
      let low = l.low in
      let high = l.high in
      let z : 0 + (u.number - 1) + 1 ≡ u.number = omega arith in
      ap (λ k. record { file = u.file; number = k })
      (ap (find (get_or cs (u.number - 1) [])) same ∙ find_place cs [] (u.number - 1) ok (omega arith) ∙ z)

  indexed_same : (g : ℕ) (u : Use) → LawfulUse n g u → indexed_use (upto n) u ≡ u
  indexed_same g u l = ap (λ k. record { file = u.file; number = k }) (place_upto n u.number l.low l.high)

  use_passes : (g : ℕ) (u : Use) → LawfulUse n g u → use_savable q u ≡ true
  use_passes g u l =
      let c = ap length same in
      let high = l.high in
      and_from (leb u.file 63) _ l.file (and_from (leb 1 u.number) _ (le-leb _ _ l.low) (le-leb _ _ (omega arith)))

  savable_is : (s : Before) (r : Record) → LawfulRecord n s r → savable q r ≡ true
  savable_is s r l =
      let h = after higher s.high r.reads in
      let hinted = ap unstruck (sym (hint_forth r.standing l.standing)) in
      and_from _ _ hinted
      (and_from _ _ l.files
      (and_from _ _ l.count (and_from _ _ (uses_pass n s.high (use_savable q) use_passes r.reads l.reads) (use_passes h r.write (use_lawful n h r.write l.write)))))

  pub hints_all : (s : Before) (old qs : List Record) → Met s old → each (record_ok n) noted s qs ≡ true → hints cs q qs old ≡ old ++ qs
  hints_all s old [] m e = sym (append-nil old)
  hints_all s old (r ∷ qs) m e =
      let a = and_parts (record_ok n s r) _ e in
      let l = record_lawful n s r a.0 in
      let one = record_same n s r (numbered cs q) numbered_same l in
      let new = ap (known_command r.command) (sym m) ∙ l.new in
      ap (λ x. hints cs q qs (hint x old)) one
      ∙ ap (hints cs q qs) (hint_new r old new)
      ∙ hints_all (noted s r) (old ++ r ∷ []) qs (met_more s old r m) a.1
      ∙ append_assoc old (r ∷ []) qs

  choices_all : (s : Before) (old qs : List Record) → Met s old → each (record_ok n) noted s qs ≡ true → length old + length qs ≤ 256 → after (choice q) old qs ≡ old ++ qs
  choices_all s old [] m e few = sym (append-nil old)
  choices_all s old (r ∷ qs) m e few =
      let a = and_parts (record_ok n s r) _ e in
      let l = record_lawful n s r a.0 in
      let new = ap (known_command r.command) (sym m) ∙ l.new in
      let taken =
      and_from (savable q r) _ (savable_is s r l)
      (and_from (not (known_command r.command (map (λ x. x.command) old))) _ (not_from_false _ new) (lt-ltb (length old) 256 (omega arith))) in
      let more = length_push old r in
      ap (λ o. after (choice q) o qs) (cond-true (savable q r && is_new old r) (old ++ r ∷ []) old taken)
      ∙ choices_all (noted s r) (old ++ r ∷ []) qs (met_more s old r m) a.1 (omega arith)
      ∙ append_assoc old (r ∷ []) qs

  indices_all : (s : Before) (qs : List Record) → each (record_ok n) noted s qs ≡ true → map (indexed (upto n)) qs ≡ qs
  indices_all s [] e = refl
  indices_all s (r ∷ qs) e =
      let a = and_parts (record_ok n s r) _ e in
      ap (λ x. x ∷ map (indexed (upto n)) qs) (record_same n s r (indexed_use (upto n)) indexed_same (record_lawful n s r a.0))
      ∙ ap (λ xs. r ∷ xs) (indices_all (noted s r) qs a.1)

  order_all : (s : Before) (qs : List Record) → each (record_ok n) noted s qs ≡ true → after listed (upto s.high) (flat_map numbers_in qs) ≡ upto (after noted s qs).high
  order_all s [] e = refl
  order_all s (r ∷ qs) e =
      let a = and_parts (record_ok n s r) _ e in
      after_append listed (upto s.high) (numbers_in r) (flat_map numbers_in qs)
      ∙ ap (λ o. after listed o (flat_map numbers_in qs)) (record_listed n s r (record_lawful n s r a.0))
      ∙ order_all (noted s r) qs a.1

  contents_upto : (k : ℕ) → k ≤ n → map (content q) (upto k) ≡ take k cs
  unfolding upto
  contents_upto zero h = refl
  contents_upto (suc k) h =
      let z : suc k - 1 ≡ k = omega arith in
      let one : content q (suc k) ≡ get_or cs k [] = ap (λ j. get_or q.contents j []) z ∙ ap (λ l. get_or l k []) same in
      let more : take (k + 1) cs ≡ take (suc k) cs = (let y : k + 1 ≡ suc k = omega arith in ap (λ j. take j cs) y) in
      map_push (content q) (upto k) (suc k)
      ∙ ap (λ l. l ++ content q (suc k) ∷ []) (contents_upto k (omega arith))
      ∙ ap (λ x. take k cs ++ x ∷ []) one
      ∙ sym (take_more cs k [] (omega arith))
      ∙ more

  -- a lawful trace is saved as it is
  pub same_trace : (rs : List Record) → length rs ≤ 256 → each (record_ok n) noted start rs ≡ true → (after noted start rs).high ≡ n → ◌≡◌ {A = Traced} (to_save q (hints cs q rs [])) (record { contents = cs; records = rs })
  unfolding upto
  same_trace rs few good high =
      let taken : hints cs q rs [] ≡ rs = hints_all start [] rs refl good in
      let picked : chosen q rs ≡ rs = choices_all start [] rs refl good (omega arith) in
      let ordered : order rs ≡ upto n = order_all start rs good ∙ ap upto high in
      ap (to_save q) taken
      ∙ ap (λ ss. traced q (order ss) ss) picked
      ∙ ap (λ ns. traced q ns rs) ordered
      ∙ ap (λ xs. record { contents = xs; records = map (indexed (upto n)) rs }) (contents_upto n (omega arith) ∙ take_all n cs (omega arith))
      ∙ ap (λ xs. record { contents = cs; records = xs }) (indices_all start rs good)

-- the parts of a lawful trace
pub record Lawful (t : Traced) : Type 0 where
  pub contents : each content_ok push [] t.contents ≡ true
  pub few : length t.records ≤ 256
  pub records : each (record_ok (length t.contents)) noted start t.records ≡ true
  pub high : (after noted start t.records).high ≡ length t.contents

pub lawful_parts : (t : Traced) → lawful t ≡ true → Lawful t
lawful_parts t e =
    let a = and_parts _ _ e in
    let b = and_parts (leb (length t.contents) 1024) _ a.0 in
    let c = and_parts _ (eqb (after noted start t.records).high (length t.contents)) a.1 in
    let d = and_parts (leb (length t.records) 256) _ c.0 in
    record { contents = b.1; few = leb-true (length t.records) 256 d.0; records = d.1; high = eqb-true _ _ c.1 }

pub saved_again : (bs : List ℕ) (t : Traced) (p q : Pool) → Bytes bs → decoded bs ≡ Ok t → p.contents ≡ [] → puts t.contents p ≡ Some q → encoded (to_save q (hints t.contents q t.records [])) ≡ bs
saved_again bs t p q ok e empty taken =
    let acc = accepted bs t ok e in
    let l = lawful_parts t acc.1 in
    let same = put_all t.contents [] p q empty l.contents taken in
    ap encoded (same_trace t.contents q same l.contents t.records l.few l.records l.high) ∙ acc.0
