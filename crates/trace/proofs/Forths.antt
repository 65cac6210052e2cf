-- A lawful trace is read back.
use Rattle.std.proofs.Common.{◌≡◌, ℕ, Bool, true, not, ◌&&◌, eqb, leb, List, [], ◌∷◌, ◌++◌, length, take, drop, Ok, Err, Result, sym, refl, ap, ◌∙◌, append_assoc, append-nil, arith}
use Rattle.std.proofs.lemmas.List.{length-append, take_at, drop_at}
use Rattle.std.proofs.lemmas.Bool.{cond-true, and_parts, le-leb}
use Rattle.std.proofs.lemmas.Nat.{div-add-mod'}
use Rattle.std.specs.List.{flat_map}
use Rattle.model.specs.Contents.{Content, mem}
use Rattle.model.specs.Numbers.{kind_number}
use Rattle.model.specs.Records.{Record}
use Rattle.model.specs.Load.{Traced}
use Rattle.model.specs.declared.command.Command.{Command}
use Rattle.model.specs.declared.command.Kind.{Kind}
use Rattle.model.specs.declared.command.Kind.TheVariants.{Copy, Join, Gather, Choose, Tally, Check}
use Rattle.model.specs.declared.record.Standing.{Standing}
use Rattle.model.specs.declared.record.Standing.TheVariants.{Hint, Own, Struck}
use Rattle.model.specs.declared.record.Use.{Use}
use Rattle.model.specs.declared.refusal.Refusal.{Refusal}
use Rattle.model.specs.declared.refusal.Refusal.TheVariants.{TraceLength, TraceRule}
use Rattle.trace.specs.Reads.{Reading, read, then, rule, at_most, a_count, a_piece, many, after, each, two_bytes}
use Rattle.trace.specs.Format.{Before, start, noted, higher, push, new_content, content_of_length, a_content, all_contents, a_kind, highest, a_file, known_command, new_command, from_third, from_second, from_first, from_kind, a_command, index_ok, use_index, use_file, a_use, count_ok, record_write, record_reads, record_command, a_record, all_records, finished, with_contents, decoded, content_bytes, command_bytes, use_bytes, record_bytes, encoded, content_ok, files_ok, use_ok, is_hint, record_ok, lawful}

passed : {Y : Type 0} (t : Bool) (r : Result Y Refusal) → t ≡ true → rule t r ≡ r
passed t r e = cond-true t r (Err TraceRule) e

piece_forth : (c cs : List ℕ) → a_piece (length c) (c ++ cs) ≡ read c cs
piece_forth c cs =
    let l = length-append c cs in
    cond-true (leb (length c) (length (c ++ cs))) (read (take (length c) (c ++ cs)) (drop (length c) (c ++ cs))) (Err TraceLength) (le-leb _ _ (omega arith))
    ∙ ap (λ x. read x (drop (length c) (c ++ cs))) (take_at c cs (length c) refl)
    ∙ ap (read c) (drop_at c cs (length c) refl)

count_forth : (m n : ℕ) (cs : List ℕ) → leb n m ≡ true → a_count m (two_bytes n ++ cs) ≡ read n cs
count_forth m n cs ok = ap (λ k. at_most m k cs) (div-add-mod' n 256) ∙ passed (leb n m) (read n cs) ok

file_forth : (m f : ℕ) (cs : List ℕ) → leb f m ≡ true → a_file m (f ∷ cs) ≡ read f cs
file_forth m f cs ok = passed (leb f m) (read f cs) ok

content_forth : (es : List Content) (c : Content) (cs : List ℕ) → content_ok es c ≡ true → a_content es (content_bytes c ++ cs) ≡ read c cs
content_forth es c cs ok =
    let p = and_parts (leb (length c) 4096) (not (mem c es)) ok in
    ap (λ r. then r (content_of_length es)) (count_forth 4096 (length c) (c ++ cs) p.0)
    ∙ ap (λ r. then r (new_content es)) (piece_forth c cs)
    ∙ passed (not (mem c es)) (read c cs) p.1

use_forth : (m h : ℕ) (u : Use) (cs : List ℕ) → use_ok m h u ≡ true → a_use m h (use_bytes u ++ cs) ≡ read u cs
use_forth m h u cs ok =
    let p = and_parts (leb u.file 63) (index_ok m h u.number) ok in
    ap (λ r. then r (use_file m h)) (file_forth 63 u.file (two_bytes u.number ++ cs) p.0)
    ∙ ap (λ k. use_index m h u.file k cs) (div-add-mod' u.number 256)
    ∙ passed (index_ok m h u.number) (read u cs) p.1

kind_forth : (k : Kind) (cs : List ℕ) → a_kind (kind_number k ∷ cs) ≡ read k cs
kind_forth Copy cs = refl
kind_forth Join cs = refl
kind_forth Gather cs = refl
kind_forth Choose cs = refl
kind_forth Tally cs = refl
kind_forth Check cs = refl

command_forth : (es : List Command) (c : Command) (cs : List ℕ) → (files_ok c && not (known_command c es)) ≡ true → a_command es (command_bytes c ++ cs) ≡ read c cs
command_forth es c cs ok =
    let k = c.kind in
    let p = and_parts _ _ ok in
    let a = and_parts _ _ p.0 in
    let b = and_parts _ _ a.1 in
    let d = and_parts _ _ b.1 in
    ap (λ r. then r (from_kind es)) (kind_forth k (c.a ∷ c.b ∷ c.c ∷ c.d ∷ cs))
    ∙ ap (λ r. then r (from_first es k)) (file_forth (highest k 1) c.a (c.b ∷ c.c ∷ c.d ∷ cs) a.0)
    ∙ ap (λ r. then r (from_second es k c.a)) (file_forth (highest k 2) c.b (c.c ∷ c.d ∷ cs) b.0)
    ∙ ap (λ r. then r (from_third es k c.a c.b)) (file_forth (highest k 3) c.c (c.d ∷ cs) d.0)
    ∙ ap (λ r. then r (new_command es k c.a c.b c.c)) (file_forth (highest k 4) c.d cs d.1)
    ∙ passed (not (known_command c es)) (read c cs) p.1

pub hint_forth : (s : Standing) → is_hint s ≡ true → Hint ≡ s
hint_forth Hint e = refl
hint_forth Own e = let z : ◌≡◌ {A = ℕ} 0 1 = cc in absurd (omega arith)
hint_forth Struck e = let z : ◌≡◌ {A = ℕ} 0 1 = cc in absurd (omega arith)

module _ {S X : Type 0} (p : S → List ℕ → Reading X) (next : S → X → S) (enc : X → List ℕ) (ok : S → X → Bool) (one : (s : S) (x : X) (cs : List ℕ) → ok s x ≡ true → p s (enc x ++ cs) ≡ read x cs) where
  many_forth : (s : S) (xs : List X) (cs : List ℕ) → each ok next s xs ≡ true → many p next (length xs) s (flat_map enc xs ++ cs) ≡ read xs cs
  many_forth s [] cs e = refl
  many_forth s (x ∷ xs) cs e =
      let t = and_parts (ok s x) (each ok next (next s x) xs) e in
      ap (λ l. then (p s l) (λ y ds. then (many p next (length xs) (next s y) ds) (λ ys es. read (y ∷ ys) es))) (append_assoc (enc x) (flat_map enc xs) cs)
      ∙ ap (λ r. then r (λ y ds. then (many p next (length xs) (next s y) ds) (λ ys es. read (y ∷ ys) es))) (one s x (flat_map enc xs ++ cs) t.0)
      ∙ ap (λ r. then r (λ ys es. read (x ∷ ys) es)) (many_forth (next s x) xs cs t.1)

record_forth : (m : ℕ) (s : Before) (r : Record) (cs : List ℕ) → record_ok m s r ≡ true → a_record m s (record_bytes r ++ cs) ≡ read r cs
record_forth m s r cs ok =
    let c = r.command in
    let cb = command_bytes c in
    let us = r.reads in
    let k = length us in
    let h = s.high in
    let a = and_parts _ _ ok in
    let d = and_parts _ _ a.1 in
    let g = and_parts _ _ d.1 in
    let f = and_parts _ _ g.0 in
    let tail = flat_map use_bytes us ++ (use_bytes r.write ++ cs) in
    let shape : record_bytes r ++ cs ≡ cb ++ k ∷ tail =
    append_assoc ((cb ++ k ∷ []) ++ flat_map use_bytes us) (use_bytes r.write) cs
    ∙ append_assoc (cb ++ k ∷ []) (flat_map use_bytes us) (use_bytes r.write ++ cs)
    ∙ append_assoc cb (k ∷ []) tail in
    ap (a_record m s) shape
    ∙ ap (λ q. then q (record_command m h)) (command_forth s.commands c (k ∷ tail) a.0)
    ∙ passed (count_ok k) (then (many (a_use m) higher k h tail) (record_reads m h c)) d.0
    ∙ ap (λ q. then q (record_reads m h c)) (many_forth (a_use m) higher use_bytes (use_ok m) (use_forth m) h us (use_bytes r.write ++ cs) f.0)
    ∙ ap (λ q. then q (record_write c us)) (use_forth m (after higher h us) r.write cs f.1)
    ∙ ap (λ t. read (record { command = c; reads = us; write = r.write; standing = t }) cs) (hint_forth r.standing g.1)

pub read_back : (t : Traced) → lawful t ≡ true → decoded (encoded t) ≡ Ok t
read_back t ok =
    let cs = t.contents in
    let rs = t.records in
    let n = length cs in
    let m = length rs in
    let a = and_parts _ _ ok in
    let b = and_parts _ _ a.0 in
    let d = and_parts _ _ a.1 in
    let f = and_parts _ _ d.0 in
    let tail = two_bytes m ++ flat_map record_bytes rs in
    let shape : encoded t ≡ two_bytes n ++ (flat_map content_bytes cs ++ tail) =
    append_assoc (two_bytes n ++ flat_map content_bytes cs) (two_bytes m) (flat_map record_bytes rs)
    ∙ append_assoc (two_bytes n) (flat_map content_bytes cs) tail in
    ap decoded shape
    ∙ ap (λ q. then (then q all_contents) with_contents) (count_forth 1024 n (flat_map content_bytes cs ++ tail) b.0)
    ∙ ap (λ q. then q with_contents) (many_forth a_content push content_bytes content_ok content_forth [] cs tail b.1)
    ∙ ap (λ q. then (then q (all_records n)) (finished cs)) (count_forth 256 m (flat_map record_bytes rs) f.0)
    ∙ ap (λ l. then (many (a_record n) noted m start l) (finished cs)) (sym (append-nil (flat_map record_bytes rs)))
    ∙ ap (λ q. then q (finished cs)) (many_forth (a_record n) noted record_bytes (record_ok n) (record_forth n) start rs [] f.1)
    ∙ passed (eqb (after noted start rs).high n) (Ok t) d.1
