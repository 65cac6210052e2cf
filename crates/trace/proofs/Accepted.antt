-- An accepted file is what its trace is written as, and the trace is lawful.
use Rattle.std.proofs.Common.{◌≡◌, ℕ, Bool, true, false, cond, not, ◌&&◌, eqb, leb, List, [], ◌∷◌, ◌++◌, length, Some, None, Ok, Err, Option, sym, refl, ap, ◌∙◌, append-nil, arith}
use Rattle.std.proofs.lemmas.List.{nil_from_length}
use Rattle.std.proofs.lemmas.Bool.{and_from, eqb-true}
use Rattle.std.specs.List.{flat_map}
use Rattle.model.specs.Contents.{Content, mem}
use Rattle.model.specs.Numbers.{kind_number}
use Rattle.model.specs.Records.{Record}
use Rattle.model.specs.Load.{Traced}
use Rattle.model.specs.declared.command.Command.{Command}
use Rattle.model.specs.declared.command.Kind.{Kind}
use Rattle.model.specs.declared.command.Kind.TheVariants.{Copy, Join, Gather, Choose, Tally, Check}
use Rattle.model.specs.declared.record.Standing.TheVariants.{Hint}
use Rattle.model.specs.declared.record.Use.{Use}
use Rattle.model.specs.declared.refusal.Refusal.TheVariants.{TraceLength}
use Rattle.trace.proofs.Backs.{went, held, rest_bytes, join, Backs, byte_back, number_back, count_back, file_back, piece_back, many_back, same_value, same_rest}
use Rattle.trace.specs.Laws.{Bytes}
use Rattle.trace.specs.Reads.{read, a_byte, a_number, a_count, a_piece, many, after, two_bytes}
use Rattle.trace.specs.Format.{Before, start, noted, higher, push, new_content, content_of_length, a_content, all_contents, the_contents, kind_of, kind_told, kind_field, a_kind, highest, a_file, known_command, new_command, from_third, from_second, from_first, from_kind, a_command, index_ok, use_index, use_file, a_use, count_ok, record_write, record_reads, record_count, record_command, a_record, all_records, the_records, ended, finished, with_contents, decoded, content_bytes, command_bytes, use_bytes, record_bytes, encoded, content_ok, files_ok, use_ok, record_ok, lawful}

pub content_back : (es : List Content) → Backs (a_content es) content_bytes (content_ok es)
content_back es bs x cs h e =
    let a = went (a_count 4096 bs) (content_of_length es) _ e in
    let b = went (a_piece a.value a.rest) (new_content es) _ a.then in
    let u = held (not (mem b.value es)) _ _ b.then in
    let n = count_back 4096 bs a.value a.rest h a.first in
    let p = piece_back a.value a.rest b.value b.rest b.first in
    let v = same_value b.value x b.rest cs u.1 in
    let r = same_rest b.value x b.rest cs u.1 in (
      ap (λ y. content_bytes y ++ cs) (sym v) ∙ ap (λ l. content_bytes b.value ++ l) (sym r)
          ∙ ap (λ k. (two_bytes k ++ b.value) ++ b.rest) p.1
          ∙ join (two_bytes a.value) b.value a.rest b.rest bs n.0 p.0,
      ap (content_ok es) (sym v) ∙ and_from _ _ (ap (λ k. leb k 4096) p.1 ∙ n.1) u.0,
    )

-- the number of a kind that a number tells is that number
kind_step : (t : Bool) (b n : ℕ) → eqb b n ≡ t → (j k : Kind) → kind_number j ≡ n → (others : Option Kind) → (others ≡ Some k → kind_number k ≡ b) → cond t (Some j) others ≡ Some k → kind_number k ≡ b
kind_step true b n e j k same others h f = let g : k ≡ j = cc in ap kind_number g ∙ same ∙ sym (eqb-true b n e)
kind_step false b n e j k same others h f = h f

kind_same : (b : ℕ) (k : Kind) → kind_of b ≡ Some k → kind_number k ≡ b
kind_same b k =
    kind_step (eqb b 1) b 1 refl Copy k refl _
    (kind_step (eqb b 2) b 2 refl Join k refl _
    (kind_step (eqb b 3) b 3 refl Gather k refl _
    (kind_step (eqb b 4) b 4 refl Choose k refl _
    (kind_step (eqb b 5) b 5 refl Tally k refl _
    (kind_step (eqb b 6) b 6 refl Check k refl None (λ e. let z : ◌≡◌ {A = ℕ} 0 1 = cc in absurd (omega arith)))))))

told_back : (o : Option Kind) (bs : List ℕ) (k : Kind) (cs : List ℕ) → kind_told o bs ≡ read k cs → (o ≡ Some k) × (bs ≡ cs)
told_back (Some j) bs k cs e = (ap Some (same_value j k bs cs e), same_rest j k bs cs e)
told_back None bs k cs e = let z : ◌≡◌ {A = ℕ} 0 1 = cc in absurd (omega arith)

kind_back : (bs : List ℕ) (k : Kind) (cs : List ℕ) → a_kind bs ≡ read k cs → (kind_number k ∷ []) ++ cs ≡ bs
kind_back bs k cs e =
    let a = went (a_byte bs) kind_field _ e in
    let t = told_back (kind_of a.value) a.rest k cs a.then in
    ap (λ n. n ∷ cs) (kind_same a.value k t.0) ∙ ap (λ l. a.value ∷ l) (sym t.1) ∙ byte_back bs a.value a.rest a.first

command_back : (es : List Command) → Backs (a_command es) command_bytes (λ c. files_ok c && not (known_command c es))
command_back es bs x cs h e =
    let k = went (a_kind bs) (from_kind es) _ e in
    let i = k.value in
    let a = went (a_file (highest i 1) k.rest) (from_first es i) _ k.then in
    let b = went (a_file (highest i 2) a.rest) (from_second es i a.value) _ a.then in
    let c = went (a_file (highest i 3) b.rest) (from_third es i a.value b.value) _ b.then in
    let d = went (a_file (highest i 4) c.rest) (new_command es i a.value b.value c.value) _ c.then in
    let y : Command = record { kind = i; a = a.value; b = b.value; c = c.value; d = d.value } in
    let t = held (not (known_command y es)) _ _ d.then in
    let v = same_value y x d.rest cs t.1 in
    let r = same_rest y x d.rest cs t.1 in
    let n = kind_number i in
    let k1 = kind_back bs i k.rest k.first in
    let a1 = file_back (highest i 1) k.rest a.value a.rest (rest_bytes (n ∷ []) k.rest bs k1 h) a.first in
    let a2 = join (n ∷ []) (a.value ∷ []) k.rest a.rest bs k1 a1.0 in
    let b1 = file_back (highest i 2) a.rest b.value b.rest (rest_bytes (n ∷ a.value ∷ []) a.rest bs a2 h) b.first in
    let b2 = join (n ∷ a.value ∷ []) (b.value ∷ []) a.rest b.rest bs a2 b1.0 in
    let c1 = file_back (highest i 3) b.rest c.value c.rest (rest_bytes (n ∷ a.value ∷ b.value ∷ []) b.rest bs b2 h) c.first in
    let c2 = join (n ∷ a.value ∷ b.value ∷ []) (c.value ∷ []) b.rest c.rest bs b2 c1.0 in
    let d1 = file_back (highest i 4) c.rest d.value d.rest (rest_bytes (n ∷ a.value ∷ b.value ∷ c.value ∷ []) c.rest bs c2 h) d.first in
    let d2 = join (n ∷ a.value ∷ b.value ∷ c.value ∷ []) (d.value ∷ []) c.rest d.rest bs c2 d1.0 in (
      ap (λ w. command_bytes w ++ cs) (sym v) ∙ ap (λ l. command_bytes y ++ l) (sym r) ∙ d2,
      ap (λ w. files_ok w && not (known_command w es)) (sym v)
          ∙ and_from _ _ (and_from _ _ a1.1 (and_from _ _ b1.1 (and_from _ _ c1.1 d1.1))) t.0,
    )

pub use_back : (m h : ℕ) → Backs (a_use m h) use_bytes (use_ok m h)
use_back m h bs x cs ok e =
    let a = went (a_file 63 bs) (use_file m h) _ e in
    let b = went (a_number a.rest) (use_index m h a.value) _ a.then in
    let u = held (index_ok m h b.value) _ _ b.then in
    let f = file_back 63 bs a.value a.rest ok a.first in
    let n = number_back a.rest b.value b.rest (rest_bytes (a.value ∷ []) a.rest bs f.0 ok) b.first in
    let y : Use = record { file = a.value; number = b.value } in
    let v = same_value y x b.rest cs u.1 in
    let r = same_rest y x b.rest cs u.1 in (
      ap (λ w. use_bytes w ++ cs) (sym v) ∙ ap (λ l. use_bytes y ++ l) (sym r)
          ∙ join (a.value ∷ []) (two_bytes b.value) a.rest b.rest bs f.0 n,
      ap (use_ok m h) (sym v) ∙ and_from _ _ f.1 u.0,
    )

pub record_back : (m : ℕ) (s : Before) → Backs (a_record m s) record_bytes (record_ok m s)
record_back m s bs x cs ok e =
    let a = went (a_command s.commands bs) (record_command m s.high) _ e in
    let one = command_back s.commands bs a.value a.rest ok a.first in
    let cb = command_bytes a.value in
    let b = went (a_byte a.rest) (record_count m s.high a.value) _ a.then in
    let k = held (count_ok b.value) _ _ b.then in
    let second = byte_back a.rest b.value b.rest b.first in
    let d = went (many (a_use m) higher b.value s.high b.rest) (record_reads m s.high a.value) _ k.1 in
    let two = join cb (b.value ∷ []) a.rest b.rest bs one.0 second in
    let third =
    many_back (a_use m) higher use_bytes (use_ok m) (use_back m) b.value s.high b.rest d.value d.rest
    (rest_bytes (cb ++ b.value ∷ []) b.rest bs two ok) d.first in
    let three = join (cb ++ b.value ∷ []) (flat_map use_bytes d.value) b.rest d.rest bs two third.0 in
    let f = went (a_use m (after higher s.high d.value) d.rest) (record_write a.value d.value) _ d.then in
    let fourth =
    use_back m (after higher s.high d.value) d.rest f.value f.rest
    (rest_bytes ((cb ++ b.value ∷ []) ++ flat_map use_bytes d.value) d.rest bs three ok) f.first in
    let y : Record = record { command = a.value; reads = d.value; write = f.value; standing = Hint } in
    let v = same_value y x f.rest cs f.then in
    let r = same_rest y x f.rest cs f.then in (
      ap (λ z. record_bytes z ++ cs) (sym v) ∙ ap (λ l. record_bytes y ++ l) (sym r)
          ∙ ap (λ n. (((cb ++ n ∷ []) ++ flat_map use_bytes d.value) ++ use_bytes f.value) ++ f.rest) third.2
          ∙ join ((cb ++ b.value ∷ []) ++ flat_map use_bytes d.value) (use_bytes f.value) d.rest f.rest bs three fourth.0,
      ap (record_ok m s) (sym v)
          ∙ and_from _ _ one.1 (and_from _ _ (ap count_ok third.2 ∙ k.0) (and_from _ _ (and_from _ _ third.1 fourth.1) refl)),
    )

ended_back : (bs : List ℕ) (t u : Traced) → ended bs t ≡ Ok u → (bs ≡ []) × (t ≡ u)
ended_back bs t u e = by (eqb (length bs) 0) refl e
  where
    by : (b : Bool) → eqb (length bs) 0 ≡ b → cond b (Ok t) (Err TraceLength) ≡ Ok u → (bs ≡ []) × (t ≡ u)
    by true h f = (nil_from_length bs (eqb-true (length bs) 0 h), cc)
    by false h f = let z : ◌≡◌ {A = ℕ} 0 1 = cc in absurd (omega arith)

pub accepted : (bs : List ℕ) (t : Traced) → Bytes bs → decoded bs ≡ Ok t → (encoded t ≡ bs) × (lawful t ≡ true)
accepted bs t ok e =
    let a = went (the_contents bs) with_contents t e in
    let n = went (a_count 1024 bs) all_contents _ a.first in
    let k = count_back 1024 bs n.value n.rest ok n.first in
    let one = k.0 in
    let cs =
    many_back a_content push content_bytes content_ok content_back n.value [] n.rest a.value a.rest
    (rest_bytes (two_bytes n.value) n.rest bs one ok) n.then in
    let two = join (two_bytes n.value) (flat_map content_bytes a.value) n.rest a.rest bs one cs.0 in
    let ok2 = rest_bytes (two_bytes n.value ++ flat_map content_bytes a.value) a.rest bs two ok in
    let b = went (the_records (length a.value) a.rest) (finished a.value) t a.then in
    let m = went (a_count 256 a.rest) (all_records (length a.value)) _ b.first in
    let l = count_back 256 a.rest m.value m.rest ok2 m.first in
    let third = l.0 in
    let rs =
    many_back (a_record (length a.value)) noted record_bytes (record_ok (length a.value)) (record_back (length a.value)) m.value start m.rest b.value b.rest
    (rest_bytes (two_bytes m.value) m.rest a.rest third ok2) m.then in
    let three = join (two_bytes n.value ++ flat_map content_bytes a.value) (two_bytes m.value) a.rest m.rest bs two third in
    let four =
    join ((two_bytes n.value ++ flat_map content_bytes a.value) ++ two_bytes m.value) (flat_map record_bytes b.value) m.rest b.rest bs three rs.0 in
    let f = held (eqb (after noted start b.value).high (length a.value)) _ _ b.then in
    let u : Traced = record { contents = a.value; records = b.value } in
    let z = ended_back b.rest u t f.1 in (
      ap encoded (sym z.1)
          ∙ sym (append-nil (encoded u))
          ∙ ap (λ x. encoded u ++ x) (sym z.0)
          ∙ ap (λ x. (((two_bytes x ++ flat_map content_bytes a.value) ++ two_bytes (length b.value)) ++ flat_map record_bytes b.value) ++ b.rest) cs.2
          ∙ ap (λ x. (((two_bytes n.value ++ flat_map content_bytes a.value) ++ two_bytes x) ++ flat_map record_bytes b.value) ++ b.rest) rs.2
          ∙ four,
      ap lawful (sym z.1)
          ∙ and_from _ _ (and_from _ _ (ap (λ x. leb x 1024) cs.2 ∙ k.1) cs.1)
          (and_from _ _ (and_from _ _ (ap (λ x. leb x 256) rs.2 ∙ l.1) rs.1) f.0),
    )
