-- How many bytes contents, uses and records take, and that they are not too many to be added up.
use Rattle.std.proofs.Common.{◌≡◌, ℕ, ◌+◌, ◌-◌, ◌*◌, ◌≤◌, min, List, [], ◌∷◌, ◌++◌, map, length, get_or, sym, refl, ap, ◌∙◌, inl, inr, arith}
use Rattle.std.proofs.lemmas.List.{length-append, length-map, length-take, get_or_past}
use Rattle.std.proofs.lemmas.List.Folds.{flat_map-map}
use Rattle.std.proofs.lemmas.List.Concat.{length-flat_map}
use Rattle.std.proofs.lemmas.List.Sums.{sum_by-le}
use Rattle.std.proofs.lemmas.Bool.{cases_lt}
use Rattle.std.specs.List.{flat_map}
use Rattle.model.specs.Contents.{Pool, content}
use Rattle.model.specs.Records.{said}
use Rattle.model.specs.declared.record.Record as Code
use Rattle.model.specs.declared.record.Use.{Use}
use Rattle.pool.specs.Sound.{Sound}
use Rattle.trace.specs.Format.{command_bytes, use_bytes}
use Rattle.trace_write.specs.Puts.{content_of, use_of, record_of}
use Rattle.trace_write.specs.Saves.{indexed_use}

pub uses_size : (ns : List ℕ) (us : List Use) → length (flat_map (use_of ns) us) ≡ 3 * length us
uses_size ns [] = refl
uses_size ns (u ∷ us) = let l = uses_size ns us in omega arith

-- a record as it is written, field by field
abbrev pub fields : List ℕ → Code.Record → List Use → List ℕ
fields ns r us = ((command_bytes r.command ++ length us ∷ []) ++ flat_map (use_of ns) us) ++ use_of ns r.write

pub fields_are : (ns : List ℕ) (r : Code.Record) → fields ns r (said r).reads ≡ record_of ns r
fields_are ns r =
    let us = (said r).reads in
    ap (λ k. ((command_bytes r.command ++ k ∷ []) ++ flat_map (use_of ns) us) ++ use_of ns r.write) (sym (length-map us (indexed_use ns)))
    ∙ ap (λ l. ((command_bytes r.command ++ length (map (indexed_use ns) us) ∷ []) ++ l) ++ use_of ns r.write) (sym (flat_map-map use_bytes (indexed_use ns) us))

pub fields_size : (ns : List ℕ) (r : Code.Record) (us : List Use) → length (fields ns r us) ≡ 9 + 3 * length us
fields_size ns r us =
    let a = length-append ((command_bytes r.command ++ length us ∷ []) ++ flat_map (use_of ns) us) (use_of ns r.write) in
    let b = length-append (command_bytes r.command ++ length us ∷ []) (flat_map (use_of ns) us) in
    let c = uses_size ns us in
    omega arith

pub record_size : (ns : List ℕ) (r : Code.Record) → length (record_of ns r) ≡ 9 + 3 * length (said r).reads
record_size ns r = ap length (sym (fields_are ns r)) ∙ fields_size ns r (said r).reads

-- HOW LARGE THEY CAN BE

content_short : (p : Pool) → Sound p → (n : ℕ) → length (content p n) ≤ 4096
content_short p sound n =
    elim (cases_lt (n - 1) (length p.contents)) [
      | inl h ↦ sound.short (n - 1) h
      | inr h ↦ (let e = ap length (get_or_past p.contents (n - 1) [] h) in omega arith)
    ]

pub contents_low : (p : Pool) → Sound p → (ns : List ℕ) → length (flat_map (content_of p) ns) ≤ length ns * 4098
contents_low p sound ns =
    let low = sum_by-le (λ n. length (content_of p n)) 4098 ns (λ k d h. let s = content_short p sound (get_or ns k d) in omega arith) in
    omega (arith, length-flat_map (content_of p) ns)

reads_few : (r : Code.Record) → length (said r).reads ≤ 16
reads_few r = let l = length-take (min r.count 16) r.reads in omega arith

pub records_low : (ns : List ℕ) (rs : List Code.Record) → length (flat_map (record_of ns) rs) ≤ length rs * 57
records_low ns rs =
    let low =
    sum_by-le (λ r. length (record_of ns r)) 57 rs (λ k d h. let s = reads_few (get_or rs k d) in let l = record_size ns (get_or rs k d) in omega arith) in
    omega (arith, length-flat_map (record_of ns) rs)
