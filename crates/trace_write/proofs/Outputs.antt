-- The file as four parts, and how long it is.
use Rattle.std.proofs.Common.{◌≡◌, ℕ, ◌+◌, List, ◌++◌, map, length, sym, ap, ◌∙◌, arith}
use Rattle.std.proofs.lemmas.List.{length-append, length-map}
use Rattle.std.proofs.lemmas.List.Folds.{flat_map-map}
use Rattle.std.specs.List.{flat_map}
use Rattle.model.specs.Contents.{Pool, content}
use Rattle.model.specs.Records.{said}
use Rattle.model.specs.Load.{Traced}
use Rattle.model.specs.declared.record.Record as Code
use Rattle.trace.specs.Format.{content_bytes, record_bytes, encoded}
use Rattle.trace.specs.Reads.{two_bytes}
use Rattle.trace_write.specs.Puts.{content_of, record_of}
use Rattle.trace_write.specs.Saves.{indexed, traced}

module _ (p : Pool) (ns : List ℕ) (rs : List Code.Record) where
  abbrev contents_part : List ℕ
  contents_part = two_bytes (length ns) ++ flat_map (content_of p) ns

  abbrev whole : List ℕ
  whole = (contents_part ++ two_bytes (length rs)) ++ flat_map (record_of ns) rs

  abbrev trace : Traced
  trace = traced p ns (map said rs)

  pub encoded_is : whole ≡ encoded trace
  encoded_is =
      let cs = map (content p) ns in
      let ss = map said rs in
      let count = length-map ss (indexed ns) ∙ length-map rs said in
      let records = flat_map-map record_bytes (indexed ns) ss ∙ flat_map-map (λ s. record_bytes (indexed ns s)) said rs in
      ap (λ n. ((two_bytes n ++ flat_map (content_of p) ns) ++ two_bytes (length rs)) ++ flat_map (record_of ns) rs) (sym (length-map ns (content p)))
      ∙ ap (λ l. ((two_bytes (length cs) ++ l) ++ two_bytes (length rs)) ++ flat_map (record_of ns) rs) (sym (flat_map-map content_bytes (content p) ns))
      ∙ ap (λ n. ((two_bytes (length cs) ++ flat_map content_bytes cs) ++ two_bytes n) ++ flat_map (record_of ns) rs) (sym count)
      ∙ ap (λ l. ((two_bytes (length cs) ++ flat_map content_bytes cs) ++ two_bytes (length (map (indexed ns) ss))) ++ l) (sym records)

  size : length whole ≡ 4 + length (flat_map (content_of p) ns) + length (flat_map (record_of ns) rs)
  size =
      let a = length-append (two_bytes (length ns)) (flat_map (content_of p) ns) in
      let b = length-append contents_part (two_bytes (length rs)) in
      let c = length-append (contents_part ++ two_bytes (length rs)) (flat_map (record_of ns) rs) in
      omega arith

  pub encoded_size : length (encoded trace) ≡ 4 + length (flat_map (content_of p) ns) + length (flat_map (record_of ns) rs)
  encoded_size = ap length (sym encoded_is) ∙ size
