-- What a save answers and writes.
use Rattle.std.specs.Prelude.{ℕ, cond, List, length, Ok, Err, Result, nat_le}
use Rattle.model.specs.Contents.{Pool, content}
use Rattle.model.specs.Records.{said}
use Rattle.model.specs.Load.{Traced}
use Rattle.model.specs.declared.record.Record as Code
use Rattle.model.specs.declared.record.Use.{Use}
use Rattle.model.specs.declared.refusal.Refusal.{Refusal}
use Rattle.model.specs.declared.refusal.Refusal.TheVariants.{SaveBufferShort}
use Rattle.output.specs.Writes.{laid}
use Rattle.trace.specs.Format.{content_bytes, use_bytes, record_bytes, encoded}
use Rattle.trace_write.specs.Saves.{indexed_use, indexed}

-- what a save answers, and the slice after it: nothing changes if the slice is too short
abbrev pub saved : Traced → List ℕ → Result ℕ Refusal
saved t bs = cond (nat_le (length (encoded t)) (length bs)) (Ok (length (encoded t))) (Err SaveBufferShort)

abbrev pub after_save : Traced → List ℕ → List ℕ
after_save t bs = cond (nat_le (length (encoded t)) (length bs)) (laid 0 (encoded t) bs) bs

-- how the content of a number, a use and a record are written
abbrev pub content_of : Pool → ℕ → List ℕ
content_of p n = content_bytes (content p n)

abbrev pub use_of : List ℕ → Use → List ℕ
use_of ns u = use_bytes (indexed_use ns u)

abbrev pub record_of : List ℕ → Code.Record → List ℕ
record_of ns r = record_bytes (indexed ns (said r))

abbrev pub number_of_use : Use → ℕ
number_of_use u = u.number
