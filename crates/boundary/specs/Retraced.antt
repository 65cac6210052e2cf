-- A trace file that is taken into an empty pool and an empty book, judged record by record, and saved again.
use Rattle.std.specs.Prelude.{ℕ, cond, List, [], map, length, Some, None, Ok, Err, Option, Result, nat_le}
use Rattle.model.specs.Audit.{judged}
use Rattle.model.specs.Contents.{Pool}
use Rattle.model.specs.Load.{Traced, puts, hints}
use Rattle.model.specs.Numbers.{number_of}
use Rattle.model.specs.Records.{Record}
use Rattle.model.specs.declared.refusal.Refusal.{Refusal}
use Rattle.model.specs.declared.refusal.Refusal.TheVariants.{NoRoomToLoad}
use Rattle.trace_write.specs.Puts.{saved, after_save}
use Rattle.trace_write.specs.Saves.{to_save}

-- a pool, and the records of a book
pub record Stored : Type 0 where
  pub pool : Pool
  pub records : List Record

-- the records that a file gives, as hints, in a book of so many places
abbrev pub hinted : Traced → ℕ → Option Pool → Result Stored Refusal
hinted t places None = Err NoRoomToLoad
hinted t places (Some q) =
    let rs = hints t.contents q t.records [] in
    cond (nat_le (length rs) places) (Ok (record { pool = q; records = rs })) (Err NoRoomToLoad)

-- what the bytes of a file give an empty pool and an empty book
abbrev pub taken : Result Traced Refusal → ℕ → Pool → Result Stored Refusal
taken (Err r) places p = Err r
taken (Ok t) places p = hinted t places (puts t.contents p)

-- each record is judged: it is own if it is true, else struck
abbrev pub audited : Stored → Traced
audited s = to_save s.pool (map (judged s.pool) s.records)

-- what is answered in the end, and the buffer then
abbrev pub retold : Result Stored Refusal → List ℕ → Result ℕ Refusal
retold (Err r) out = Err r
retold (Ok s) out = saved (audited s) out

abbrev pub rewritten : Result Stored Refusal → List ℕ → List ℕ
rewritten (Err r) out = out
rewritten (Ok s) out = after_save (audited s) out

-- an answer by its number and its length: 0 and the length, or the number of the refusal and 0
abbrev pub number_told : Result ℕ Refusal → ℕ
number_told (Ok n) = 0
number_told (Err r) = number_of r

abbrev pub length_told : Result ℕ Refusal → ℕ
length_told (Ok n) = n
length_told (Err r) = 0
