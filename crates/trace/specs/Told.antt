-- What the code's answers tell.
use Rattle.std.specs.Prelude.{ℕ, ◌-◌, cond, ◌&&◌, List, [], map, length, take, Some, None, Ok, Err, Option, Result, ◌==◌, nat_le, slice_index_or}
use Rattle.model.specs.Contents.{Content}
use Rattle.model.specs.Records.{Record, said}
use Rattle.model.specs.Load.{Traced}
use Rattle.model.specs.declared.command.Command.{Command}
use Rattle.model.specs.declared.record.Use.{Use}
use Rattle.model.specs.declared.refusal.Refusal.{Refusal}
use Rattle.trace.specs.Format.{Before, start, noted, raised, a_record, ended}
use Rattle.trace.specs.Reads.{Reading, read, then, rule, after, readable}
use Rattle.trace.specs.declared.contents.Contents.{Contents}
use Rattle.trace.specs.declared.file.Trace.{Trace}
use Rattle.trace.specs.declared.input.Input.{Input}
use Rattle.trace.specs.declared.records.Parsed.{Parsed}
use Rattle.trace.specs.declared.records.Records.{Records}
use Rattle.trace.specs.declared.uses.Uses.{Uses}

-- the bytes that are left
abbrev pub left : Input → List ℕ
left i = i.rest.now

-- what a call answers that reads something, with the input after it
abbrev pub told : {X Y : Type 0} → (X → Y) → Result X Refusal → Input → Reading Y
told f (Ok x) i = read (f x) (left i)
told f (Err e) i = Err e

abbrev pub plain : {X : Type 0} → Result X Refusal → Input → Reading X
plain r i = told (λ x. x) r i

-- the contents that a table holds
abbrev pub listed : Contents → List Content
listed c = map (λ x. x.now) (take c.count c.list)

-- the uses that a table holds
abbrev pub used : Uses → List Use
used u = take u.count u.list

-- what a record of the code says
abbrev pub shown : Parsed → Record
shown n = said n.record

abbrev pub met : List Command → ℕ → Before
met cs h = record { commands = cs; high = h }

-- what is kept of the values that are read
abbrev pub gathered : {X Y : Type 0} → (X → Y) → Reading X → Reading Y
gathered f r = then r (λ x bs. read (f x) bs)

-- the highest index in some records
abbrev pub high_of : List Record → ℕ
high_of rs = (after noted start rs).high

-- a record once more, after the file was checked: commands need not be compared again
abbrev pub again : ℕ → ℕ → List ℕ → Reading Record
again n h bs = a_record n (met [] h) bs

-- the records that are still to come
abbrev pub coming : Records → List Record
coming r = readable (again r.contents) raised r.left r.high r.rest.now

-- the trace that a checked file holds
abbrev pub meant : Trace → Traced
meant t =
    record {
      contents = listed t.contents;
      records = readable (again t.contents.count) raised t.records 0 t.rest.now;
    }

-- whether a file may end, by the highest index and the count of contents
abbrev pub at_end : ℕ → ℕ → List ℕ → Result (Unit {0}) Refusal
at_end high n bs = rule (high == n) (ended bs tt)

-- what checking tells
abbrev pub checked : Result Trace Refusal → Result Traced Refusal
checked (Ok t) = Ok (meant t)
checked (Err e) = Err e

-- the content of an index, which counts from 1
abbrev pub content_at : List Content → ℕ → Option Content
content_at cs i = cond (nat_le 1 i && nat_le i (length cs)) (Some (slice_index_or cs (i - 1) [])) None
