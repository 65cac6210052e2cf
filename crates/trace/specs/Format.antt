-- The trace file: what a string of bytes says, and how a trace is written.
use Rattle.std.specs.Prelude.{ℕ, ◌+◌, max, Bool, true, false, cond, not, ◌&&◌, List, [], ◌∷◌, ◌++◌, length, Some, None, Ok, Err, Option, Result, ◌==◌, nat_le}
use Rattle.std.specs.List.{flat_map}
use Rattle.model.specs.Contents.{Content, mem}
use Rattle.model.specs.Numbers.{kind_number, arity}
pub use Rattle.model.specs.Numbers.{kind_of}
use Rattle.model.specs.Records.{Record}
use Rattle.model.specs.Book.{in_script}
use Rattle.model.specs.Load.{Traced}
use Rattle.model.specs.declared.command.Command.{Command}
use Rattle.model.specs.declared.command.Kind.{Kind}
use Rattle.model.specs.declared.record.Standing.{Standing}
use Rattle.model.specs.declared.record.Standing.TheVariants.{Hint, Own, Struck}
use Rattle.model.specs.declared.record.Use.{Use}
use Rattle.model.specs.declared.refusal.Refusal.{Refusal}
use Rattle.model.specs.declared.refusal.Refusal.TheVariants.{TraceLength, TraceRule}
use Rattle.trace.specs.Reads.{Reading, read, then, rule, a_byte, a_number, at_most, a_count, a_piece, many, after, each, two_bytes}

-- CONTENTS: the state is the contents before

abbrev pub push : {X : Type 0} → List X → X → List X
push xs x = xs ++ x ∷ []

abbrev pub new_content : List Content → Content → List ℕ → Reading Content
new_content es c bs = rule (not (mem c es)) (read c bs)

abbrev pub content_of_length : List Content → ℕ → List ℕ → Reading Content
content_of_length es n bs = then (a_piece n bs) (new_content es)

abbrev pub a_content : List Content → List ℕ → Reading Content
a_content es bs = then (a_count 4096 bs) (content_of_length es)

abbrev pub all_contents : ℕ → List ℕ → Reading (List Content)
all_contents n bs = many a_content push n [] bs

abbrev pub the_contents : List ℕ → Reading (List Content)
the_contents bs = then (a_count 1024 bs) all_contents

-- COMMANDS: five bytes, each a field; the state is the commands before

abbrev pub kind_told : Option Kind → List ℕ → Reading Kind
kind_told (Some k) bs = read k bs
kind_told None bs = Err TraceRule

abbrev pub kind_field : ℕ → List ℕ → Reading Kind
kind_field b bs = kind_told (kind_of b) bs

abbrev pub a_kind : List ℕ → Reading Kind
a_kind bs = then (a_byte bs) kind_field

-- a file is at most 63, and 0 where the kind does not use it; places count from 1
abbrev pub highest : Kind → ℕ → ℕ
highest k place = cond (nat_le place (arity k)) 63 0

abbrev pub a_file : ℕ → List ℕ → Reading ℕ
a_file most bs = then (a_byte bs) (at_most most)

-- a command is among earlier ones
abbrev pub known_command : Command → List Command → Bool
known_command c es = in_script c es

abbrev pub new_command : List Command → Kind → ℕ → ℕ → ℕ → ℕ → List ℕ → Reading Command
new_command es k a b c d bs =
    rule (not (known_command (record { kind = k; a = a; b = b; c = c; d = d }) es)) (read (record { kind = k; a = a; b = b; c = c; d = d }) bs)

abbrev pub from_third : List Command → Kind → ℕ → ℕ → ℕ → List ℕ → Reading Command
from_third es k a b c bs = then (a_file (highest k 4) bs) (new_command es k a b c)

abbrev pub from_second : List Command → Kind → ℕ → ℕ → List ℕ → Reading Command
from_second es k a b bs = then (a_file (highest k 3) bs) (from_third es k a b)

abbrev pub from_first : List Command → Kind → ℕ → List ℕ → Reading Command
from_first es k a bs = then (a_file (highest k 2) bs) (from_second es k a)

abbrev pub from_kind : List Command → Kind → List ℕ → Reading Command
from_kind es k bs = then (a_file (highest k 1) bs) (from_first es k)

abbrev pub a_command : List Command → List ℕ → Reading Command
a_command es bs = then (a_kind bs) (from_kind es)

-- USES: the state is the highest index so far; n is the count of contents

abbrev pub higher : ℕ → Use → ℕ
higher h u = max h u.number

abbrev pub index_ok : ℕ → ℕ → ℕ → Bool
index_ok n h i = nat_le 1 i && nat_le i n && nat_le i (h + 1)

abbrev pub use_index : ℕ → ℕ → ℕ → ℕ → List ℕ → Reading Use
use_index n h f i bs = rule (index_ok n h i) (read (record { file = f; number = i }) bs)

abbrev pub use_file : ℕ → ℕ → ℕ → List ℕ → Reading Use
use_file n h f bs = then (a_number bs) (use_index n h f)

abbrev pub a_use : ℕ → ℕ → List ℕ → Reading Use
a_use n h bs = then (a_file 63 bs) (use_file n h)

-- RECORDS: the state is the commands before, and the highest index so far

pub record Before : Type 0 where
  pub commands : List Command
  pub high : ℕ

abbrev pub start : Before
start = record { commands = []; high = 0 }

-- the highest index up to a record
abbrev pub raised : ℕ → Record → ℕ
raised h r = higher (after higher h r.reads) r.write

abbrev pub noted : Before → Record → Before
noted s r = record { commands = push s.commands r.command; high = raised s.high r }

-- a record reads 1 to 16 times
abbrev pub count_ok : ℕ → Bool
count_ok k = nat_le 1 k && nat_le k 16

abbrev pub record_write : Command → List Use → Use → List ℕ → Reading Record
record_write c us u bs = read (record { command = c; reads = us; write = u; standing = Hint }) bs

abbrev pub record_reads : ℕ → ℕ → Command → List Use → List ℕ → Reading Record
record_reads n h c us bs = then (a_use n (after higher h us) bs) (record_write c us)

abbrev pub record_count : ℕ → ℕ → Command → ℕ → List ℕ → Reading Record
record_count n h c k bs = rule (count_ok k) (then (many (a_use n) higher k h bs) (record_reads n h c))

abbrev pub record_command : ℕ → ℕ → Command → List ℕ → Reading Record
record_command n h c bs = then (a_byte bs) (record_count n h c)

abbrev pub a_record : ℕ → Before → List ℕ → Reading Record
a_record n s bs = then (a_command s.commands bs) (record_command n s.high)

abbrev pub all_records : ℕ → ℕ → List ℕ → Reading (List Record)
all_records n m bs = many (a_record n) noted m start bs

abbrev pub the_records : ℕ → List ℕ → Reading (List Record)
the_records n bs = then (a_count 256 bs) (all_records n)

-- THE FILE: every content is used, and no bytes are left

abbrev pub ended : {Y : Type 0} → List ℕ → Y → Result Y Refusal
ended bs t = cond (length bs == 0) (Ok t) (Err TraceLength)

abbrev pub finished : List Content → List Record → List ℕ → Result Traced Refusal
finished cs rs bs = rule ((after noted start rs).high == length cs) (ended bs (record { contents = cs; records = rs }))

abbrev pub with_contents : List Content → List ℕ → Result Traced Refusal
with_contents cs bs = then (the_records (length cs) bs) (finished cs)

abbrev pub decoded : List ℕ → Result Traced Refusal
decoded bs = then (the_contents bs) with_contents

-- HOW A TRACE IS WRITTEN

abbrev pub content_bytes : Content → List ℕ
content_bytes c = two_bytes (length c) ++ c

abbrev pub command_bytes : Command → List ℕ
command_bytes c = kind_number c.kind ∷ c.a ∷ c.b ∷ c.c ∷ c.d ∷ []

abbrev pub use_bytes : Use → List ℕ
use_bytes u = u.file ∷ two_bytes u.number

abbrev pub record_bytes : Record → List ℕ
record_bytes r = command_bytes r.command ++ (length r.reads ∷ []) ++ flat_map use_bytes r.reads ++ use_bytes r.write

abbrev pub encoded : Traced → List ℕ
encoded t =
    two_bytes (length t.contents) ++ flat_map content_bytes t.contents
    ++ two_bytes (length t.records) ++ flat_map record_bytes t.records

-- WHICH TRACES A FILE CAN HOLD

abbrev pub content_ok : List Content → Content → Bool
content_ok es c = nat_le (length c) 4096 && not (mem c es)

abbrev pub files_ok : Command → Bool
files_ok c =
    nat_le c.a (highest c.kind 1) && (nat_le c.b (highest c.kind 2) && (nat_le c.c (highest c.kind 3) && nat_le c.d (highest c.kind 4)))

abbrev pub use_ok : ℕ → ℕ → Use → Bool
use_ok n h u = nat_le u.file 63 && index_ok n h u.number

abbrev pub is_hint : Standing → Bool
is_hint Hint = true
is_hint Own = false
is_hint Struck = false

abbrev pub record_ok : ℕ → Before → Record → Bool
record_ok n s r =
    (files_ok r.command && not (known_command r.command s.commands))
    && (count_ok (length r.reads)
    && ((each (use_ok n) higher s.high r.reads && use_ok n (after higher s.high r.reads) r.write) && is_hint r.standing))

abbrev pub lawful : Traced → Bool
lawful t =
    (nat_le (length t.contents) 1024 && each content_ok push [] t.contents)
    && ((nat_le (length t.records) 256 && each (record_ok (length t.contents)) noted start t.records)
    && (after noted start t.records).high == length t.contents)
