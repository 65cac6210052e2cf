-- The rules of the book: which record a command has, and where a record goes.
use Rattle.std.specs.Prelude.{◌&&◌, ◌∷◌, ◌++◌, find}
use Rattle.std.specs.List.{list_any}
use Rattle.model.specs.Words.{Bool, true, false, cond, List, [], ℕ, suc, eqb, ltb, length, Option, Command, Entry}
use Rattle.model.specs.declared.record.Standing.TheVariants.{Hint, Own, Struck}
use Rattle.model.specs.Numbers.{kind_number}
use Rattle.model.specs.Records.{Use, Record, Standing}

abbrev pub own : Standing → Bool
own Hint = false
own Own = true
own Struck = false

abbrev pub unstruck : Standing → Bool
unstruck Hint = true
unstruck Own = true
unstruck Struck = false

-- two commands are the same: kind for kind and file for file
abbrev pub same_command : Command → Command → Bool
same_command c d = eqb (kind_number c.kind) (kind_number d.kind) && eqb c.a d.a && eqb c.b d.b && eqb c.c d.c && eqb c.d d.d

-- the record that a line of command c finds
abbrev pub record_of : Command → List Record → Option Record
record_of c rs = find (λ r. same_command c r.command) rs

abbrev pub has_record : Command → List Record → Bool
has_record c rs = list_any (λ r. same_command c r.command) rs

-- THE PLACE FOR A RECORD of a kept run

abbrev pub in_script : Command → List Command → Bool
in_script c ds = list_any (same_command c) ds

-- in place of the record of its command
abbrev pub replace : Record → List Record → List Record
replace q [] = []
replace q (r ∷ rs) = cond (same_command q.command r.command) (q ∷ rs) (r ∷ replace q rs)

-- in the lowest place whose command is not in the script
abbrev pub evict : List Command → Record → List Record → List Record
evict cs q [] = []
evict cs q (r ∷ rs) = cond (in_script r.command cs) (r ∷ evict cs q rs) (q ∷ rs)

-- in place of its command's record, else appended, else in a place that the script has no use for
abbrev pub keep : List Command → ℕ → Record → List Record → List Record
keep cs places q rs = cond (has_record q.command rs) (replace q rs) (cond (ltb (length rs) places) (rs ++ q ∷ []) (evict cs q rs))

-- THE OWN RECORD of a line that has ended, from its entries

abbrev pub use_of : Entry → Use
use_of e = record { file = e.file; number = e.number }

abbrev pub reads_of : ℕ → List Entry → List Use
reads_of l [] = []
reads_of l (e ∷ es) = cond (eqb l e.line) (cond e.wrote (reads_of l es) (use_of e ∷ reads_of l es)) (reads_of l es)

abbrev pub write_of : ℕ → List Entry → Use
write_of l [] = record { file = 0; number = 0 }
write_of l (e ∷ es) = cond (eqb l e.line && e.wrote) (use_of e) (write_of l es)

abbrev pub recorded : ℕ → Command → List Entry → Record
recorded l c es = record { command = c; reads = reads_of l es; write = write_of l es; standing = Own }

-- each line of `left` in order gives its record; the first of them is line l
abbrev pub keeps : List Command → ℕ → List Entry → ℕ → List Command → List Record → List Record
keeps cs places es l [] rs = rs
keeps cs places es l (c ∷ left) rs = keeps cs places es (suc l) left (keep cs places (recorded l c es) rs)

-- A HINT is appended, or takes the place of a record of its command that is not own
abbrev pub hint : Record → List Record → List Record
hint q [] = q ∷ []
hint q (r ∷ rs) = cond (same_command q.command r.command) (cond (own r.standing) (r ∷ rs) (q ∷ rs)) (r ∷ hint q rs)
