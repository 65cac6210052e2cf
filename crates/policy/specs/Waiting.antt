-- Who waits on whom, as the records of the last run tell.
use Rattle.std.specs.Prelude.{ℕ, ◌+◌, ◌*◌, Bool, true, false, cond, not, ◌&&◌, ◌||◌, List, Some, None, Option, ◌==◌, nat_le, nat_lt, slice_index_or}
use Rattle.std.specs.List.{slice_get, list_any}
use Rattle.model.specs.Book.{unstruck, record_of}
use Rattle.model.specs.Records.{Record}
use Rattle.model.specs.declared.command.Command.{Command}
use Rattle.model.specs.declared.record.Use.{Use}
use Rattle.policy.specs.Lines.{some_below}
use Rattle.policy.specs.declared.waits.Waits.{Waits}

-- a record counts as none if it is struck
abbrev pub unless_struck : Option Record → Option Record
unless_struck None = None
unless_struck (Some r) = cond (unstruck r.standing) (Some r) None

-- the record that a line finds; what is no line of the script has no command, and so no record
abbrev pub finds_by : List Record → Option Command → Option Record
finds_by rs None = None
finds_by rs (Some c) = unless_struck (record_of c rs)

abbrev pub finds : List Command → List Record → ℕ → Option Record
finds cs rs line = finds_by rs (slice_get cs line)

-- one of the reads is of the file
abbrev pub reads_file : ℕ → List Use → Bool
reads_file f us = list_any (λ u. f == u.file) us

-- by their records, a line waits on an earlier one: a line without a record does, one with a record never waits on one without
abbrev pub waits_by : Option Record → Option Record → Bool
waits_by None earlier = true
waits_by (Some r) None = false
waits_by (Some r) (Some e) = reads_file e.write.file r.reads

-- a line waits on another line
abbrev pub waits_on : List Command → List Record → ℕ → ℕ → Bool
waits_on cs rs line earlier = nat_lt earlier line && waits_by (finds cs rs line) (finds cs rs earlier)

-- who waits on whom in a table with 64 places a line; what is no line waits on all earlier ones
abbrev pub waits : Waits → ℕ → ℕ → Bool
waits w line earlier = nat_lt earlier line && (nat_le 64 line || slice_index_or w.table (line * 64 + earlier) false)

-- a line is held up by another: that one is in the set, and it waits on it
abbrev pub held_up : (ℕ → ℕ → Bool) → (ℕ → Bool) → ℕ → ℕ → Bool
held_up waiting set line earlier = set earlier && waiting line earlier

-- a line of the set that waits on no line of it
abbrev pub free : (ℕ → ℕ → Bool) → (ℕ → Bool) → ℕ → Bool
free waiting set line = set line && not (some_below (held_up waiting set line) line)
