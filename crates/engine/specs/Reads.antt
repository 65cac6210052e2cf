-- The reads of a line by their numbers.
use Rattle.std.specs.Prelude.{ℕ, Bool, not, ◌&&◌, List, map, filter, ◌==◌}
use Rattle.model.specs.declared.run.Entry.{Entry}

-- an entry is a read of line l
abbrev pub reads_by : ℕ → Entry → Bool
reads_by l e = l == e.line && not e.wrote

-- the reads of line l
abbrev pub reads_in : ℕ → List Entry → List Entry
reads_in l es = filter (reads_by l) es

-- the numbers of the contents that line l has read
abbrev pub numbers : ℕ → List Entry → List ℕ
numbers l es = map (λ e. e.number) (reads_in l es)
