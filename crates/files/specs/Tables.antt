-- What a table means.
use Rattle.std.specs.Prelude.{ℕ, List}
use Rattle.files.specs.declared.table.Table.{Table}

-- the numbers of the files 0 to 63, in order
abbrev pub numbers_of : Table → List ℕ
numbers_of t = t.numbers
