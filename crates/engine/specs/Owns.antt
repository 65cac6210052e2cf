-- The entries of one line.
use Rattle.std.specs.Prelude.{ℕ, List, filter, ◌==◌}
use Rattle.model.specs.declared.run.Entry.{Entry}

abbrev pub own_in : ℕ → List Entry → List Entry
own_in l es = filter (λ e. l == e.line) es
