-- What a script says.
use Rattle.std.specs.Prelude.{Result}
use Rattle.script.specs.Text.{Meaning}
use Rattle.script.specs.Views.{held, changed}
use Rattle.script.specs.declared.script.Script.{Script}

abbrev pub meaning : Script → Meaning
meaning s = held s.tables

-- what a call that fills a script comes to
abbrev pub answered : {U E : Type 0} → Result U E → Script → Result Meaning E
answered r s = changed r s.tables
