-- What a patience allows, and a policy that has one.
use Rattle.std.specs.Prelude.{ℕ}
use Rattle.policy.specs.declared.patience.Patience.{Patience}
use Rattle.policy.specs.declared.patient.Patient.{Patient}

-- how often in a row the front may be passed by, and how often it just was
abbrev pub most : Patience → ℕ
most p = p.limit

abbrev pub passed : Patience → ℕ
passed p = p.passes

-- the same of a policy, and what it chooses by
abbrev pub patience_of : {C : Type 0} → Patient C → ℕ
patience_of p = most p.patience

abbrev pub passes_of : {C : Type 0} → Patient C → ℕ
passes_of p = passed p.patience

abbrev pub choice_of : {C : Type 0} → Patient C → C
choice_of p = p.choice
