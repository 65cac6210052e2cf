-- The policy that the console asks.
use Rattle.std.specs.Prelude.{ℕ, ◌≤◌}
use Rattle.std.proofs.Common.{lit≤}
use Rattle.policy.specs.Patiences.{most, passed, patience_of, passes_of}
use Rattle.console.specs.declared.asked.Asked.{Asked}
use Rattle.console.specs.declared.asked.Asked.TheVariants.{Order, Last, High, List}

abbrev pub patience : Asked → ℕ
patience (Order p) = 0
patience (Last p) = patience_of p
patience (High p) = patience_of p
patience (List p) = most p.patience

abbrev pub passes : Asked → ℕ
passes (Order p) = 0
passes (Last p) = passes_of p
passes (High p) = passes_of p
passes (List p) = passed p.patience

-- a patience is at most 32
pub patient : (p : Asked) → patience p ≤ 32
patient (Order p) = lit≤ tt
patient (Last p) = p.patience.patient
patient (High p) = p.patience.patient
patient (List p) = p.patience.patient

-- no policy has passed the front by more often than its patience allows
pub within : (p : Asked) → passes p ≤ patience p
within (Order p) = lit≤ tt
within (Last p) = p.patience.within
within (High p) = p.patience.within
within (List p) = p.patience.within
