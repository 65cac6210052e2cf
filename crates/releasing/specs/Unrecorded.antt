-- The policy of a book without records, by the last-run policy that it asks.
use Rattle.policy.specs.declared.patient.Patient.{Patient}
use Rattle.policy.specs.declared.waits.Waits.{Waits}
use Rattle.releasing.specs.declared.unrecorded.Unrecorded.{Unrecorded}

abbrev pub last_run_of : Unrecorded → Patient Waits
last_run_of u = u.policy
