-- What is returned where a `?` ends the function.
use Rattle.std.proofs.Common.{◌≡◌, IsErrAnd, Err, Result, ap, ◌∙◌}
use Rattle.std.proofs.result.Match.{err_is}
use Rattle.trace.specs.Reads.{Reading}
use Rattle.trace.specs.Told.{told}
use Rattle.trace.specs.declared.input.Input.{Input}
use Rattle.model.specs.declared.refusal.Refusal.{Refusal}

pub break_told : {X Y : Type 0} (f : X → Y) (r : Result X Refusal) (i : Input) (e : Refusal) (answer : Reading Y) → IsErrAnd r (λ y. y ≡ e) → Err e ≡ answer → told f r i ≡ answer
break_told f r i e answer by same = ap (λ s. told f s i) (err_is r e by) ∙ same
