-- The lines that are left, as the states of the lines tell them one by one.
use Rattle.std.proofs.Common.{◌≡◌, ℕ, not, ◌&&◌, ltb, List, get_or}
use Rattle.model.specs.declared.run.LineState.{LineState}
use Rattle.model.specs.declared.run.LineState.TheVariants.{Waiting}
use Rattle.policy.specs.Lines.{has}
use Rattle.policy.specs.declared.line_set.LineSet.{LineSet}
use Rattle.runner.specs.States.{is_ended}

-- the lines below n, without those below i whose state is ended
abbrev pub Sofar : ℕ → List LineState → ℕ → LineSet → Type 0
Sofar n states i set = (k : ℕ) → has set k ≡ (ltb k n && not (ltb k i && is_ended (get_or states k Waiting)))
