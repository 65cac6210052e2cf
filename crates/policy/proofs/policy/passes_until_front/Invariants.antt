-- Each ask so far passed the front by, which is no oftener than the patience allows.
use Rattle.std.proofs.Common.{◌≡◌, ◌≤◌}
use Rattle.policy.proofs.Asking.{Passing}
use Rattle.policy.proofs.policy.passes_until_front.Given as goal

abbrev pub invariant-loop-passed : goal.invariant-loop-passed
invariant-loop-passed g l =
    Passing (g.P.Policy.patience l.initial.policy) l.front (g.P.Policy.passes l.initial.policy) (g.P.Policy.passes l.policy) l.passed
    × (g.P.Policy.patience l.policy ≡ g.P.Policy.patience l.initial.policy)
    × (l.passed ≤ g.P.Policy.patience l.initial.policy)
