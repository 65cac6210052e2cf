-- The numbers of the head are written one after the other.
use Rattle.std.proofs.Common.{ℕ, List, ◌∷◌, ◌++◌, ap, ◌∙◌}
use Rattle.std.specs.List.{flat_map}
use Rattle.model.specs.declared.answers.Built.{Built}
use Rattle.output.proofs.Steps.{then, as_bytes}
use Rattle.trace.specs.Reads.{two_bytes}
use Rattle.boundary.specs.Accounts.{did, end_number, stop_number, head}
use Rattle.boundary.proofs.accounts.put_head.Goals as goal

pub returns : goal.returns
returns g c =
    let fs = g.F.FileStore.map c.args.files.now in
    let a = c.args.outcome in
    let bytes : ℕ → ℕ → Built → List ℕ = λ e s b. (e ∷ s ∷ (two_bytes b.executed ++ two_bytes b.skipped)) ++ flat_map two_bytes fs in
    let b = c.did-built.result in
    as_bytes (head a fs)
    (ap (λ e. bytes e c.stop_number.result b) c.end_number.ensures
    ∙ ap (λ s. bytes (end_number a) s b) (c.stop_number.ensures ∙ ap (λ d. stop_number d.first) c.did-built.ensures)
    ∙ ap (λ d. bytes (end_number a) (stop_number (did a).first) d) c.did-built.ensures)
    (then (then (then c.put.ensures c.put_number.ensures) c.put_number-2.ensures) c.put_files.ensures)
