-- Each line has what it finds.
use Rattle.std.proofs.Common.{◌≡◌, map, None, rules, arith}
use Rattle.std.specs.Option.{option_map}
use Rattle.model.specs.Records.{said}
use Rattle.policy.specs.Waiting.{finds}
use Rattle.policy.proofs.Filling.{filled}
use Rattle.policy.proofs.waits.methods.found_all.Goals as goal

pub returns-clause-each : goal.returns-clause-each
returns-clause-each c = λ k h.
    let finds_it = finds c.args.commands.now (map said c.args.records.now) in
    filled _ c.from_fn.result (λ k x. option_map said x ≡ finds_it k) (λ x y q e. search rules) 0 64 c.from_fn.ensures.items.each k (omega arith) h None
