-- The table tells who waits on whom.
use Rattle.std.proofs.Common.{◌≡◌, map, false, rules, arith}
use Rattle.model.specs.Records.{said}
use Rattle.policy.proofs.Filling.{filled}
use Rattle.policy.proofs.Waiting.{waits_at, table_tells}
use Rattle.policy.proofs.waits.Waits.new.Goals as goal

pub returns : goal.returns
returns c =
    let all = c.found_all-all.result in
    let table = c.from_fn.result in
    table_tells c.args.commands.now (map said c.args.records.now) all table c.found_all-all.ensures.each
    (λ k h. filled _ table (λ k b. b ≡ waits_at all k) (λ x y q e. search rules) 0 4096 c.from_fn.ensures.items.each k (omega arith) h false)
