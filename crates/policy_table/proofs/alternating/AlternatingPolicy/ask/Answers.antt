-- Where the front is passed by, it leads the set, and it was answered the time before.
use Rattle.std.proofs.Common.{sym, arith}
use Rattle.policy.specs.Lines.{has}
use Rattle.policy.proofs.Lines.{leads_to}
use Rattle.policy_table.proofs.alternating.AlternatingPolicy.ask.Goals as goal

pub returns-then-has-clause-answers : goal.returns-then-has-clause-answers
returns-then-has-clause-answers c = record {
  bound = omega arith;
  member = λ _. sym c.if-has.ensures;
  due = λ e. absurd (omega arith);
  astray = λ no. absurd (no (leads_to (has c.args.among.now) c.args.front (sym c.if-leads.ensures)));
  taken = λ e. absurd (c.if-after-front.true e);
  passed = λ _. omega arith;
}
