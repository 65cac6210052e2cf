-- What is settled is an answer of the policy's meaning.
use Rattle.policy.specs.Lines.{has}
use Rattle.policy.proofs.Choices.{passed_by}
use Rattle.policy.proofs.patience.Patience.settle.Goals as goal

pub returns-then-takes-clause-answers : goal.returns-then-takes-clause-answers
returns-then-takes-clause-answers c =
    let s = c.args.self.now in
    passed_by (has c.args.among.now) c.args.front s.limit s.passes c.args.choice c.if-takes.ensures s.within c.if-choice-front.true
