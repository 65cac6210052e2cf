-- The image has one entry more, or the file is absent.
use Rattle.std.proofs.Common.{◌≡◌, length, get_or, ap, arith, rules}
use Rattle.files.proofs.Layouts.{absent, added}
use Rattle.files.proofs.draft.Draft.add.Goals as goal

pub returns-then-number-eq0 : goal.returns-then-number-eq0
returns-then-number-eq0 c =
    let long : length c.args.numbers.now ≡ 64 = search rules in
    absent c.args.self.now c.args.numbers.now c.args.file (omega (arith, c.requires.within)) c.if-number-eq0.true c.requires.drafted

pub returns : goal.returns
returns c =
    let long : length c.args.numbers.now ≡ 64 = search rules in
    added c.args.self.now c.args.numbers.now c.args.file _ _ (omega (arith, c.requires.within)) c.requires.within c.if-number-eq0.false
    (ap (λ bs. get_or bs 0 0) c.to_be_bytes.ensures) (ap (λ bs. get_or bs 1 0) c.to_be_bytes.ensures) c.requires.drafted
