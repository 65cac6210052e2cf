-- What is printed has at most 2,048 bytes, and so it is laid into the first part of the buffer.
use Rattle.std.proofs.Common.{◌++◌, drop, ap, ◌∙◌, arith}
use Rattle.output.specs.Writes.{laid}
use Rattle.releasing.specs.Printed.{printed}
use Rattle.boundary.proofs.Parts.{into_front}
use Rattle.boundary.proofs.releases.boundary_release.Goals as goal

pub returns-in-Some-clause-bytes : goal.returns-in-Some-clause-bytes
returns-in-Some-clause-bytes c = λ long.
    let out = c.args.report.now in
    let text = printed c.args.text.now in
    ap (λ r. r ++ drop 2048 out) (c.release_into.ensures.bytes ∙ ap (laid 0 text) c.in-Some.ensures.cases.same)
    ∙ into_front 2048 text out (omega (arith, c.release_into.ensures.length, c.release_into.ensures.fits)) long
