-- The first entry of the file tells what the image gives it.
use Rattle.std.proofs.Common.{◌≡◌, ◌<◌, length, sym, ap, ◌∙◌, arith, rules}
use Rattle.files.specs.Trips.{mapped_past}
use Rattle.files.proofs.Walks.{number_of, found_is}
use Rattle.files.proofs.codec.number_in.Goals as goal

pub returns-then-file-ge64 : goal.returns-then-file-ge64
returns-then-file-ge64 c = mapped_past c.args.bytes.now c.args.file c.if-file-ge64.true

pub returns-in-Some : goal.returns-in-Some
returns-in-Some c =
    let long : length c.args.bytes.now ≡ 193 = search rules in
    let low : c.args.file < 64 = omega (arith, c.if-file-ge64.false) in
    let is = found_is c.args.file c.min-count.result c.args.bytes.now _ _ long low c.min-count.ensures c.as_chunks.ensures.front c.entry_of.ensures in
    c.from_be_bytes.ensures ∙ ap number_of (sym c.in-Some.is) ∙ is

pub returns-in-None : goal.returns-in-None
returns-in-None c =
    let long : length c.args.bytes.now ≡ 193 = search rules in
    let low : c.args.file < 64 = omega (arith, c.if-file-ge64.false) in
    let is = found_is c.args.file c.min-count.result c.args.bytes.now _ _ long low c.min-count.ensures c.as_chunks.ensures.front c.entry_of.ensures in
    ap number_of (sym c.in-None.is) ∙ is
