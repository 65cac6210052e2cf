-- The sizes of the parts add up to the length of the file.
use Rattle.std.proofs.Common.{[], length, ap, arith}
use Rattle.std.specs.List.{flat_map}
use Rattle.pool.specs.Contents.{meant}
use Rattle.pool.proofs.Sounds.{sound}
use Rattle.trace_write.proofs.Outputs.{encoded_size}
use Rattle.trace_write.proofs.Sizes.{contents_low, records_low}
use Rattle.trace_write.specs.Puts.{content_of, record_of}
use Rattle.trace_write.proofs.saves.whole.trace_size.Goals as goal

pub overflow_add-result : goal.overflow_add-result
overflow_add-result c =
    let low = contents_low (meant c.args.pool.now) (sound c.args.pool.now) c.numbers-numbers.result.now in
    omega (arith, low, c.contents_size.ensures, c.numbers-numbers.ensures.few)

pub overflow_add-result-2 : goal.overflow_add-result-2
overflow_add-result-2 c =
    let low = contents_low (meant c.args.pool.now) (sound c.args.pool.now) c.numbers-numbers.result.now in
    let more = records_low [] c.as_slice-records.result.now in
    omega (arith, low, more, c.contents_size.ensures, c.records_size.ensures [], c.numbers-numbers.ensures.few, c.as_slice-records.ensures.fits)

pub returns : goal.returns
returns c =
    let p = meant c.args.pool.now in
    let ns = c.args.order.now.numbers.items in
    let a = ap (λ ms. length (flat_map (content_of p) ms)) c.numbers-numbers.ensures.value in
    let b = ap (λ rs. length (flat_map (record_of ns) rs)) c.as_slice-records.ensures.value in
    let s = encoded_size p ns c.args.list.now.items in
    omega (arith, a, b, s, c.contents_size.ensures, c.records_size.ensures ns)
