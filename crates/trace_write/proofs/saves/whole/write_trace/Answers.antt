-- Four writes give the file.
use Rattle.std.proofs.Common.{length, ap, arith}
use Rattle.std.specs.List.{flat_map}
use Rattle.output.proofs.Steps.{then, as_bytes}
use Rattle.pool.specs.Contents.{meant}
use Rattle.trace.specs.Reads.{two_bytes}
use Rattle.trace_write.proofs.Outputs.{encoded_is, encoded_size}
use Rattle.trace_write.specs.Puts.{content_of, record_of}
use Rattle.trace_write.proofs.saves.whole.write_trace.Goals as goal

pub put_contents-requires : goal.put_contents-requires
put_contents-requires c =
    let p = meant c.args.pool.now in
    let s = encoded_size p c.args.order.now.numbers.items c.args.list.now.items in
    let a = ap (λ ns. length (flat_map (content_of p) ns)) c.numbers-numbers.ensures.value in
    omega arith

pub put_number-requires-2 : goal.put_number-requires-2
put_number-requires-2 c =
    let p = meant c.args.pool.now in
    let s = encoded_size p c.args.order.now.numbers.items c.args.list.now.items in
    let a = ap (λ ns. length (flat_map (content_of p) ns)) c.numbers-numbers.ensures.value in
    omega arith

pub put_records-requires : goal.put_records-requires
put_records-requires c =
    let p = meant c.args.pool.now in
    let ns = c.args.order.now.numbers.items in
    let s = encoded_size p ns c.args.list.now.items in
    let a = ap (λ ms. length (flat_map (content_of p) ms)) c.numbers-numbers.ensures.value in
    let b = ap (λ rs. length (flat_map (record_of ns) rs)) c.as_slice-records.ensures.value in
    omega arith

pub returns : goal.returns
returns c =
    let p = meant c.args.pool.now in
    let ns = c.args.order.now.numbers.items in
    let rs = c.args.list.now.items in
    let one = as_bytes (two_bytes (length ns)) (ap (λ ms. two_bytes (length ms)) c.numbers-numbers.ensures.value) c.put_number.ensures in
    let two = as_bytes (flat_map (content_of p) ns) (ap (flat_map (content_of p)) c.numbers-numbers.ensures.value) c.put_contents.ensures in
    let three = as_bytes (two_bytes (length rs)) (ap (λ ss. two_bytes (length ss)) c.as_slice-records.ensures.value) c.put_number-2.ensures in
    let four = as_bytes (flat_map (record_of ns) rs) (ap (flat_map (record_of ns)) c.as_slice-records.ensures.value) c.put_records.ensures in
    as_bytes _ (encoded_is p ns rs) (then (then (then one two) three) four)
