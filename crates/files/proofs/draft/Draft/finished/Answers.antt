-- With the count in front it is the layout, which means the map.
use Rattle.std.proofs.Common.{◌≡◌, ℕ, ◌<◌, length, get_or, sym, ap, subst, rules}
use Rattle.files.specs.Layout.{Map}
use Rattle.files.proofs.Layouts.{finished}
use Rattle.files.specs.Trips.{means}
use Rattle.files.proofs.draft.Draft.finished.Goals as goal

pub returns : goal.returns
returns c =
    let ns = c.args.numbers in
    let long : length ns ≡ 64 = search rules in
    let low : (k : ℕ) → get_or ns k 0 < 65536 = λ k. search rules in
    let is : Map ns = record { long = long; fits = low } in
    let laid = finished c.args.self ns long c.requires in
    let back = means _ ns is laid in
    record { value = laid; back = back; fits = λ k. (let P : ℕ → Type 0 = λ n. n < 65536 in subst P (ap (λ xs. get_or xs k 0) (sym back)) (low k)) }
