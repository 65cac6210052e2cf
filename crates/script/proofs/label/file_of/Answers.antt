-- The first label that is equal, told as a byte.
use Rattle.std.proofs.Common.{◌≡◌, map, rules, tests, sym, ◌∙◌}
use Rattle.std.proofs.lemmas.Iterator.{YieldsList-from_slice}
use Rattle.std.proofs.lemmas.Iterator.Adapters.{position_from-zero}
use Rattle.std.proofs.lemmas.Iterator.Search.{position_from_yields_List}
use Rattle.std.specs.List.{position}
use Rattle.std.specs.Str.{bytes_eq}
use Rattle.model.proofs.Lists.{position_map}
use Rattle.script.proofs.label.file_of.Goals as goal

pub returns-in_err-file : goal.returns-in_err-file
returns-in_err-file c =
    let l = c.args.label.now in
    let e : c.position.result ≡ position (λ x. bytes_eq x.now l) c.args.labels.now =
    position_from_yields_List _ _ _ c.position.result c.position.ensures.ran (YieldsList-from_slice c.args.labels.now cc) (λ x b q k. search (rules, tests)) in
    c.from_residual.ensures ∙ sym c.in_err-file.was ∙ e ∙ sym (position_map (λ x. bytes_eq x l) (λ x. x.now) c.args.labels.now) ∙ position_from-zero (λ x. bytes_eq x l) (map (λ x. x.now) c.args.labels.now)

pub returns : goal.returns
returns c =
    let l = c.args.label.now in
    let e : c.position.result ≡ position (λ x. bytes_eq x.now l) c.args.labels.now =
    position_from_yields_List _ _ _ c.position.result c.position.ensures.ran (YieldsList-from_slice c.args.labels.now cc) (λ x b q k. search (rules, tests)) in
    sym c.in_ok-file.was ∙ e ∙ sym (position_map (λ x. bytes_eq x l) (λ x. x.now) c.args.labels.now) ∙ position_from-zero (λ x. bytes_eq x l) (map (λ x. x.now) c.args.labels.now)
