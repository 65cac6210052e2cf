-- Past the spaces, then to the end of the word.
use Rattle.std.proofs.Common.{◌≡◌, not, eqb, is_some, ap, sym, ◌∙◌, subst, length, take, drop, ◌+◌, rules, tests}
use Rattle.std.proofs.lemmas.Bool.{eqb-true, eqb-false, not-false, not-true}
use Rattle.std.proofs.lemmas.List.{take_rest}
use Rattle.std.proofs.lemmas.List.Quantifiers.{position-Some}
use Rattle.std.proofs.lemmas.Iterator.{YieldsList-from_slice}
use Rattle.std.proofs.lemmas.Iterator.Search.{position_from_yields_List}
use Rattle.std.specs.Prelude.{position}
use Rattle.std.specs.Option.{unwrap_or}
use Rattle.script.proofs.Cuts.{no_word, one_word}
use Rattle.script.proofs.Places.{First, none_passes, first_or_end}
use Rattle.script.proofs.words.next_word.Goals as goal
use Rattle.script.specs.Words.{FirstWord}

pub returns-in_err-skipped : goal.returns-in_err-skipped
returns-in_err-skipped c =
    let l = c.in_ok-get.ensures in
    let line = drop c.args.from c.args.text.now in
    let e : c.position.result ≡ position (λ b. not (eqb b 32)) line =
    position_from_yields_List _ _ _ c.position.result c.position.ensures.ran (YieldsList-from_slice line (c.iter.ensures.rest ∙ l.lookup.0.2 ∙ take_rest c.args.text.now c.args.from)) (λ x b q k. search (rules, tests)) in
    let none = no_word line (λ k h. eqb-true _ 32 (not-false _ (none_passes (λ b. not (eqb b 32)) line 0 (ap is_some (sym e ∙ c.in_err-skipped.was)) k h))) in
    search (rules, none)

pub returns : goal.returns
returns c =
    let l = c.in_ok-get.ensures in
    let text = c.args.text.now in
    let n = c.in_ok-skipped.skipped in
    let start = c.args.from + n in
    let len = c.unwrap_or-length.result in
    let line = drop c.args.from text in
    let rest = drop start text in
    let e : c.position.result ≡ position (λ b. not (eqb b 32)) line =
    position_from_yields_List _ _ _ c.position.result c.position.ensures.ran (YieldsList-from_slice line (c.iter.ensures.rest ∙ l.lookup.0.2 ∙ take_rest text c.args.from)) (λ x b q k. search (rules, tests)) in
    let f : c.position-2.result ≡ position (λ b. eqb b 32) rest =
    position_from_yields_List _ _ _ c.position-2.result c.position-2.ensures.ran (YieldsList-from_slice rest (c.iter-2.ensures.rest ∙ take_rest text start)) (λ x b q k. search (rules, tests)) in
    let some = position-Some (λ b. not (eqb b 32)) line n 0 (sym e ∙ c.in_ok-skipped.was) in
    let end : First (λ b. eqb b 32) rest 0 len =
    subst (First (λ b. eqb b 32) rest 0) (sym (c.unwrap_or-length.ensures ∙ ap (λ s. unwrap_or c.position-2.result (length s)) (take_rest text start)))
    (first_or_end (λ b. eqb b 32) rest 0 c.position-2.result f) in
    let word = subst (λ s. FirstWord text c.args.from start (take len s)) (sym (take_rest text start))
    (one_word text c.args.from n len some.0 (λ k h. eqb-true _ 32 (not-false _ (some.2 k h))) (eqb-false _ 32 (not-true _ some.1))
    end.within (λ k h. eqb-false _ 32 (end.before k h)) (λ h. eqb-true _ 32 (end.here h))) in
    search (rules, word)
