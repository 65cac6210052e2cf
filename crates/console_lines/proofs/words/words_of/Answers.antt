-- The words taken so far and those that are left are all the words.
use Rattle.std.proofs.Common.{◌≡◌, ℕ, List, ◌++◌, map, length, take, drop, sym, ap, ◌∙◌, arith, Bor}
use Rattle.std.proofs.lemmas.Bool.{eqb-true}
use Rattle.std.proofs.lemmas.List.{length-map, take_at}
use Rattle.script.specs.Text.{words}
use Rattle.console_lines.proofs.words.words_of.Goals as goal

-- some words are taken, and the others stand from `at` on
seven : (line : List ℕ) (ws : List (Bor (List ℕ))) (at : ℕ) → map (λ x. x.now) ws ++ words (drop at line) ≡ words line → length ws ≡ 7 → map (λ x. x.now) ws ≡ take 7 (words line)
seven line ws at inv h =
    let l = length-map ws (λ x. x.now) in
    sym (take_at (map (λ x. x.now) ws) (words (drop at line)) 7 (omega arith)) ∙ ap (take 7) inv

pub returns-after-loop-at : goal.returns-after-loop-at
returns-after-loop-at c =
    seven c.args.line.now c.loop-at.words.items c.loop-at.at c.loop-at.invariant (eqb-true _ 7 (sym c.is_full.ensures.value ∙ c.loop-at-test.false))
