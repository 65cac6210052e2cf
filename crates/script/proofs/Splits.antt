-- The loop that takes the words of a text line.
use Rattle.std.proofs.Common.{◌≡◌, ℕ, List, ◌++◌, map, length, take, drop, sym, ap, ◌∙◌, arith, Bor}
use Rattle.std.proofs.lemmas.List.{length-map, take_at}
use Rattle.script.specs.Text.{words}

-- some words are taken, and the others stand from `at` on
module _ (line : List ℕ) (ws : List (Bor (List ℕ))) (at : ℕ) (inv : map (λ x. x.now) ws ++ words (drop at line) ≡ words line) where
  pub six : length ws ≡ 6 → map (λ x. x.now) ws ≡ take 6 (words line)
  six h =
      let l = length-map ws (λ x. x.now) in
      sym (take_at (map (λ x. x.now) ws) (words (drop at line)) 6 (omega arith)) ∙ ap (take 6) inv
