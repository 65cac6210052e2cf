-- No line asks for anything in words past its seventh.
use Rattle.std.proofs.Common.{◌≡◌, ℕ, ◌-◌, ◌≤◌, cond, List, [], ◌∷◌, map, length, take, drop, get_or, refl, ap, ◌∙◌, arith, Bor}
use Rattle.std.proofs.lemmas.List.{take_all}
use Rattle.script.specs.Text.{words, comment}
use Rattle.console_lines.specs.Requests.{passed_over, said, request_written, words_say, line_written}

few : (w : List ℕ) (ws : List (List ℕ)) → request_written w (take 6 ws) ≡ request_written w ws
few w [] = refl
few w (a ∷ []) = refl
few w (a ∷ b ∷ []) = refl
few w (a ∷ b ∷ c ∷ []) = refl
few w (a ∷ b ∷ c ∷ d ∷ []) = refl
few w (a ∷ b ∷ c ∷ d ∷ e ∷ []) = refl
few w (a ∷ b ∷ c ∷ d ∷ e ∷ f ∷ ws) = refl

pub first_seven : (ws : List (List ℕ)) → words_say (take 7 ws) ≡ words_say ws
first_seven [] = refl
first_seven (w ∷ ws) = ap (λ r. cond (comment w) passed_over (said r)) (few w ws)

-- the first word of a line and those after it, up to its seventh, say what the line says
pub read_on : (line : List ℕ) (xs : List (Bor (List ℕ))) (d : Bor (List ℕ)) → 1 ≤ length xs → map (λ x. x.now) xs ≡ take 7 (words line) → words_say ((get_or xs 0 d).now ∷ map (λ x. x.now) (take (length xs - 1) (drop 1 xs))) ≡ line_written line
read_on line [] d some is = absurd (omega (arith, some))
read_on line (x ∷ xs) d some is =
    let all : take (length (x ∷ xs) - 1) xs ≡ xs = take_all (length (x ∷ xs) - 1) xs (omega arith) in
    ap (λ ys. words_say (x.now ∷ map (λ x. x.now) ys)) all ∙ ap words_say is ∙ first_seven (words line)
