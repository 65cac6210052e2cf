-- A pair of digits is taken from the front of the rest, and its byte is put behind those so far.
use Rattle.std.proofs.Common.{◌≡◌, ℕ, ◌-◌, ◌≤◌, List, [], ◌∷◌, ◌++◌, Some, None, Option, length, take, drop, get_or, sym, ap, ◌∙◌, subst, refl, arith}
use Rattle.std.proofs.lemmas.List.{append_assoc, take_all}
use Rattle.console_lines.specs.Hex.{byte_value, onto, pairs, after}
use Rattle.console_lines.proofs.hex.bytes_written.Goals as goal

behind : (bs : List ℕ) (b : ℕ) (o : Option (List ℕ)) → after (bs ++ b ∷ []) o ≡ after bs (onto (Some b) o)
behind bs b None = refl
behind bs b (Some cs) = ap (λ xs. Some xs) (append_assoc bs (b ∷ []) cs)

turn : (bs rest : List ℕ) (b : ℕ) (o : Option (List ℕ)) → 2 ≤ length rest → after bs (pairs rest) ≡ o → byte_value (get_or rest 0 0) (get_or rest 1 0) ≡ Some b → after (bs ++ b ∷ []) (pairs (take (length rest - 2) (drop 2 rest))) ≡ o
turn bs [] b o long inv is = absurd (omega (arith, long))
turn bs (x ∷ []) b o long inv is = absurd (omega (arith, long))
turn bs (high ∷ low ∷ r) b o long inv is =
    let all : take (length (high ∷ low ∷ r) - 2) r ≡ r = take_all (length (high ∷ low ∷ r) - 2) r (omega arith) in
    ap (λ xs. after (bs ++ b ∷ []) (pairs xs)) all
    ∙ behind bs b (pairs r)
    ∙ ap (λ v. after bs (onto v (pairs r))) (sym is)
    ∙ inv

pub loop-rest-preserved : goal.loop-rest-preserved
loop-rest-preserved c =
    let rest = c.loop-rest.rest.now in
    let t = turn c.loop-rest.bytes.items rest c.in-Some.byte _ c.in-len2-up.len_at_least c.loop-rest.invariant (sym c.in-Some.ensures) in
    let P : List ℕ → Type 0 = λ bs. after bs (pairs (take (length rest - 2) (drop 2 rest))) ≡ pairs c.args.word.now in
    subst P (sym c.in_ok-push.ensures.items) t
