-- Each byte either joins the piece that has begun, or, if it is a comma, ends it.
use Rattle.std.proofs.Common.{◌≡◌, ℕ, suc, ◌+◌, ◌-◌, ◌<◌, ◌≤◌, Bool, true, false, ◌==◌, cond, List, [], ◌∷◌, ◌++◌, Some, None, Option, length, take, drop, get_or, length-drop, take-suc, sym, ap, ◌∙◌, refl, rules, arith}
use Rattle.std.proofs.lemmas.Bool.{eqb-true}
use Rattle.std.proofs.lemmas.List.{at_drop_more, get_or-drop}
use Rattle.std.specs.List.{slice_range}
use Rattle.std.specs.Option.{option_map}
use Rattle.console_lines.specs.Lists.{push, lines_from, lines_written}
use Rattle.console_lines.proofs.wishes.Wishes.lines_of.Goals as goal
use Rattle.console_lines.proofs.wishes.Wishes.lines_of.Goals.{then-b-eq44+in_ok-lines, else-b-eq44}

-- no bytes bring back a list that is none
none : (piece bs : List ℕ) → lines_from None piece bs ≡ None
none piece [] = refl
none piece (b ∷ bs) = by (b == 44) (none [] bs) (none (piece ++ b ∷ []) bs)
  where
    by : (t : Bool) → lines_from None [] bs ≡ None → lines_from None (piece ++ b ∷ []) bs ≡ None → cond t (lines_from None [] bs) (lines_from None (piece ++ b ∷ []) bs) ≡ None
    by true x y = x
    by false x y = y

comma : (lines : Option (List ℕ)) (piece bs : List ℕ) (b : ℕ) → b ≡ 44 → lines_from lines piece (b ∷ bs) ≡ lines_from (push lines piece) [] bs
comma lines piece bs b e = rw e

other : (lines : Option (List ℕ)) (piece bs : List ℕ) (b : ℕ) → (b ≡ 44 → ⊥) → lines_from lines piece (b ∷ bs) ≡ lines_from lines (piece ++ b ∷ []) bs
other lines piece bs b ne = by (b == 44) refl
  where
    by : (t : Bool) → (b == 44) ≡ t → cond t (lines_from (push lines piece) [] bs) (lines_from lines (piece ++ b ∷ []) bs) ≡ lines_from lines (piece ++ b ∷ []) bs
    by true e = absurd (ne (eqb-true b 44 e))
    by false e = refl

module _ (w : List ℕ) (ls : List ℕ) (s i : ℕ) (le : s ≤ i) (lt : i < length w) (inv : lines_from (Some ls) (slice_range w s i) (drop i w) ≡ lines_written w) where
  -- a piece grows by a byte
  grown : slice_range w s (i + 1) ≡ slice_range w s i ++ get_or w i 0 ∷ []
  grown =
      let e : (i + 1) - s ≡ suc (i - s) = omega (arith, le) in
      let at : s + (i - s) ≡ i = omega (arith, le) in
      let l = length-drop s w in
      let short : i - s < length (drop s w) = omega (arith, le, lt, l) in
      ap (λ k. take k (drop s w)) e
      ∙ take-suc (drop s w) (i - s) 0 short
      ∙ ap (λ x. take (i - s) (drop s w) ++ x ∷ []) (get_or-drop s w (i - s) 0 ∙ ap (λ k. get_or w k 0) at)

  next : lines_from (Some ls) (slice_range w s i) (get_or w i 0 ∷ drop (i + 1) w) ≡ lines_written w
  next = sym (at_drop_more (λ r. lines_from (Some ls) (slice_range w s i) r) w i 0 lt) ∙ inv

  refused : get_or w i 0 ≡ 44 → push (Some ls) (slice_range w s i) ≡ None → None ≡ lines_written w
  refused e p =
      sym (none [] (drop (i + 1) w))
      ∙ ap (λ o. lines_from o [] (drop (i + 1) w)) (sym p)
      ∙ sym (comma (Some ls) (slice_range w s i) (drop (i + 1) w) (get_or w i 0) e)
      ∙ next

  ended : (more : List ℕ) (t : ℕ) → get_or w i 0 ≡ 44 → push (Some ls) (slice_range w s i) ≡ Some more → t ≡ i + 1 → lines_from (Some more) (slice_range w t (i + 1)) (drop (i + 1) w) ≡ lines_written w
  ended more t e p is =
      let z : (i + 1) - t ≡ 0 = omega (arith, is) in
      ap (λ k. lines_from (Some more) (take k (drop t w)) (drop (i + 1) w)) z
      ∙ ap (λ o. lines_from o [] (drop (i + 1) w)) (sym p)
      ∙ sym (comma (Some ls) (slice_range w s i) (drop (i + 1) w) (get_or w i 0) e)
      ∙ next

  joined : (get_or w i 0 ≡ 44 → ⊥) → lines_from (Some ls) (slice_range w s (i + 1)) (drop (i + 1) w) ≡ lines_written w
  joined ne =
      ap (λ p. lines_from (Some ls) p (drop (i + 1) w)) grown
      ∙ sym (other (Some ls) (slice_range w s i) (drop (i + 1) w) (get_or w i 0) ne)
      ∙ next

pub returns-in_err-lines-clause-value : goal.returns-in_err-lines-clause-value
returns-in_err-lines-clause-value c =
    let l = c.loop-i in
    let r : c.from_residual.result ≡ None = search rules in
    ap (option_map (λ v. v.items)) r
    ∙ refused c.args.word.now l.lines.items l.start l.i l.invariant.1 c.loop-i-test.true l.invariant.0 c.if-b-eq44.true (sym c.in_err-lines.ensures.value)

pub loop-i-preserved : goal.loop-i-preserved
loop-i-preserved c =
    let l = c.loop-i in
    elim c.if-b-eq44.branch [
      | then-b-eq44+in_ok-lines w ↦
          let p : push (Some l.lines.items) (slice_range c.args.word.now l.start l.i) ≡ Some c.if-b-eq44.lines.items = rw w.lines-is (sym w.in_ok-lines.ensures.value) in
          (ended c.args.word.now l.lines.items l.start l.i l.invariant.1 c.loop-i-test.true l.invariant.0 c.if-b-eq44.lines.items c.if-b-eq44.start w.if-b-eq44.true p w.start-is, omega (arith, w.start-is))
      | else-b-eq44 w ↦
          let j = joined c.args.word.now l.lines.items l.start l.i l.invariant.1 c.loop-i-test.true l.invariant.0 w.if-b-eq44.false in
          (rw w.lines-is (rw w.start-is j), omega (arith, w.start-is, l.invariant.1))
    ]
