-- Hints that are taken one after the other, and where each goes.
use Rattle.std.proofs.Common.{◌≡◌, ℕ, suc, ◌+◌, ◌<◌, ◌≤◌, Bool, true, false, cond, not, ltb, ltb-true, ltb-false, List, [], ◌∷◌, ◌++◌, map, length, get_or, set, Some, None, position, sym, refl, ap, ◌∙◌, subst, arith}
use Rattle.std.proofs.lemmas.List.{length_push, length-map}
use Rattle.std.proofs.lemmas.Bool.{cond-true, cond-false, lt-ltb}
use Rattle.std.proofs.lemmas.Option.{cond_some}
use Rattle.std.specs.List.{position_or_len}
use Rattle.model.specs.Contents.{Content, Pool}
use Rattle.model.specs.Records.{Record, said}
use Rattle.model.specs.Book.{same_command, own, hint}
use Rattle.model.specs.Load.{hinted, hints}
use Rattle.model.specs.declared.command.Command.{Command}
use Rattle.model.specs.declared.record.Record as Code

-- THE PLACE OF A RECORD

abbrev pub of : Command → Code.Record → Bool
of c r = same_command c r.command

abbrev pub place : Command → List Code.Record → ℕ
place c xs = position_or_len (of c) xs

pub place_some : (c : Command) (xs : List Code.Record) (i : ℕ) → Some i ≡ position (of c) xs → (i ≡ place c xs) × (place c xs < length xs)
place_some c xs i e = let p = cond_some (ltb (place c xs) (length xs)) (place c xs) i (sym e) in (sym p.1, ltb-true _ _ p.0)

pub place_none : (c : Command) (xs : List Code.Record) → None ≡ position (of c) xs → length xs ≤ place c xs
place_none c xs e = by (ltb (place c xs) (length xs)) refl e
  where
    by : (b : Bool) → ltb (place c xs) (length xs) ≡ b → None ≡ cond b (Some (place c xs)) None → length xs ≤ place c xs
    by true h f = let z : ◌≡◌ {A = ℕ} 0 1 = cc in absurd (omega arith)
    by false h f = ltb-false _ _ h

-- ONE HINT

pub hint_longer : (q : Record) (rs : List Record) → length rs ≤ length (hint q rs)
hint_longer q [] = omega arith
hint_longer q (r ∷ rs) = by (same_command q.command r.command) (own r.standing) (hint_longer q rs)
  where
    by : (a b : Bool) → length rs ≤ length (hint q rs) → length (r ∷ rs) ≤ length (cond a (cond b (r ∷ rs) (q ∷ rs)) (r ∷ hint q rs))
    by true true h = omega arith
    by true false h = omega arith
    by false b h = omega arith

pub hints_longer : (xs : List Content) (p : Pool) (qs rs : List Record) → length rs ≤ length (hints xs p qs rs)
hints_longer xs p [] rs = omega arith
hints_longer xs p (q ∷ qs) rs =
    let a = hint_longer (hinted xs p q) rs in let b = hints_longer xs p qs (hint (hinted xs p q) rs) in omega arith

-- the place after one
next : (n : ℕ) → suc n ≡ 1 + n
next n = omega arith

-- an own record stays
pub hint_own : (q : Code.Record) (xs : List Code.Record) (d : Code.Record) → place q.command xs < length xs → own (get_or xs (place q.command xs) d).standing ≡ true → map said xs ≡ hint (said q) (map said xs)
hint_own q [] d l o = absurd (omega arith)
hint_own q (x ∷ xs) d l o = by (of q.command x) l o (hint_own q xs d)
  where
    by : (b : Bool) → cond (not b) (1 + place q.command xs) 0 < length (x ∷ xs) → own (get_or (x ∷ xs) (cond (not b) (1 + place q.command xs) 0) d).standing ≡ true → (place q.command xs < length xs → own (get_or xs (place q.command xs) d).standing ≡ true → map said xs ≡ hint (said q) (map said xs)) → map said (x ∷ xs) ≡ cond b (cond (own x.standing) (said x ∷ map said xs) (said q ∷ map said xs)) (said x ∷ hint (said q) (map said xs))
    by true k f more = sym (cond-true (own x.standing) (said x ∷ map said xs) (said q ∷ map said xs) f)
    by false k f more = ap (λ l. said x ∷ l) (more (omega arith) (ap (λ n. own (get_or (x ∷ xs) n d).standing) (next (place q.command xs)) ∙ f))

-- another of its command gives place to it
pub hint_set : (q : Code.Record) (xs : List Code.Record) (d : Code.Record) → place q.command xs < length xs → own (get_or xs (place q.command xs) d).standing ≡ false → map said (set xs (place q.command xs) q) ≡ hint (said q) (map said xs)
hint_set q [] d l o = absurd (omega arith)
hint_set q (x ∷ xs) d l o = by (of q.command x) l o (hint_set q xs d)
  where
    by : (b : Bool) → cond (not b) (1 + place q.command xs) 0 < length (x ∷ xs) → own (get_or (x ∷ xs) (cond (not b) (1 + place q.command xs) 0) d).standing ≡ false → (place q.command xs < length xs → own (get_or xs (place q.command xs) d).standing ≡ false → map said (set xs (place q.command xs) q) ≡ hint (said q) (map said xs)) → map said (set (x ∷ xs) (cond (not b) (1 + place q.command xs) 0) q) ≡ cond b (cond (own x.standing) (said x ∷ map said xs) (said q ∷ map said xs)) (said x ∷ hint (said q) (map said xs))
    by true k f more = sym (cond-false (own x.standing) (said x ∷ map said xs) (said q ∷ map said xs) f)
    by false k f more =
        ap (λ n. map said (set (x ∷ xs) n q)) (sym (next (place q.command xs)))
        ∙ ap (λ l. said x ∷ l) (more (omega arith) (ap (λ n. own (get_or (x ∷ xs) n d).standing) (next (place q.command xs)) ∙ f))

-- without one of its command it is appended
pub hint_push : (q : Code.Record) (xs : List Code.Record) → length xs ≤ place q.command xs → map said (xs ++ q ∷ []) ≡ hint (said q) (map said xs)
hint_push q [] l = refl
hint_push q (x ∷ xs) l = by (of q.command x) l (hint_push q xs)
  where
    by : (b : Bool) → length (x ∷ xs) ≤ cond (not b) (1 + place q.command xs) 0 → (length xs ≤ place q.command xs → map said (xs ++ q ∷ []) ≡ hint (said q) (map said xs)) → map said ((x ∷ xs) ++ q ∷ []) ≡ cond b (cond (own x.standing) (said x ∷ map said xs) (said q ∷ map said xs)) (said x ∷ hint (said q) (map said xs))
    by true k more = absurd (omega arith)
    by false k more = ap (λ l. said x ∷ l) (more (omega arith))

-- ALL HINTS

module _ (xs : List Content) (p : Pool) (q : Record) (all rest rs : List Record) (e : all ≡ q ∷ rest) where
  first_hint : hints xs p all rs ≡ hints xs p rest (hint (hinted xs p q) rs)
  first_hint = ap (λ l. hints xs p l rs) e

  pub hint_fits : (h : Record) (places : ℕ) → h ≡ hinted xs p q → length (hints xs p all rs) ≤ places → length (hint h rs) ≤ places
  hint_fits h places same l =
      let a = hints_longer xs p rest (hint (hinted xs p q) rs) in
      let b = ap length first_hint in
      let c = ap (λ x. length (hint x rs)) same in
      omega arith

-- what the book does with a hint, as its calls tell it
module _ (q : Code.Record) (xs slice : List Code.Record) (same : slice ≡ xs) where
  pub left_out : (i : ℕ) (d : Code.Record) → Some i ≡ position (of q.command) slice → own (get_or slice i d).standing ≡ true → map said xs ≡ hint (said q) (map said xs)
  left_out i d e o =
      let p = place_some q.command slice i e in
      subst (λ l. map said l ≡ hint (said q) (map said l)) same (hint_own q slice d p.1 (ap (λ k. own (get_or slice k d).standing) (sym p.0) ∙ o))

  pub replaced : (i : ℕ) (d : Code.Record) (r : Bool) (ys : List Code.Record) → Some i ≡ position (of q.command) slice → own (get_or slice i d).standing ≡ false → r ≡ ltb i (length xs) → ys ≡ cond r (set xs i q) xs → map said ys ≡ hint (said q) (map said xs)
  replaced i d r ys e o g h =
      let p = place_some q.command slice i e in
      let within = ap length same in
      let fits = g ∙ lt-ltb i (length xs) (omega (arith, p.0, p.1)) in
      let old = subst (λ l. map said (set l (place q.command slice) q) ≡ hint (said q) (map said l)) same (hint_set q slice d p.1 (ap (λ k. own (get_or slice k d).standing) (sym p.0) ∙ o)) in
      ap (map said) (h ∙ cond-true r (set xs i q) xs fits ∙ ap (λ k. set xs k q) p.0) ∙ old

  pub appended : (places : ℕ) (r : Bool) (ys : List Code.Record) → length (hint (said q) (map said xs)) ≤ places → None ≡ position (of q.command) slice → r ≡ ltb (length xs) places → ys ≡ cond r (xs ++ q ∷ []) xs → map said ys ≡ hint (said q) (map said xs)
  appended places r ys l f g h =
      let new = hint_push q xs (place_none q.command xs (f ∙ ap (position (of q.command)) same)) in
      let a = ap length new in
      let b = length-map (xs ++ q ∷ []) said in
      let d = length_push xs q in
      let fits = g ∙ lt-ltb (length xs) places (omega arith) in
      ap (map said) (h ∙ cond-true r (xs ++ q ∷ []) xs fits) ∙ new
