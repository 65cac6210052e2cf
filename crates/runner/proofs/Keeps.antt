-- Where a book puts the record of a line that was kept.
use Rattle.std.proofs.Common.{◌≡◌, ℕ, suc, ◌<◌, ◌≤◌, Bool, true, false, cond, not, ◌||◌, ltb, List, [], ◌∷◌, ◌++◌, map, length, set, is_some, Some, None, Option, sym, refl, ap, ◌∙◌, inl, inr, arith}
use Rattle.std.proofs.lemmas.List.{length-map, map-set, map-append, set_past}
use Rattle.std.proofs.lemmas.Bool.{cases_lt, cond-true, cond-false, lt-ltb, le-ltb}
use Rattle.std.specs.Option.{option_map}
use Rattle.model.specs.Book.{same_command, in_script, has_record, replace, evict, keep}
use Rattle.model.specs.Records.{Record, said}
use Rattle.model.specs.declared.command.Command.{Command}
use Rattle.model.specs.declared.record.Record as Code
use Rattle.model.proofs.Lists.{position_more}
use Rattle.runner.specs.Places.{place_of, free_place}

-- the records with another one in a place, if there is one
abbrev put_at : Option ℕ → List Record → Record → List Record
put_at None rs q = rs
put_at (Some n) rs q = set rs n q

one_on : (o : Option ℕ) (q r : Record) (rs : List Record) → put_at (option_map suc o) (r ∷ rs) q ≡ r ∷ put_at o rs q
one_on None q r rs = refl
one_on (Some n) q r rs = refl

replace_step : (b : Bool) (o : Option ℕ) (q r : Record) (rs ts : List Record) → ts ≡ put_at o rs q → cond b (q ∷ rs) (r ∷ ts) ≡ put_at (cond b (Some 0) (option_map suc o)) (r ∷ rs) q
replace_step true o q r rs ts e = refl
replace_step false o q r rs ts e = ap (λ l. r ∷ l) e ∙ sym (one_on o q r rs)

replace_at : (q : Record) (rs : List Record) → replace q rs ≡ put_at (place_of q.command rs) rs q
replace_at q [] = refl
replace_at q (r ∷ rs) =
    replace_step (same_command q.command r.command) (place_of q.command rs) q r rs (replace q rs) (replace_at q rs)
    ∙ ap (λ o. put_at o (r ∷ rs) q) (sym (position_more (λ x. same_command q.command x.command) r rs))

evict_step : (b : Bool) (o : Option ℕ) (q r : Record) (rs ts : List Record) → ts ≡ put_at o rs q → cond b (r ∷ ts) (q ∷ rs) ≡ put_at (cond (not b) (Some 0) (option_map suc o)) (r ∷ rs) q
evict_step true o q r rs ts e = ap (λ l. r ∷ l) e ∙ sym (one_on o q r rs)
evict_step false o q r rs ts e = refl

evict_at : (cs : List Command) (q : Record) (rs : List Record) → evict cs q rs ≡ put_at (free_place cs rs) rs q
evict_at cs q [] = refl
evict_at cs q (r ∷ rs) =
    evict_step (in_script r.command cs) (free_place cs rs) q r rs (evict cs q rs) (evict_at cs q rs)
    ∙ ap (λ o. put_at o (r ∷ rs) q) (sym (position_more (λ x. not (in_script x.command cs)) r rs))

has_step : (b h : Bool) (o : Option ℕ) → h ≡ is_some o → (b || h) ≡ is_some (cond b (Some 0) (option_map suc o))
has_step true h o e = refl
has_step false h None e = e
has_step false h (Some n) e = e

has_place : (c : Command) (rs : List Record) → has_record c rs ≡ is_some (place_of c rs)
has_place c [] = refl
has_place c (r ∷ rs) =
    has_step (same_command c r.command) (has_record c rs) (place_of c rs) (has_place c rs)
    ∙ ap is_some (sym (position_more (λ x. same_command c x.command) r rs))

-- WHAT KEEP GIVES, by what the searches for a place answered

module _ (cs : List Command) (n : ℕ) (q : Record) (rs : List Record) where
  keep_found : (at : ℕ) → Some at ≡ place_of q.command rs → keep cs n q rs ≡ set rs at q
  keep_found at e =
      cond-true (has_record q.command rs) _ _ (has_place q.command rs ∙ ap is_some (sym e))
      ∙ replace_at q rs ∙ ap (λ o. put_at o rs q) (sym e)

  keep_new : None ≡ place_of q.command rs → keep cs n q rs ≡ cond (ltb (length rs) n) (rs ++ q ∷ []) (evict cs q rs)
  keep_new e = cond-false (has_record q.command rs) _ _ (has_place q.command rs ∙ ap is_some (sym e))

  keep_last : None ≡ place_of q.command rs → length rs < n → keep cs n q rs ≡ rs ++ q ∷ []
  keep_last e h = keep_new e ∙ cond-true (ltb (length rs) n) _ _ (lt-ltb (length rs) n h)

  keep_full : None ≡ place_of q.command rs → n ≤ length rs → (o : Option ℕ) → o ≡ free_place cs rs → keep cs n q rs ≡ put_at o rs q
  keep_full e h o f =
      keep_new e ∙ cond-false (ltb (length rs) n) _ _ (le-ltb (length rs) n h) ∙ evict_at cs q rs ∙ ap (λ p. put_at p rs q) (sym f)

-- AND WHAT THE LIST HOLDS

set_if : (xs : List Code.Record) (at : ℕ) (x : Code.Record) → cond (ltb at (length xs)) (set xs at x) xs ≡ set xs at x
set_if xs at x =
    elim (cases_lt at (length xs)) [
      | inl h ↦ cond-true (ltb at (length xs)) _ _ (lt-ltb at (length xs) h)
      | inr h ↦ cond-false (ltb at (length xs)) _ _ (le-ltb at (length xs) h) ∙ sym (set_past xs at x h)
    ]

said_set : (xs ys : List Code.Record) (at : ℕ) (x : Code.Record) (r : Bool) → r ≡ ltb at (length xs) → ys ≡ cond r (set xs at x) xs → map said ys ≡ set (map said xs) at (said x)
said_set xs ys at x r e f =
    ap (map said) (f ∙ ap (λ b. cond b (set xs at x) xs) e ∙ set_if xs at x) ∙ map-set said xs at x

module _ (cs : List Command) (n : ℕ) (x : Code.Record) (xs ys : List Code.Record) (r : Bool) where
  pub kept_found : (at : ℕ) → Some at ≡ place_of x.command (map said xs) → r ≡ ltb at (length xs) → ys ≡ cond r (set xs at x) xs → map said ys ≡ keep cs n (said x) (map said xs)
  kept_found at e f g = said_set xs ys at x r f g ∙ sym (keep_found cs n (said x) (map said xs) at e)

  pub kept_last : (room : ℕ) → None ≡ place_of x.command (map said xs) → length xs < n → n ≤ room → r ≡ ltb (length xs) room → ys ≡ cond r (xs ++ x ∷ []) xs → map said ys ≡ keep cs n (said x) (map said xs)
  kept_last room e h k f g =
      let l = length-map xs said in
      ap (map said) (g ∙ cond-true r _ _ (f ∙ lt-ltb (length xs) room (omega arith)))
      ∙ map-append said xs (x ∷ [])
      ∙ sym (keep_last cs n (said x) (map said xs) e (omega arith))

  pub kept_freed : (at : ℕ) → None ≡ place_of x.command (map said xs) → n ≤ length xs → Some at ≡ free_place cs (map said xs) → r ≡ ltb at (length xs) → ys ≡ cond r (set xs at x) xs → map said ys ≡ keep cs n (said x) (map said xs)
  kept_freed at e h k f g =
      let l = length-map xs said in
      said_set xs ys at x r f g ∙ sym (keep_full cs n (said x) (map said xs) e (omega arith) (Some at) k)

pub kept_out : (cs : List Command) (n : ℕ) (x : Code.Record) (xs : List Code.Record) → None ≡ place_of x.command (map said xs) → n ≤ length xs → None ≡ free_place cs (map said xs) → map said xs ≡ keep cs n (said x) (map said xs)
kept_out cs n x xs e h k =
    let l = length-map xs said in sym (keep_full cs n (said x) (map said xs) e (omega arith) None k)
