-- How many places the records of a lawful trace need: one for each command that the book does not have.
use Rattle.std.proofs.Common.{◌≡◌, ℕ, ◌+◌, ◌-◌, ◌≤◌, Bool, true, false, cond, not, ◌&&◌, ◌||◌, eqb, leb, List, [], ◌∷◌, map, length, take, Err, sym, refl, ap, ◌∙◌, inl, inr, arith}
use Rattle.std.proofs.lemmas.List.{length-map, length-take}
use Rattle.std.proofs.lemmas.Bool.{cond-false, and_parts, or_parts, not-true, le-leb, lt-leb, cases_lt}
use Rattle.std.proofs.lemmas.List.Sums.{sum_by-cons}
use Rattle.std.proofs.lemmas.List.Recursion.{or_push}
use Rattle.std.specs.List.{AllByRecursion}
use Rattle.model.specs.Contents.{Content, Pool}
use Rattle.model.specs.Records.{Record, said}
use Rattle.model.specs.Book.{same_command, own, hint}
use Rattle.model.specs.Load.{Traced, hinted, hints}
use Rattle.model.specs.declared.command.Command.{Command}
use Rattle.model.specs.declared.record.Record as Code
use Rattle.model.specs.declared.refusal.Refusal.TheVariants.{NoRoomToLoad}
use Rattle.model.proofs.Keys.{same_is}
use Rattle.trace.specs.Format.{Before, start, noted, push, content_ok, files_ok, known_command, record_ok, lawful}
use Rattle.trace.specs.Reads.{each, after}
use Rattle.trace_load.specs.Takes.{fresh, hints_told, hints_after}

abbrev known : Command → List Record → Bool
known c rs = known_command c (map (λ r. r.command) rs)

-- a hint brings no other command into a book
known_hint : (c : Command) (q : Record) (rs : List Record) → same_command c q.command ≡ false → known c (hint q rs) ≡ known c rs
known_hint c q [] e = ap (λ b. b || false) e
known_hint c q (r ∷ rs) e = by (same_command q.command r.command) refl (own r.standing) (known_hint c q rs e)
  where
    by : (a : Bool) → same_command q.command r.command ≡ a → (b : Bool) → known c (hint q rs) ≡ known c rs → known c (cond a (cond b (r ∷ rs) (q ∷ rs)) (r ∷ hint q rs)) ≡ known c (r ∷ rs)
    by true f true more = refl
    by true f false more = ap (λ d. same_command c d || known c rs) (same_is q.command r.command f)
    by false f b more = ap (λ k. same_command c r.command || k) more

hint_length : (q : Record) (rs : List Record) → length (hint q rs) ≡ length rs + cond (not (known q.command rs)) 1 0
hint_length q [] = refl
hint_length q (r ∷ rs) = by (same_command q.command r.command) (own r.standing) (hint_length q rs)
  where
    by : (a b : Bool) → length (hint q rs) ≡ length rs + cond (not (known q.command rs)) 1 0 → length (cond a (cond b (r ∷ rs) (q ∷ rs)) (r ∷ hint q rs)) ≡ length (r ∷ rs) + cond (not (a || known q.command rs)) 1 0
    by true true more = omega arith
    by true false more = omega arith
    by false b more = omega arith

abbrev Other : Command → Record → Type 0
Other c x = same_command x.command c ≡ false

fresh_cons : (rs : List Record) (x : Record) (qs : List Record) → fresh rs (x ∷ qs) ≡ cond (not (known x.command rs)) 1 0 + fresh rs qs
fresh_cons rs x qs = sum_by-cons (λ q. cond (not (known q.command rs)) 1 0) x qs

fresh_hint : (q : Record) (rs qs : List Record) → AllByRecursion (Other q.command) qs → fresh (hint q rs) qs ≡ fresh rs qs
fresh_hint q rs [] a = refl
fresh_hint q rs (x ∷ qs) a =
    fresh_cons (hint q rs) x qs
    ∙ ap (λ k. cond (not k) 1 0 + fresh (hint q rs) qs) (known_hint x.command q rs a.0)
    ∙ ap (λ n. cond (not (known x.command rs)) 1 0 + n) (fresh_hint q rs qs a.1)
    ∙ sym (fresh_cons rs x qs)

known_push : (c d : Command) (cs : List Command) → known_command c (push cs d) ≡ false → (known_command c cs ≡ false) × (same_command c d ≡ false)
known_push c d cs e = or_parts _ _ (sym (or_push (known_command c) (same_command c) refl (λ x ds. refl) cs d) ∙ e)

module _ (n : ℕ) where
  new_command : (s : Before) (r : Record) → record_ok n s r ≡ true → known_command r.command s.commands ≡ false
  new_command s r e =
      let a = and_parts _ _ e in not-true _ (and_parts (files_ok r.command) (not (known_command r.command s.commands)) a.0).1

  -- later records have other commands than those before
  others_than : (c : Command) (s : Before) (qs : List Record) → ((x : Command) → known_command x s.commands ≡ false → same_command x c ≡ false) → each (record_ok n) noted s qs ≡ true → AllByRecursion (Other c) qs
  others_than c s [] f e = tt
  others_than c s (x ∷ qs) f e =
      let a = and_parts (record_ok n s x) _ e in
      (f x.command (new_command s x a.0), others_than c (noted s x) qs (λ y h. f y (known_push y x.command s.commands h).0) a.1)

  pub hints_length : (xs : List Content) (p : Pool) (s : Before) (qs rs : List Record) → each (record_ok n) noted s qs ≡ true → length (hints xs p qs rs) ≡ length rs + fresh rs qs
  hints_length xs p s [] rs e = omega arith
  hints_length xs p s (q ∷ qs) rs e =
      let a = and_parts (record_ok n s q) _ e in
      let h = hinted xs p q in
      let more = hints_length xs p (noted s q) qs (hint h rs) a.1 in
      let apart = others_than q.command (noted s q) qs (λ x k. (known_push x q.command s.commands k).1) a.1 in
      let same = fresh_hint h rs qs apart in
      let one = hint_length h rs in
      let first = fresh_cons rs q qs in
      omega arith

-- there are places for all
pub fits_is : (xs : List Content) (p : Pool) (t : Traced) (rs : List Record) (places : ℕ) → lawful t ≡ true → length rs ≤ places → leb (fresh rs t.records) (places - length rs) ≡ leb (length (hints xs p t.records rs)) places
fits_is xs p t rs places ok h =
    let records = each (record_ok (length t.contents)) noted start t.records in
    let used = eqb (after noted start t.records).high (length t.contents) in
    let a = and_parts (leb (length t.contents) 1024 && each content_ok push [] t.contents) ((leb (length t.records) 256 && records) && used) ok in
    let b = and_parts (leb (length t.records) 256 && records) used a.1 in
    let c = and_parts (leb (length t.records) 256) records b.0 in
    let l = hints_length (length t.contents) xs p start t.records rs c.1 in
    elim (cases_lt places (length (hints xs p t.records rs))) [
      | inl lt ↦ lt-leb (fresh rs t.records) (places - length rs) (omega arith) ∙ sym (lt-leb (length (hints xs p t.records rs)) places lt)
      | inr le ↦ le-leb (fresh rs t.records) (places - length rs) (omega arith) ∙ sym (le-leb (length (hints xs p t.records rs)) places le)
    ]

-- as the calls tell it
module _ (xs : List Content) (p : Pool) (t : Traced) (list : List Code.Record) (places : ℕ) (ok : lawful t ≡ true) (h : length list ≤ places) where
  abbrev all : List Record
  all = hints xs p t.records (map said list)

  -- the places that are needed are those that are free, or more
  pub test_is : (free : ℕ) → free ≡ places - length list → leb (fresh (map said list) t.records) free ≡ leb (length all) places
  test_is free f =
      let l = length-map list said in
      ap (leb (fresh (map said list) t.records)) (f ∙ ap (λ n. places - n) (sym l)) ∙ fits_is xs p t (map said list) places ok (omega arith)

  pub refused_is : leb (length all) places ≡ false → (Err NoRoomToLoad ≡ hints_told all places) × (map said list ≡ hints_after all places (map said list))
  refused_is e = (sym (cond-false (leb (length all) places) _ _ e), sym (cond-false (leb (length all) places) _ _ e))

  pub same_all : (ys : List Content) (qs : List Record) → ys ≡ xs → qs ≡ t.records → hints ys p qs (map said list) ≡ all
  same_all ys qs e f = ap (λ l. hints l p qs (map said list)) e ∙ ap (λ l. hints xs p l (map said list)) f

pub held_within : {X : Type 0} (n : ℕ) (xs : List X) → length (take n xs) ≤ length xs
held_within n xs = omega (arith, length-take n xs)
