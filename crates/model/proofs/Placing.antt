-- A kept run leaves in the book the record of each of its lines: there is always a place for it, and no later line takes it away. Assumes nothing.
use Rattle.std.proofs.Common.{◌≡◌, ℕ, zero, suc, ◌+◌, ◌≤◌, Bool, true, false, cond, not, ◌||◌, ltb, List, [], ◌∷◌, ◌++◌, length, Some, sym, refl, ap, ◌∙◌, ⊎_elim, arith, None}
use Rattle.std.proofs.lemmas.Bool.{cases_Bool, both_ways, or_parts, ltb-false, not-false}
use Rattle.std.proofs.lemmas.List.Recursion.{found_push_other}
use Rattle.model.specs.declared.command.Command.{Command}
use Rattle.model.specs.declared.run.Entry.{Entry}
use Rattle.model.specs.Records.{Record}
use Rattle.model.specs.Book.{same_command, record_of, has_record, in_script, replace, evict, keep, recorded, keeps}
use Rattle.model.specs.Audit.{at_place}
use Rattle.model.specs.Promise.{Unique}
use Rattle.model.proofs.Keys.{same_is, same_self, unlike}
use Rattle.model.proofs.Books.{Good, keep_good}

-- A PLACE: where every record is of the script, there are fewer records than lines

-- some record is of no command of the script
abbrev spare : List Command → List Record → Bool
spare cs [] = false
spare cs (r ∷ rs) = not (in_script r.command cs) || spare cs rs

abbrev without : Command → List Command → List Command
without c [] = []
without c (d ∷ ds) = cond (same_command c d) ds (d ∷ without c ds)

without_length : (c : Command) (cs : List Command) → in_script c cs ≡ true → length cs ≡ suc (length (without c cs))
without_length c [] h = absurd (both_ways false refl h)
without_length c (d ∷ ds) h = by (same_command c d) h (without_length c ds)
  where
    by : (b : Bool) → (b || in_script c ds) ≡ true → (in_script c ds ≡ true → length ds ≡ suc (length (without c ds))) → suc (length ds) ≡ suc (length (cond b ds (d ∷ without c ds)))
    by true h ih = refl
    by false h ih = ap suc (ih h)

without_in : (c s : Command) (cs : List Command) → in_script s cs ≡ true → same_command s c ≡ false → in_script s (without c cs) ≡ true
without_in c s [] h ne = absurd (both_ways false refl h)
without_in c s (d ∷ ds) h ne = by (same_command c d) refl (same_command s d) refl h (λ k. without_in c s ds k ne)
  where
    by : (b : Bool) → same_command c d ≡ b → (e : Bool) → same_command s d ≡ e → (e || in_script s ds) ≡ true → (in_script s ds ≡ true → in_script s (without c ds) ≡ true) → in_script s (cond b ds (d ∷ without c ds)) ≡ true
    by true i true j k ih = absurd (both_ways _ ne (rw (same_is c d i) j))
    by true i false j k ih = k
    by false i true j k ih = rw j
    by false i false j k ih = rw j (ih k)

spare_without : (c : Command) (cs : List Command) (rs : List Record) → has_record c rs ≡ false → spare cs rs ≡ false → spare (without c cs) rs ≡ false
spare_without c cs [] u h = refl
spare_without c cs (r ∷ rs) u h =
    let a = or_parts (same_command c r.command) (has_record c rs) u in
    let b = or_parts (not (in_script r.command cs)) (spare cs rs) h in
    let here = without_in c r.command cs (not-false _ b.0) (unlike c r.command a.0) in
    rw here (spare_without c cs rs a.1 b.1)

few_records : (rs : List Record) (cs : List Command) → Unique rs → spare cs rs ≡ false → length rs ≤ length cs
few_records [] cs u h = omega arith
few_records (r ∷ rs) cs u h =
    let b = or_parts (not (in_script r.command cs)) (spare cs rs) h in
    let less = without_length r.command cs (not-false _ b.0) in
    let ih = few_records rs (without r.command cs) u.1 (spare_without r.command cs rs u.0 b.1) in
    omega arith

-- ONE RECORD, of q

module _ (q : Record) where
  abbrev c : Command
  c = q.command

  replace_found : (rs : List Record) → has_record c rs ≡ true → record_of c (replace q rs) ≡ Some q
  replace_found [] h = absurd (both_ways false refl h)
  replace_found (r ∷ rs) h = by (same_command c r.command) refl h (replace_found rs)
    where
      by : (b : Bool) → same_command c r.command ≡ b → (b || has_record c rs) ≡ true → (has_record c rs ≡ true → record_of c (replace q rs) ≡ Some q) → record_of c (cond b (q ∷ rs) (r ∷ replace q rs)) ≡ Some q
      by true e h ih = rw (same_self c)
      by false e h ih = rw e (ih h)

  append_found : (rs : List Record) → has_record c rs ≡ false → record_of c (rs ++ q ∷ []) ≡ Some q
  append_found [] h = rw (same_self c)
  append_found (r ∷ rs) h = let a = or_parts (same_command c r.command) (has_record c rs) h in rw a.0 (append_found rs a.1)

  evict_found : (cs : List Command) (rs : List Record) → has_record c rs ≡ false → spare cs rs ≡ true → record_of c (evict cs q rs) ≡ Some q
  evict_found cs [] h s = absurd (both_ways false refl s)
  evict_found cs (r ∷ rs) h s = by (in_script r.command cs) s (or_parts (same_command c r.command) (has_record c rs) h) (evict_found cs rs)
    where
      by : (b : Bool) → (not b || spare cs rs) ≡ true → (same_command c r.command ≡ false) × (has_record c rs ≡ false) → (has_record c rs ≡ false → spare cs rs ≡ true → record_of c (evict cs q rs) ≡ Some q) → record_of c (cond b (r ∷ evict cs q rs) (q ∷ rs)) ≡ Some q
      by true s a ih = rw a.0 (ih a.1 s)
      by false s a ih = rw (same_self c)

  keep_found : (cs : List Command) (places : ℕ) (rs : List Record) → Good places rs → length cs ≤ places → in_script c cs ≡ true → record_of c (keep cs places q rs) ≡ Some q
  keep_found cs places rs g le mine = by (has_record c rs) refl (ltb (length rs) places) refl
    where
      roomy : has_record c rs ≡ false → places ≤ length rs → spare cs rs ≡ true
      roomy h full = ⊎_elim
          (λ e. e)
          (λ (e : spare cs rs ≡ false).
          let all : spare cs (q ∷ rs) ≡ false = rw (mine, e) in
          let most = few_records (q ∷ rs) cs (h, g.0) all in
          absurd (omega arith))
          (cases_Bool (spare cs rs))

      by : (b : Bool) → has_record c rs ≡ b → (d : Bool) → ltb (length rs) places ≡ d → record_of c (cond b (replace q rs) (cond d (rs ++ q ∷ []) (evict cs q rs))) ≡ Some q
      by true e d f = replace_found rs e
      by false e true f = append_found rs e
      by false e false f = evict_found cs rs e (roomy e (ltb-false (length rs) places f))

  -- another command's record stays
  module _ (d : Command) (other : same_command d c ≡ false) where
    replace_other : (rs : List Record) → record_of d (replace q rs) ≡ record_of d rs
    replace_other [] = refl
    replace_other (r ∷ rs) = by (same_command c r.command) refl (replace_other rs)
      where
        by : (b : Bool) → same_command c r.command ≡ b → record_of d (replace q rs) ≡ record_of d rs → record_of d (cond b (q ∷ rs) (r ∷ replace q rs)) ≡ cond (same_command d r.command) (Some r) (record_of d rs)
        by true e ih = let out : same_command d r.command ≡ false = ap (same_command d) (sym (same_is c r.command e)) ∙ other in rw (other, out)
        by false e ih = rw ih

    evict_other : (cs : List Command) → in_script d cs ≡ true → (rs : List Record) → record_of d (evict cs q rs) ≡ record_of d rs
    evict_other cs h [] = refl
    evict_other cs h (r ∷ rs) = by (in_script r.command cs) refl (evict_other cs h rs)
      where
        by : (b : Bool) → in_script r.command cs ≡ b → record_of d (evict cs q rs) ≡ record_of d rs → record_of d (cond b (r ∷ evict cs q rs) (q ∷ rs)) ≡ cond (same_command d r.command) (Some r) (record_of d rs)
        by true e ih = rw ih
        by false e ih =
            let out : same_command d r.command ≡ false = ⊎_elim (λ k. absurd (both_ways _ e (ap (λ z. in_script z cs) (sym (same_is d r.command k)) ∙ h))) (λ k. k) (cases_Bool (same_command d r.command)) in
            rw (other, out)

    keep_other : (cs : List Command) (places : ℕ) (rs : List Record) → in_script d cs ≡ true → record_of d (keep cs places q rs) ≡ record_of d rs
    keep_other cs places rs h = by (has_record c rs) (ltb (length rs) places)
      where
        by : (a b : Bool) → record_of d (cond a (replace q rs) (cond b (rs ++ q ∷ []) (evict cs q rs))) ≡ record_of d rs
        by true b = replace_other rs
        by false true = found_push_other (record_of d) (λ r. same_command d r.command) (λ r. Some r) None refl (λ r qs. refl) rs q other
        by false false = evict_other cs h rs

-- ALL LINES

-- no two of the commands are the same
abbrev pub Different : List Command → Type 0
Different [] = Unit {0}
Different (c ∷ cs) = (in_script c cs ≡ false) × Different cs

module _ (cs : List Command) (places : ℕ) (es : List Entry) (le : length cs ≤ places) where
  keeps_other : (d : Command) → in_script d cs ≡ true → (l : ℕ) (left : List Command) (rs : List Record) → in_script d left ≡ false → record_of d (keeps cs places es l left rs) ≡ record_of d rs
  keeps_other d h l [] rs out = refl
  keeps_other d h l (c ∷ left) rs out =
      let a = or_parts (same_command d c) (in_script d left) out in
      keeps_other d h (suc l) left (keep cs places (recorded l c es) rs) a.1 ∙ keep_other (recorded l c es) d a.0 cs places rs h

  pub keeps_found :
      (l : ℕ) (left : List Command) (rs : List Record) → Good places rs → Different left → ((i : ℕ) (c : Command) → at_place left i ≡ Some c → in_script c cs ≡ true) →
      (i : ℕ) (c : Command) → at_place left i ≡ Some c → record_of c (keeps cs places es l left rs) ≡ Some (recorded (l + i) c es)
  keeps_found l [] rs g u h i c e = let z : ◌≡◌ {A = ℕ} 0 1 = cc in absurd (omega arith)
  keeps_found l (d ∷ left) rs g u h zero c e =
      let same : d ≡ c = cc in
      let none : l + 0 ≡ l = omega arith in
      let q = recorded l d es in
      rw (none, ← same) (keeps_other d (h 0 d refl) (suc l) left (keep cs places q rs) u.0 ∙ keep_found q cs places rs g le (h 0 d refl))
  keeps_found l (d ∷ left) rs g u h (suc i) c e =
      let one : suc l + i ≡ l + suc i = omega arith in
      rw one at (keeps_found (suc l) left (keep cs places (recorded l d es) rs) (keep_good cs places (recorded l d es) rs g) u.1 (λ j b k. h (suc j) b k) i c e)

pub in_here : (cs : List Command) (i : ℕ) (c : Command) → at_place cs i ≡ Some c → in_script c cs ≡ true
in_here [] i c e = let z : ◌≡◌ {A = ℕ} 0 1 = cc in absurd (omega arith)
in_here (d ∷ cs) zero c e = let same : d ≡ c = cc in rw (same, same_self c)
in_here (d ∷ cs) (suc i) c e = by (same_command c d) (in_here cs i c e)
  where
    by : (b : Bool) → in_script c cs ≡ true → (b || in_script c cs) ≡ true
    by true h = refl
    by false h = h
