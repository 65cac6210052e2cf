-- What a line has read and written, in the words of the library.
use Rattle.std.proofs.Common.{◌≡◌, ℕ, ◌+◌, ◌<◌, ◌≤◌, min, Bool, true, false, cond, not, ◌&&◌, eqb, List, [], ◌∷◌, ◌++◌, map, find, length, get_or, take, set, Some, None, Option, Bor, sym, refl, ap, ◌∙◌, arith}
use Rattle.std.proofs.lemmas.Iterator.{YieldsList}
use Rattle.std.proofs.lemmas.Iterator.Consumers.{YieldsList-turn, YieldsList-end}
use Rattle.std.proofs.lemmas.List.{take_more, take_more_set, take_all, length-map, length_push, map-append}
use Rattle.std.proofs.lemmas.List.FromFn.{length-enumerate_from, get_or-enumerate_from}
use Rattle.std.proofs.lemmas.List.Sums.{length-filter}
use Rattle.std.specs.Iterator.{Yields}
use Rattle.std.specs.List.{count_by, enumerate_from}
use Rattle.std.specs.Option.{option_map, unwrap_or, UnwrapsOrElse}
use Rattle.model.specs.declared.record.Use.{Use}
use Rattle.model.specs.declared.run.Entry.{Entry}
use Rattle.model.specs.Book.{use_of, reads_of, write_of}
use Rattle.engine.specs.Reads.{reads_by, reads_in}

-- one entry on, by whether it is a read of the line
pub by_parts : {X : Type 0} (a b : Bool) (y x : List X) → cond a (cond b x y) x ≡ cond (a && not b) y x
by_parts true true y x = refl
by_parts true false y x = refl
by_parts false b y x = refl

through : {X Y : Type 0} (f : X → Y) (b : Bool) (x : X) (xs : List X) → map f (cond b (x ∷ xs) xs) ≡ cond b (f x ∷ map f xs) (map f xs)
through f true x xs = refl
through f false x xs = refl

-- what the model says by recursion
pub reads_made : (l : ℕ) (es : List Entry) → reads_of l es ≡ map use_of (reads_in l es)
reads_made l [] = refl
reads_made l (e ∷ es) =
    by_parts (eqb l e.line) e.wrote (use_of e ∷ reads_of l es) (reads_of l es)
    ∙ ap (λ us. cond (reads_by l e) (use_of e ∷ us) us) (reads_made l es)
    ∙ sym (through use_of (reads_by l e) e (reads_in l es))

pub reads_long : (l : ℕ) (es : List Entry) → length (reads_of l es) ≡ length (reads_in l es)
reads_long l es = ap length (reads_made l es) ∙ length-map (reads_in l es) use_of

pub count_made : (l : ℕ) (es : List Entry) → length (reads_of l es) ≡ count_by (reads_by l) es
count_made l es = reads_long l es ∙ length-filter (reads_by l) es

-- the record's reads, by their count
pub counted : (l : ℕ) (es : List Entry) (n : ℕ) → n ≡ count_by (reads_by l) es → length (reads_of l es) ≤ 16 → min n 16 ≡ length (reads_of l es)
counted l es n e few = omega (arith, count_made l es)

-- the first write, or nothing
abbrev none : Use
none = record { file = 0; number = 0 }

write_is : (l : ℕ) (es : List Entry) → unwrap_or (option_map use_of (find (λ e. eqb l e.line && e.wrote) es)) none ≡ write_of l es
write_is l [] = refl
write_is l (e ∷ es) = by (eqb l e.line && e.wrote) (write_is l es)
  where
    by : (b : Bool) → unwrap_or (option_map use_of (find (λ d. eqb l d.line && d.wrote) es)) none ≡ write_of l es → unwrap_or (option_map use_of (cond b (Some e) (find (λ d. eqb l d.line && d.wrote) es))) none ≡ cond b (use_of e) (write_of l es)
    by true h = refl
    by false h = h

unwrapped : (o : Option Use) (r : Use) → UnwrapsOrElse o (λ u. (u.file ≡ 0) × (u.number ≡ 0)) r → r ≡ unwrap_or o none
unwrapped None r h = let z : ◌≡◌ {A = Use} (record { file = r.file; number = r.number }) none = cc in z
unwrapped (Some u) r h = h

pub write_made : (l : ℕ) (es : List Entry) (o : Option Use) (r : Use) → o ≡ option_map use_of (find (λ e. eqb l e.line && e.wrote) es) → UnwrapsOrElse o (λ u. (u.file ≡ 0) × (u.number ≡ 0)) r → r ≡ write_of l es
write_made l es o r e h = unwrapped o r h ∙ ap (λ p. unwrap_or p none) e ∙ write_is l es

-- A loop over the reads with their places: `xs` are those that came so far, `us` the places.
module _ {S : Type 0} {steps : S → Option (ℕ × Bor Entry) → S → Type 0} {s : S} (l : ℕ) (es : List Entry) (xs : List (ℕ × Bor Entry)) (t : S) (y : Yields steps s xs t) (r : Option (ℕ × Bor Entry)) (u : S) (then : steps t r u) where
  module _ (x : ℕ × Bor Entry) (is : r ≡ Some x) (road : YieldsList {B = ℕ × Entry} steps (λ p. (p.0, p.1.now)) s (enumerate_from 0 (reads_in l es))) where
    turn : (length xs < length (enumerate_from 0 (reads_in l es))) × (◌≡◌ {A = ℕ × Entry} (x.0, x.1.now) (get_or (enumerate_from 0 (reads_in l es)) (length xs) (x.0, x.1.now)))
    turn = YieldsList-turn road xs t y r u x is then

    within : length xs < length (reads_in l es)
    within = omega (arith, turn.0, length-enumerate_from 0 (reads_in l es))

    same : ◌≡◌ {A = ℕ × Entry} (x.0, x.1.now) (0 + length xs, get_or (reads_in l es) (length xs) x.1.now)
    same = turn.1 ∙ get_or-enumerate_from 0 (reads_in l es) (length xs) (x.0, x.1.now) within

    place_is : x.0 ≡ length xs
    place_is = let z = ap (λ (p : ℕ × Entry). p.0) same in omega arith

    pub has_place : length (reads_of l es) ≤ 16 → x.0 < 16
    has_place few = omega (arith, within, place_is, reads_long l es)

    pub one_more : (us : List Use) (v : Use) → v ≡ use_of x.1.now → length (reads_of l es) ≤ 16 → length us ≡ 16 → take (length xs) us ≡ map use_of (take (length xs) (reads_in l es)) → take (length (xs ++ x ∷ [])) (set us x.0 v) ≡ map use_of (take (length (xs ++ x ∷ [])) (reads_in l es))
    one_more us v made few long inv =
        let n = length xs in
        let room : n < length us = omega (arith, within, reads_long l es) in
        ap (λ i. take i (set us x.0 v)) (length_push xs x)
        ∙ ap (λ i. take (n + 1) (set us i v)) place_is
        ∙ take_more_set us n v room
        ∙ ap (λ vs. vs ++ v ∷ []) inv
        ∙ ap (λ d. map use_of (take n (reads_in l es)) ++ d ∷ []) (made ∙ ap (λ (p : ℕ × Entry). use_of p.1) same)
        ∙ sym (map-append use_of (take n (reads_in l es)) (get_or (reads_in l es) n x.1.now ∷ []))
        ∙ ap (map use_of) (sym (take_more (reads_in l es) n x.1.now within))
        ∙ ap (λ i. map use_of (take i (reads_in l es))) (sym (length_push xs x))

  module _ (is : r ≡ None) (road : YieldsList {B = ℕ × Entry} steps (λ p. (p.0, p.1.now)) s (enumerate_from 0 (reads_in l es))) where
    all_come : length xs ≡ length (reads_in l es)
    all_come = let z = YieldsList-end road xs t y r u is then in omega (arith, z.1, length-enumerate_from 0 (reads_in l es))

    pub all_listed : (us : List Use) → take (length xs) us ≡ map use_of (take (length xs) (reads_in l es)) → take (length (reads_of l es)) us ≡ reads_of l es
    all_listed us inv =
        let few : length (reads_in l es) ≤ length xs = omega (arith, all_come) in
        ap (λ i. take i us) (reads_long l es ∙ sym all_come) ∙ inv ∙ ap (map use_of) (take_all (length xs) (reads_in l es) few) ∙ sym (reads_made l es)
