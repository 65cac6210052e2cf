-- Each script that is read is sound.
use Rattle.std.proofs.Common.{◌≡◌, ℕ, zero, suc, ◌+◌, ◌<◌, ◌≤◌, false, cond, not, ◌&&◌, eqb, ltb, leb, List, [], ◌∷◌, length, get_or, set, is_some, Some, None, Ok, Err, Option, Result, sym, refl, ap, ◌∙◌, subst, inl, inr, arith}
use Rattle.std.proofs.ByRecursion.{All-push}
use Rattle.std.proofs.lemmas.Slice.Eq.{bytes_eq-Decides}
use Rattle.std.proofs.lemmas.List.{length-set, length_push, get_or-set_same, get_or-set_other, get_or-replicate}
use Rattle.std.proofs.lemmas.Bool.{cond_both, both_ways, cases_eq, ltb-true, ltb-false, leb-true, and_parts, not-true}
use Rattle.std.proofs.lemmas.Iterator.Adapters.{position_from-zero}
use Rattle.std.proofs.lemmas.List.Quantifiers.{position-Some}
use Rattle.std.specs.List.{AllByRecursion, list_all}
use Rattle.std.specs.Str.{bytes_eq}
use Rattle.model.specs.declared.refusal.Refusal.{Refusal}
use Rattle.model.specs.declared.refusal.Refusal.TheVariants.{TextTooLong, BadTextLine, BadLabel, ScriptFull, HaveTooLong}
use Rattle.script.specs.declared.answer.Refused.{Refused}
use Rattle.model.specs.declared.command.Command.{Command}
use Rattle.script.specs.declared.verb.Verb.{Verb}
use Rattle.script.specs.declared.verb.Verb.TheVariants as verb
use Rattle.model.specs.Digits.{file_number}
use Rattle.model.specs.Numbers.{arity}
use Rattle.model.proofs.Lists.{get_or-same}
use Rattle.script.proofs.Places.{none_passes}
use Rattle.script.specs.Sound.{LabelsApart, Sound, Starts, Acts, Holds}
use Rattle.script.specs.Text.{label_byte, command_on, given, two, free, add_label, add_have, add_command, verb_line, words_line, line_adds, with_label, with_have, with_command, Meaning, Start, nothing, then, from_line, reading, lines, words, plain, verb_of, is_label, file_of, before, files_of}

-- files that are found
file_low : (ls : List (List ℕ)) (w : List ℕ) (n : ℕ) → file_of ls w ≡ Some n → n < length ls
file_low ls w n e = (position-Some (λ l. bytes_eq l w) ls n [] (position_from-zero (λ l. bytes_eq l w) ls ∙ e)).0

new_label : (ls : List (List ℕ)) (w : List ℕ) → is_some (file_of ls w) ≡ false → (k : ℕ) → k < length ls → get_or ls k [] ≡ w → ⊥
new_label ls w e k h f =
    both_ways _ (none_passes (λ l. bytes_eq l w) ls [] (ap is_some (position_from-zero (λ l. bytes_eq l w) ls) ∙ e) k h) ((bytes_eq-Decides (get_or ls k []) w).1 f)

before_some : (o : Option ℕ) (p : Option (List ℕ)) (fs : List ℕ) → before o p ≡ Some fs → (f : ℕ) × (gs : List ℕ) × (o ≡ Some f) × (p ≡ Some gs) × (f ∷ gs ≡ fs)
before_some None p fs e = let z : ◌≡◌ {A = ℕ} 0 1 = cc in absurd (omega arith)
before_some (Some f) None fs e = let z : ◌≡◌ {A = ℕ} 0 1 = cc in absurd (omega arith)
before_some (Some f) (Some gs) fs e = (f, gs, refl, refl, cc)

abbrev Low : List (List ℕ) → List ℕ → Type 0
Low ws fs = (length fs ≡ length ws) × AllByRecursion (λ f. f < 64) fs

files_low : (ls ws : List (List ℕ)) (fs : List ℕ) → length ls ≡ 64 → files_of ls ws ≡ Some fs → Low ws fs
files_low ls [] fs l e = let z : [] ≡ fs = cc in subst (Low []) z (refl, tt)
files_low ls (w ∷ ws) fs l e =
    let b = before_some (file_of ls w) (files_of ls ws) fs e in
    let rest = files_low ls ws b.1 l b.3 in
    let low : b.0 < 64 = omega (arith, file_low ls w b.0 b.2) in
    subst (Low (w ∷ ws)) b.4 (ap suc rest.0, (low, rest.1))

-- a label that has a byte is at a place of the list
placed : (ls : List (List ℕ)) (i : ℕ) → 0 < length (get_or ls i []) → i < length ls
placed [] i h = absurd (omega arith)
placed (l ∷ ls) zero h = omega arith
placed (l ∷ ls) (suc i) h = let p = placed ls i h in omega arith

low_at : (fs : List ℕ) (j : ℕ) → AllByRecursion (λ f. f < 64) fs → get_or fs j 0 < 64
low_at [] j a = omega arith
low_at (f ∷ fs) zero a = a.0
low_at (f ∷ fs) (suc j) a = low_at fs j a.1

short_set : (ls : List (List ℕ)) (n : ℕ) (w : List ℕ) → length w ≤ 16 → ((i : ℕ) → length (get_or ls i []) ≤ 16) → (i : ℕ) → length (get_or (set ls n w) i []) ≤ 16
short_set [] n w h short i = short i
short_set (l ∷ ls) zero w h short zero = h
short_set (l ∷ ls) zero w h short (suc i) = short (suc i)
short_set (l ∷ ls) (suc n) w h short zero = short zero
short_set (l ∷ ls) (suc n) w h short (suc i) = short_set ls n w h (λ j. short (suc j)) i

-- the pieces of what a text line adds
holds_given : {X : Type 0} (o : Option X) (more : X → Result Meaning Refusal) → ((x : X) → o ≡ Some x → Holds (more x)) → Holds (given o more)
holds_given None more h = tt
holds_given (Some x) more h = h x refl

holds_two : (ws : List (List ℕ)) (more : List ℕ → List ℕ → Result Meaning Refusal) → ((a b : List ℕ) → Holds (more a b)) → Holds (two ws more)
holds_two [] more h = tt
holds_two (a ∷ []) more h = tt
holds_two (a ∷ b ∷ []) more h = h a b
holds_two (a ∷ b ∷ x ∷ xs) more h = tt

module _ (s : Meaning) (ok : Sound s) where
  label_apart : (n : ℕ) (w : List ℕ) → is_some (file_of s.labels w) ≡ false → LabelsApart (with_label s n w)
  label_apart n w new i j (some, same) =
      let ls = s.labels in
      let l = length-set ls n w ∙ ok.labels in
      let h : i < 64 = omega (arith, placed (set ls n w) i some) in
      let k : j < 64 = omega (arith, placed (set ls n w) j (subst (λ (x : List ℕ). 0 < length x) same some)) in
      let here : (m : ℕ) → m < 64 → m ≡ n → get_or (set ls n w) m [] ≡ w =
      λ m lt e. ap (λ x. get_or (set ls n w) x []) e ∙ get_or-set_same ls n w [] (omega (arith, lt, e)) in
      let other : (m : ℕ) → (m ≡ n → ⊥) → get_or (set ls n w) m [] ≡ get_or ls m [] = λ m ne. get_or-set_other ls n m w [] ne in
      elim (cases_eq i n) [
        | inl a ↦
            elim (cases_eq j n) [
              | inl b ↦ a ∙ sym b
              | inr b ↦ absurd (new_label ls w new j (omega arith) (sym (other j b) ∙ sym same ∙ here i h a))
            ]
        | inr a ↦
            elim (cases_eq j n) [
              | inl b ↦ absurd (new_label ls w new i (omega arith) (sym (other i a) ∙ same ∙ here j k b))
              | inr b ↦ ok.apart i j (subst (λ (x : List ℕ). 0 < length x) (other i a) some, sym (other i a) ∙ same ∙ other j b)
            ]
      ]

  sound_name : (n : ℕ) (w : List ℕ) → Holds (add_label s n w)
  sound_name n w =
      cond_both (is_label w && free s n w) (Ok (with_label s n w)) (Err BadLabel) Holds
      (λ t.
      let f = and_parts (eqb (length (get_or s.labels n [])) 0) (not (is_some (file_of s.labels w))) (and_parts (is_label w) (free s n w) t).1 in
      record {
        labels = length-set s.labels n w ∙ ok.labels;
        short = short_set s.labels n w (leb-true (length w) 16 (and_parts (leb (length w) 16) (list_all label_byte w) (and_parts (is_label w) (free s n w) t).0).0) ok.short;
        apart = label_apart n w (not-true (is_some (file_of s.labels w)) f.1);
        haves = ok.haves;
        commands = ok.commands;
        starts = ok.starts;
        acts = ok.acts;
      })
      (λ f. tt)

  sound_have : (f : ℕ) (c : List ℕ) → f < 64 → Holds (add_have s f c)
  sound_have f c low =
      let h : Start = record { file = f; content = c } in
      let l = length_push s.haves h in
      cond_both (ltb 4096 (length c)) (Err HaveTooLong) (cond (ltb (length s.haves) 64) (Ok (with_have s f c)) (Err ScriptFull)) Holds (λ t. tt)
      (λ short. cond_both (ltb (length s.haves) 64) (Ok (with_have s f c)) (Err ScriptFull) Holds
      (λ room. record {
        labels = ok.labels;
        short = ok.short;
        apart = ok.apart;
        haves = omega (arith, ltb-true (length s.haves) 64 room);
        commands = ok.commands;
        starts = All-push Starts s.haves h ok.starts (low, ltb-false 4096 (length c) short);
        acts = ok.acts;
      })
      (λ full. tt))

  sound_command : (k : Command) → Acts k → Holds (add_command s k)
  sound_command k acts =
      let l = length_push s.commands k in
      cond_both (ltb (length s.commands) 64) (Ok (with_command s k)) (Err ScriptFull) Holds
      (λ room. record {
        labels = ok.labels;
        short = ok.short;
        apart = ok.apart;
        haves = ok.haves;
        commands = omega (arith, ltb-true (length s.commands) 64 room);
        starts = ok.starts;
        acts = All-push Acts s.commands k ok.acts acts;
      })
      (λ full. tt)

  sound_verb : (v : Option Verb) (ws : List (List ℕ)) → Holds (verb_line s v ws)
  sound_verb None ws = tt
  sound_verb (Some verb.Comment) ws = ok
  sound_verb (Some verb.File) ws = holds_two ws _ (λ n l. holds_given (file_number n) _ (λ f e. sound_name f l))
  sound_verb (Some verb.Have) ws =
      holds_two ws _ (λ l c. holds_given (file_of s.labels l) _ (λ f e. sound_have f c (omega (arith, file_low s.labels l f e, ok.labels))))
  sound_verb (Some (verb.Command k)) ws =
      cond_both (eqb (length ws) (arity k)) (given (files_of s.labels ws) (λ fs. add_command s (command_on k fs))) (Err BadTextLine) Holds
      (λ t. holds_given (files_of s.labels ws) _ (λ fs e.
      let p = files_low s.labels ws fs ok.labels e in
      sound_command (command_on k fs) (low_at fs 0 p.1, low_at fs 1 p.1, low_at fs 2 p.1, low_at fs 3 p.1)))
      (λ f. tt)

  sound_line : (line : List ℕ) → Holds (line_adds s line)
  sound_line line = cond_both (list_all plain line) (words_line s (words line)) (Err BadTextLine) Holds (λ t. sound_words (words line)) (λ f. tt)
    where
      sound_words : (ws : List (List ℕ)) → Holds (words_line s ws)
      sound_words [] = ok
      sound_words (w ∷ ws) = sound_verb (verb_of w) ws

holds_then : (n : ℕ) (r : Result Meaning Refusal) (more : Meaning → Result Meaning Refused) → Holds r → ((s : Meaning) → Sound s → Holds (more s)) → Holds (then n r more)
holds_then n (Ok s) more ok h = h s ok
holds_then n (Err e) more ok h = tt

sound_lines : (ls : List (List ℕ)) (n : ℕ) (s : Meaning) → Sound s → Holds (from_line ls n s)
sound_lines [] n s ok = ok
sound_lines (l ∷ ls) n s ok = holds_then n (line_adds s l) (from_line ls (n + 1)) (sound_line s ok l) (sound_lines ls (n + 1))

pub sound_nothing : Sound nothing
sound_nothing =
    record {
      labels = refl;
      short = λ i. omega (arith, ap length (get_or-same {X = List ℕ} 64 i []));
      apart = λ i j p. let e : length (get_or nothing.labels i []) ≡ 0 = ap length (get_or-replicate 64 i [] [] (placed nothing.labels i p.0)) in absurd (omega (arith, p.0));
      haves = omega arith;
      commands = omega arith;
      starts = tt;
      acts = tt;
    }

pub sound_reading : (text : List ℕ) → Holds (reading text)
sound_reading text =
    cond_both (ltb 16384 (length text)) (Err (record { refusal = TextTooLong; line = 0 })) (from_line (lines text) 1 nothing) Holds (λ t. tt)
    (λ f. sound_lines (lines text) 1 nothing sound_nothing)
