-- No command reads more than 16 times. Assumes nothing.
use Rattle.std.proofs.Common.{◌≡◌, ℕ, zero, suc, ◌+◌, ◌<◌, ◌≤◌, Bool, true, false, cond, leb, List, [], ◌∷◌, length, drop, Some, None, Option, sym, refl, ap, ◌∙◌, arith, length-drop}
use Rattle.std.proofs.lemmas.Bool.{leb-true}
use Rattle.model.specs.declared.command.Kind.{Kind}
use Rattle.model.specs.declared.command.Kind.TheVariants.{Copy, Join, Gather, Choose, Tally, Check}
use Rattle.model.specs.declared.command.Command.{Command}
use Rattle.model.specs.Digits.{file_number}
use Rattle.model.specs.Contents.{Content}
use Rattle.model.specs.Commands.{reads, writes, bad, with_file, pairs, listed, next_listed, gathers, next, wants}

unlike_writes : (g f : ℕ) (x : Content) → writes g x ≡ reads f → ⊥
unlike_writes g f x e = let z : ◌≡◌ {A = ℕ} 0 1 = cc in omega arith

unlike_bad : (f : ℕ) → bad ≡ reads f → ⊥
unlike_bad f e = let z : ◌≡◌ {A = ℕ} 0 1 = cc in omega arith

-- a list names half as many files as it has bytes
abbrev Halves : ℕ → Option (List ℕ) → Type 0
Halves n o = (fs : List ℕ) → o ≡ Some fs → length fs + length fs ≤ n

unlike_none : (n : ℕ) → Halves n None
unlike_none n fs e = let z : ◌≡◌ {A = ℕ} 0 1 = cc in absurd (omega arith)

halves_with : (n : ℕ) (o : Option ℕ) (r : Option (List ℕ)) → Halves n r → Halves (suc (suc n)) (with_file o r)
halves_with n None r h fs e = unlike_none _ fs e
halves_with n (Some f) None h fs e = unlike_none _ fs e
halves_with n (Some f) (Some gs) h fs e = let same : f ∷ gs ≡ fs = cc in rw (← same) (omega (arith, h gs refl))

halves : (l : Content) → Halves (length l) (pairs l)
halves [] fs e = let same : [] ≡ fs = cc in rw (← same) (omega arith)
halves (t ∷ []) fs e = unlike_none _ fs e
halves (t ∷ u ∷ l) fs e = halves_with (length l) (file_number (t ∷ u ∷ [])) (pairs l) (halves l) fs e

turn_brief : (b f : ℕ) (xs : List Content) (fs : List ℕ) → next_listed b xs (drop (length xs) fs) ≡ reads f → length xs < length fs
turn_brief b f xs fs e = by (drop (length xs) fs) refl e
  where
    by : (r : List ℕ) → drop (length xs) fs ≡ r → next_listed b xs r ≡ reads f → length xs < length fs
    by [] d k = absurd (unlike_writes _ _ _ k)
    by (g ∷ gs) d k = omega (arith, sym (length-drop (length xs) fs) ∙ ap length d)

gather_brief : (b f : ℕ) (l : Content) (xs : List Content) → gathers b xs (listed l) ≡ reads f → length xs < 15
gather_brief b f l xs e = by (leb (length l) 30) refl (pairs l) refl e
  where
    by : (c : Bool) → leb (length l) 30 ≡ c → (o : Option (List ℕ)) → pairs l ≡ o → gathers b xs (cond c o None) ≡ reads f → length xs < 15
    by false d o i k = absurd (unlike_bad f k)
    by true d None i k = absurd (unlike_bad f k)
    by true d (Some fs) i k = omega (arith, leb-true (length l) 30 d, halves l fs i, turn_brief b f xs fs k)

kind_brief : (k : Kind) (a b c d f : ℕ) (xs : List Content) → next k a b c d xs ≡ reads f → length xs < 16
kind_brief Copy a b c d f [] e = omega arith
kind_brief Copy a b c d f (x ∷ xs) e = absurd (unlike_writes _ _ _ e)
kind_brief Join a b c d f [] e = omega arith
kind_brief Join a b c d f (x ∷ []) e = omega arith
kind_brief Join a b c d f (x ∷ y ∷ xs) e = absurd (unlike_writes _ _ _ e)
kind_brief Gather a b c d f [] e = omega arith
kind_brief Gather a b c d f (l ∷ xs) e = omega (arith, gather_brief b f l xs e)
kind_brief Choose a b c d f [] e = omega arith
kind_brief Choose a b c d f (x ∷ []) e = omega arith
kind_brief Choose a b c d f (x ∷ y ∷ xs) e = absurd (unlike_writes _ _ _ e)
kind_brief Tally a b c d f [] e = omega arith
kind_brief Tally a b c d f (x ∷ xs) e = absurd (unlike_writes _ _ _ e)
kind_brief Check a b c d f [] e = omega arith
kind_brief Check a b c d f (x ∷ []) e = omega arith
kind_brief Check a b c d f (x ∷ y ∷ xs) e = absurd (unlike_writes _ _ _ e)

pub brief : (cs : List Command) (l f : ℕ) (xs : List Content) → wants cs l xs ≡ reads f → length xs < 16
brief [] l f xs e = absurd (unlike_bad f e)
brief (c ∷ cs) zero f xs e = kind_brief c.kind c.a c.b c.c c.d f xs e
brief (c ∷ cs) (suc l) f xs e = brief cs l f xs e
