-- What a command and its labels add, from the files that its labels have.
use Rattle.std.proofs.Common.{◌≡◌, ℕ, zero, suc, ◌-◌, eqb, List, [], ◌∷◌, ◌++◌, map, length, get_or, replicate, Some, None, Option, Result, sym, refl, ap, ◌∙◌, arith, Bor}
use Rattle.std.proofs.lemmas.List.{length-map}
use Rattle.std.proofs.lemmas.Bool.{cond-true, eq-eqb}
use Rattle.std.specs.Option.{option_map}
use Rattle.model.specs.declared.refusal.Refusal.{Refusal}
use Rattle.model.specs.declared.command.Kind.{Kind}
use Rattle.model.specs.Numbers.{arity}
use Rattle.model.proofs.Lists.{get_or-same}
use Rattle.script.specs.Text.{given, add_command, command_on, command_line, Meaning, files_of}
use Rattle.script.specs.Views.{four}

abbrev Ref : Type 0
Ref = Bor (List ℕ)

abbrev Answer : Type 0
Answer = Result Meaning Refusal

-- what follows where something is known, known by a function of it
given_some : {X Y : Type 0} (g : X → Y) (h : Y → Answer) (o : Option X) (y : Y) → Some y ≡ option_map g o → h y ≡ given o (λ x. h (g x))
given_some g h None y e = let z : ◌≡◌ {A = ℕ} 0 1 = cc in absurd (omega arith)
given_some g h (Some x) y e = let z : y ≡ g x = cc in ap h z

-- the places behind the files that are named hold 0, as `get_or` says of them too
padded : (fs : List ℕ) (n i : ℕ) → get_or (fs ++ replicate n 0) i 0 ≡ get_or fs i 0
padded [] n i = get_or-same n i 0
padded (f ∷ fs) n zero = refl
padded (f ∷ fs) n (suc i) = padded fs n i

four_same : (k : Kind) (fs : List ℕ) → command_on k (four fs) ≡ command_on k fs
four_same k fs =
    let n = 4 - length fs in
    let p = padded fs n in
    cc (p 0, p 1, p 2, p 3)

module _ (s : Meaning) (k : Kind) (rs : List Ref) where
  unpadded : (o : Option (List ℕ)) → given o (λ fs. add_command s (command_on k (four fs))) ≡ given o (λ fs. add_command s (command_on k fs))
  unpadded None = refl
  unpadded (Some fs) = ap (add_command s) (four_same k fs)

  enough : length rs ≡ arity k → given (files_of s.labels (map (λ x. x.now) rs)) (λ fs. add_command s (command_on k fs)) ≡ command_line s k (map (λ x. x.now) rs)
  enough h =
      let l = length-map rs (λ x. x.now) in
      sym (cond-true (eqb (length (map (λ x. x.now) rs)) (arity k)) _ _ (eq-eqb _ (arity k) (l ∙ h)))

  pub with_files : (fs : List ℕ) (r : Answer) → length rs ≡ arity k → Some fs ≡ option_map four (files_of s.labels (map (λ x. x.now) rs)) → r ≡ add_command s (command_on k fs) → r ≡ command_line s k (map (λ x. x.now) rs)
  with_files fs r h e f = f ∙ given_some four (λ gs. add_command s (command_on k gs)) (files_of s.labels (map (λ x. x.now) rs)) fs e ∙ unpadded (files_of s.labels (map (λ x. x.now) rs)) ∙ enough h
