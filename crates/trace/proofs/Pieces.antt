-- The loop that takes the contents.
use Rattle.std.proofs.Common.{◌≡◌, ℕ, suc, ◌+◌, ◌-◌, ◌<◌, List, [], ◌∷◌, ◌++◌, map, length, take, set, Err, sym, ap, ◌∙◌, arith, Bor}
use Rattle.std.proofs.lemmas.List.{take_more_set, map_push}
use Rattle.trace.proofs.Chains.{onto, onto_more, onto_stop}
use Rattle.trace.specs.Reads.{Reading, read, then, many, a_count}
use Rattle.trace.specs.Format.{a_content, push, all_contents, the_contents}
use Rattle.model.specs.declared.refusal.Refusal.{Refusal}

abbrev pub Ref : Type 0
Ref = Bor (List ℕ)

abbrev pub firsts : ℕ → List Ref → List (List ℕ)
firsts i list = map (λ x. x.now) (take i list)

-- what is left gives the answer
abbrev pub Rest : Reading (List (List ℕ)) → ℕ → List Ref → ℕ → List ℕ → Type 0
Rest answer n list i bs = onto (firsts i list) (many a_content push (n - i) (firsts i list) bs) ≡ answer

pub firsts_more : (list : List Ref) (i : ℕ) (x : Ref) → i < length list → firsts (i + 1) (set list i x) ≡ firsts i list ++ x.now ∷ []
firsts_more list i x h = ap (map (λ x. x.now)) (take_more_set list i x h) ∙ map_push (λ x. x.now) (take i list) x

-- the code's `&list[0..i]` is `take (i - 0)`
pub exact : (list : List Ref) (i : ℕ) → firsts (i - 0) list ≡ firsts i list
exact list i = let z : i - 0 ≡ i = omega arith in ap (λ m. firsts m list) z

module _ (answer : Reading (List (List ℕ))) (n : ℕ) (list : List Ref) (i : ℕ) (bs : List ℕ) (inv : Rest answer n list i bs) (h : i < n) where
  left_one : suc (n - (i + 1)) ≡ n - i
  left_one = omega arith

  pub rest_more : (x : Ref) (cs : List ℕ) → i < length list → read x.now cs ≡ a_content (firsts (i - 0) list) bs → Rest answer n (set list i x) (i + 1) cs
  rest_more x cs l e =
      ap (λ es. onto es (many a_content push (n - (i + 1)) es cs)) (firsts_more list i x l)
      ∙ sym (onto_more a_content push (n - (i + 1)) (firsts i list) bs (firsts i list) x.now cs (e ∙ ap (λ es. a_content es bs) (exact list i)))
      ∙ ap (λ m. onto (firsts i list) (many a_content push m (firsts i list) bs)) left_one
      ∙ inv

  pub rest_stop : (e : Refusal) → Err e ≡ a_content (firsts (i - 0) list) bs → Err e ≡ answer
  rest_stop e f =
      sym (onto_stop a_content push (n - (i + 1)) (firsts i list) bs (firsts i list) e (f ∙ ap (λ es. a_content es bs) (exact list i)))
      ∙ ap (λ m. onto (firsts i list) (many a_content push m (firsts i list) bs)) left_one
      ∙ inv

pub section_begins : (n : ℕ) (bs cs : List ℕ) → read n cs ≡ a_count 1024 bs → all_contents n cs ≡ the_contents bs
section_begins n bs cs e = ap (λ r. then r all_contents) e
