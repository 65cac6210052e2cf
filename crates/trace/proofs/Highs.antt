-- The loop that takes the reads of a record.
use Rattle.std.proofs.Common.{◌≡◌, ℕ, suc, ◌+◌, ◌-◌, ◌<◌, List, [], ◌∷◌, ◌++◌, length, take, set, Err, sym, ap, ◌∙◌, arith}
use Rattle.std.proofs.lemmas.List.{take_more_set, length-set}
use Rattle.trace.proofs.Chains.{onto, onto_more, onto_stop, after_append}
use Rattle.trace.specs.Reads.{Reading, read, many, after}
use Rattle.trace.specs.Format.{a_use, higher}
use Rattle.model.specs.declared.refusal.Refusal.{Refusal}
use Rattle.model.specs.declared.record.Use.{Use}

-- what is left gives the answer, and the highest index so far is known
pub record Rest (answer : Reading (List Use)) (m n h : ℕ) (list : List Use) (top i : ℕ) (bs : List ℕ) : Type 0 where
  pub rest : onto (take i list) (many (a_use m) higher (n - i) top bs) ≡ answer
  pub high : top ≡ after higher h (take i list)
  pub long : length list ≡ 16

module _ (answer : Reading (List Use)) (m n h : ℕ) (list : List Use) (top i : ℕ) (bs : List ℕ) (inv : Rest answer m n h list top i bs) where
  module _ (lt : i < n) where
    left_one : suc (n - (i + 1)) ≡ n - i
    left_one = omega arith

    pub rest_stop : (e : Refusal) → Err e ≡ a_use m top bs → Err e ≡ answer
    rest_stop e f =
        sym (onto_stop (a_use m) higher (n - (i + 1)) top bs (take i list) e f)
        ∙ ap (λ k. onto (take i list) (many (a_use m) higher k top bs)) left_one
        ∙ inv.rest

    pub rest_more : (u : Use) (cs : List ℕ) (t : ℕ) → i < length list → t ≡ higher top u → read u cs ≡ a_use m top bs → Rest answer m n h (set list i u) t (i + 1) cs
    rest_more u cs t l s e =
        let more = take_more_set list i u l in
        record {
          rest =
              ap (λ us. onto us (many (a_use m) higher (n - (i + 1)) t cs)) more
              ∙ ap (λ k. onto (take i list ++ u ∷ []) (many (a_use m) higher (n - (i + 1)) k cs)) s
              ∙ sym (onto_more (a_use m) higher (n - (i + 1)) top bs (take i list) u cs e)
              ∙ ap (λ k. onto (take i list) (many (a_use m) higher k top bs)) left_one
              ∙ inv.rest;
          high = s ∙ ap (λ k. higher k u) inv.high ∙ sym (after_append higher h (take i list) (u ∷ [])) ∙ ap (after higher h) (sym more);
          long = length-set list i u ∙ inv.long;
        }
