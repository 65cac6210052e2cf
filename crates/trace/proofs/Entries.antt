-- The loop that takes the records.
use Rattle.std.proofs.Common.{◌≡◌, ℕ, suc, ◌+◌, ◌-◌, ◌<◌, List, length, Err, sym, refl, ap, ◌∙◌, arith}
use Rattle.std.proofs.lemmas.List.{length_push}
use Rattle.model.specs.Records.{Record}
use Rattle.model.specs.declared.command.Command.{Command}
use Rattle.model.specs.declared.refusal.Refusal.{Refusal}
use Rattle.trace.proofs.Chains.{gathered_more, gathered_stop}
use Rattle.trace.specs.Format.{Before, noted, raised, push, a_record}
use Rattle.trace.specs.Reads.{Reading, read, many, after}
use Rattle.trace.specs.Told.{gathered, met}

-- the highest index after some more records
abbrev pub high_from : Before → List Record → ℕ
high_from s rs = (after noted s rs).high

-- what is left gives the answer
pub record Rest (answer : Reading ℕ) (m n : ℕ) (es : List Command) (high i : ℕ) (bs : List ℕ) : Type 0 where
  pub rest : gathered (high_from (met es high)) (many (a_record m) noted (n - i) (met es high) bs) ≡ answer
  pub long : length es ≡ i

module _ (answer : Reading ℕ) (m n : ℕ) (es : List Command) (high i : ℕ) (bs : List ℕ) (inv : Rest answer m n es high i bs) where
  abbrev s : Before
  s = met es high

  module _ (lt : i < n) where
    left_one : suc (n - (i + 1)) ≡ n - i
    left_one = omega arith

    pub rest_stop : (e : Refusal) → Err e ≡ a_record m s bs → Err e ≡ answer
    rest_stop e f =
        sym (gathered_stop (a_record m) noted (n - (i + 1)) s bs (high_from s) e f)
        ∙ ap (λ k. gathered (high_from s) (many (a_record m) noted k s bs)) left_one
        ∙ inv.rest

    pub rest_more : (r : Record) (cs : List ℕ) (t : ℕ) → t ≡ raised high r → read r cs ≡ a_record m s bs → Rest answer m n (push es r.command) t (i + 1) cs
    rest_more r cs t top e =
        record {
          rest =
              ap (λ h. gathered (high_from (met (push es r.command) h)) (many (a_record m) noted (n - (i + 1)) (met (push es r.command) h) cs)) top
              ∙ sym (gathered_more (a_record m) noted (n - (i + 1)) s bs (high_from s) (high_from (noted s r)) r cs (λ rs. refl) e)
              ∙ ap (λ k. gathered (high_from s) (many (a_record m) noted k s bs)) left_one
              ∙ inv.rest;
          long = let l = length_push es r.command in omega (arith, inv.long);
        }
