-- The whole file, by the answers of its sections.
use Rattle.std.proofs.Common.{◌≡◌, ℕ, Bool, true, false, cond, eqb, List, length, IfOk, Ok, Err, Result, sym, refl, ap, ◌∙◌, arith}
use Rattle.model.specs.Contents.{Content}
use Rattle.model.specs.Load.{Traced}
use Rattle.model.specs.declared.refusal.Refusal.{Refusal}
use Rattle.model.specs.declared.refusal.Refusal.TheVariants.{TraceLength}
use Rattle.trace.proofs.Accepted.{accepted}
use Rattle.trace.proofs.Agains.{all_again}
use Rattle.trace.proofs.Backs.{same_value, same_rest}
use Rattle.trace.specs.Format.{start, raised, ended, finished, all_records, the_contents, the_records, with_contents, decoded, encoded, lawful}
use Rattle.trace.specs.Laws.{Bytes}
use Rattle.trace.specs.Reads.{Reading, read, then, rule, a_count, readable}
use Rattle.trace.specs.Told.{gathered, high_of, again, at_end, meant, checked}
use Rattle.trace.specs.declared.file.Trace.{Trace}

-- what was gathered from
pub record From {X Y : Type 0} (f : X → Y) (r : Reading X) (y : Y) (bs : List ℕ) : Type 0 where
  pub value : X
  pub was : r ≡ read value bs
  pub same : y ≡ f value

from_gathered : {X Y : Type 0} (f : X → Y) (r : Reading X) (y : Y) (bs : List ℕ) → read y bs ≡ gathered f r → From f r y bs
from_gathered f (Ok q) y bs e =
    record {
      value = q.value;
      was = ap (λ cs. read q.value cs) (sym (same_rest y (f q.value) bs q.rest e));
      same = same_value y (f q.value) bs q.rest e;
    }
from_gathered f (Err x) y bs e = let z : ◌≡◌ {A = ℕ} 0 1 = cc in absurd (omega arith)

-- a file ends well with what was read
gathered_end : {Y : Type 0} → Result (Unit {0}) Refusal → Y → Result Y Refusal
gathered_end (Ok u) y = Ok y
gathered_end (Err e) y = Err e

-- the end of a file, by the highest index and the count of contents
at_end_is : {Y : Type 0} (h n : ℕ) (bs : List ℕ) (y : Y) → gathered_end (at_end h n bs) y ≡ rule (eqb h n) (ended bs y)
unfolding gathered_end
at_end_is h n bs y = by (eqb h n) (eqb (length bs) 0)
  where
    by : (a b : Bool) → gathered_end (rule a (cond b (Ok tt) (Err TraceLength))) y ≡ rule a (cond b (Ok y) (Err TraceLength))
    by true true = refl
    by true false = refl
    by false b = refl

module _ (bs : List ℕ) (cs : List Content) (n : ℕ) (ds : List ℕ) (first : read cs ds ≡ the_contents bs) (count : length cs ≡ n) where
  after_contents : then (the_records n ds) (finished cs) ≡ decoded bs
  after_contents = ap (λ k. then (the_records k ds) (finished cs)) (sym count) ∙ ap (λ r. then r with_contents) first

  module _ (m : ℕ) (fs : List ℕ) (second : read m fs ≡ a_count 256 ds) where
    by_parts : then (all_records n m fs) (finished cs) ≡ decoded bs
    by_parts = ap (λ r. then (then r (all_records n)) (finished cs)) second ∙ after_contents

    module _ (h : ℕ) (gs : List ℕ) (third : read h gs ≡ gathered high_of (all_records n m fs)) where
      rs : From high_of (all_records n m fs) h gs
      rs = from_gathered high_of (all_records n m fs) h gs third

      abbrev trace : Traced
      trace = record { contents = cs; records = rs.value }

      ends : gathered_end (at_end h n gs) trace ≡ decoded bs
      ends =
          at_end_is h n gs trace
          ∙ ap (λ k. rule (eqb k n) (ended gs trace)) rs.same
          ∙ ap (λ k. rule (eqb (high_of rs.value) k) (ended gs trace)) (sym count)
          ∙ ap (λ r. then r (finished cs)) (sym rs.was)
          ∙ by_parts

      pub good_end : Ok tt ≡ at_end h n gs → ◌≡◌ {A = Result Traced Refusal} (Ok (record { contents = cs; records = readable (again n) raised m 0 fs })) (decoded bs)
      unfolding gathered_end
      good_end f =
          ap (λ l. Ok (record { contents = cs; records = l })) (all_again n m start fs rs.value gs rs.was) ∙ ap (λ r. gathered_end r trace) f ∙ ends

-- what is accepted is lawful, and written as it was
pub made_lawful : (r : Result Trace Refusal) (bs : List ℕ) → Bytes bs → checked r ≡ decoded bs → IfOk r (λ t. lawful (meant t) ≡ true)
made_lawful (Ok t) bs ok e = (accepted bs (meant t) ok (sym e)).1
made_lawful (Err x) bs ok e = tt

pub made_written : (r : Result Trace Refusal) (bs : List ℕ) → Bytes bs → checked r ≡ decoded bs → IfOk r (λ t. encoded (meant t) ≡ bs)
made_written (Ok t) bs ok e = (accepted bs (meant t) ok (sym e)).0
made_written (Err x) bs ok e = tt
