-- Reading the records of a checked file once more, one after the other.
use Rattle.std.proofs.Common.{◌≡◌, ℕ, zero, suc, not, List, [], ◌∷◌, Ok, Err, Result, ap, ◌∙◌, arith}
use Rattle.model.specs.Records.{Record}
use Rattle.model.specs.declared.command.Command.{Command}
use Rattle.model.specs.declared.command.Kind.{Kind}
use Rattle.model.specs.declared.refusal.Refusal.{Refusal}
use Rattle.trace.proofs.Backs.{went, held, same_value}
use Rattle.trace.specs.Format.{Before, noted, raised, highest, a_file, a_kind, known_command, new_command, from_third, from_second, from_first, from_kind, a_command, record_command, a_record}
use Rattle.trace.specs.Reads.{Read, Reading, read, then, many, begun, readable}
use Rattle.trace.specs.Told.{again}

-- what comes next may be weakened
then_weaker : {X Y : Type 0} (r : Reading X) (f g : X → List ℕ → Result Y Refusal) (y : Y) → ((x : X) (bs : List ℕ) → f x bs ≡ Ok y → g x bs ≡ Ok y) → then r f ≡ Ok y → then r g ≡ Ok y
then_weaker (Ok r) f g y h e = h r.value r.rest e
then_weaker (Err x) f g y h e = let z : ◌≡◌ {A = ℕ} 0 1 = cc in absurd (omega arith)

module _ (es : List Command) (y : Read Command) where
  new_again : (k : Kind) (a b c d : ℕ) (bs : List ℕ) → new_command es k a b c d bs ≡ Ok y → new_command [] k a b c d bs ≡ Ok y
  new_again k a b c d bs e = (held (not (known_command (record { kind = k; a = a; b = b; c = c; d = d }) es)) _ _ e).1

  command_again : (bs : List ℕ) → a_command es bs ≡ Ok y → a_command [] bs ≡ Ok y
  command_again bs =
      then_weaker (a_kind bs) (from_kind es) (from_kind []) y
      (λ k cs. then_weaker (a_file (highest k 1) cs) (from_first es k) (from_first [] k) y
      (λ a ds. then_weaker (a_file (highest k 2) ds) (from_second es k a) (from_second [] k a) y
      (λ b fs. then_weaker (a_file (highest k 3) fs) (from_third es k a b) (from_third [] k a b) y
      (λ c gs. then_weaker (a_file (highest k 4) gs) (new_command es k a b c) (new_command [] k a b c) y (λ d. new_again k a b c d)))))

-- commands need not be compared again
record_again : (n : ℕ) (s : Before) (bs : List ℕ) (y : Read Record) → a_record n s bs ≡ Ok y → again n s.high bs ≡ Ok y
record_again n s bs y e =
    let a = went (a_command s.commands bs) (record_command n s.high) y e in
    ap (λ r. then r (record_command n s.high)) (command_again s.commands _ bs a.first) ∙ a.then

pub all_again : (n m : ℕ) (s : Before) (bs : List ℕ) (rs : List Record) (cs : List ℕ) → many (a_record n) noted m s bs ≡ read rs cs → readable (again n) raised m s.high bs ≡ rs
all_again n zero s bs rs cs e = same_value [] rs bs cs e
all_again n (suc m) s bs rs cs e =
    let a = went (a_record n s bs) (λ x ds. then (many (a_record n) noted m (noted s x) ds) (λ xs fs. read (x ∷ xs) fs)) _ e in
    let b = went (many (a_record n) noted m (noted s a.value) a.rest) (λ xs fs. read (a.value ∷ xs) fs) _ a.then in
    ap (λ r. begun r (λ x ds. readable (again n) raised m (raised s.high x) ds)) (record_again n s bs _ a.first)
    ∙ ap (λ xs. a.value ∷ xs) (all_again n m (noted s a.value) a.rest b.value b.rest b.first)
    ∙ same_value (a.value ∷ b.value) rs b.rest cs b.then
