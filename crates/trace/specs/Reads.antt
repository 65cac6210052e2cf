-- How a string of bytes is read from front to back: a value and the bytes after it, or why it is refused.
use Rattle.std.specs.Prelude.{ℕ, zero, suc, ◌+◌, ◌*◌, ◌/◌, ◌%◌, Bool, true, cond, ◌&&◌, List, [], ◌∷◌, length, take, drop, Ok, Err, Result, nat_le}
use Rattle.model.specs.declared.refusal.Refusal.{Refusal}
use Rattle.model.specs.declared.refusal.Refusal.TheVariants.{TraceLength, TraceRule}

pub record Read (X : Type 0) : Type 0 where
  pub value : X
  pub rest : List ℕ

abbrev pub Reading : Type 0 → Type 0
Reading X = Result (Read X) Refusal

abbrev pub read : {X : Type 0} → X → List ℕ → Reading X
read x bs = Ok (record { value = x; rest = bs })

-- what is read next
abbrev pub then : {X Y : Type 0} → Reading X → (X → List ℕ → Result Y Refusal) → Result Y Refusal
then (Ok r) more = more r.value r.rest
then (Err e) more = Err e

-- a rule that a field may break
abbrev pub rule : {Y : Type 0} → Bool → Result Y Refusal → Result Y Refusal
rule t more = cond t more (Err TraceRule)

abbrev pub a_byte : List ℕ → Reading ℕ
a_byte [] = Err TraceLength
a_byte (b ∷ bs) = read b bs

-- two bytes, the most significant first
abbrev pub a_number : List ℕ → Reading ℕ
a_number [] = Err TraceLength
a_number (h ∷ []) = Err TraceLength
a_number (h ∷ l ∷ bs) = read (h * 256 + l) bs

-- how a number is written
abbrev pub two_bytes : ℕ → List ℕ
two_bytes n = n / 256 ∷ n % 256 ∷ []

abbrev pub at_most : ℕ → ℕ → List ℕ → Reading ℕ
at_most most n bs = rule (nat_le n most) (read n bs)

-- a count or a length
abbrev pub a_count : ℕ → List ℕ → Reading ℕ
a_count most bs = then (a_number bs) (at_most most)

abbrev pub a_piece : ℕ → List ℕ → Reading (List ℕ)
a_piece n bs = cond (nat_le n (length bs)) (read (take n bs) (drop n bs)) (Err TraceLength)

abbrev pub begun : {X : Type 0} → Reading X → (X → List ℕ → List X) → List X
begun (Ok r) more = r.value ∷ more r.value r.rest
begun (Err e) more = []

module _ {S X : Type 0} where
  -- n values one after the other, where a state tells of those before
  abbrev pub many : (S → List ℕ → Reading X) → (S → X → S) → ℕ → S → List ℕ → Reading (List X)
  many p next zero s bs = read [] bs
  many p next (suc n) s bs = then (p s bs) (λ x cs. then (many p next n (next s x) cs) (λ xs ds. read (x ∷ xs) ds))

  -- the state after some values
  abbrev pub after : (S → X → S) → S → List X → S
  after next s [] = s
  after next s (x ∷ xs) = after next (next s x) xs

  -- each passes a test, at the state before it
  abbrev pub each : (S → X → Bool) → (S → X → S) → S → List X → Bool
  each ok next s [] = true
  each ok next s (x ∷ xs) = ok s x && each ok next (next s x) xs

  -- those of n values that come before the first that is refused
  abbrev pub readable : (S → List ℕ → Reading X) → (S → X → S) → ℕ → S → List ℕ → List X
  readable p next zero s bs = []
  readable p next (suc n) s bs = begun (p s bs) (λ x cs. readable p next n (next s x) cs)
