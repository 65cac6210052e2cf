-- What holds of reading and writing a trace.
use Rattle.std.specs.Prelude.{◌≡◌, ℕ, ◌<◌, true, List, Ok}
use Rattle.std.specs.List.{AllByRecursion}
use Rattle.model.specs.Load.{Traced}
use Rattle.trace.specs.Format.{decoded, encoded, lawful}

abbrev pub Bytes : List ℕ → Type 0
Bytes bs = AllByRecursion (λ b. b < 256) bs

-- an accepted file is what its trace is written as
abbrev pub WrittenBack : Type 0
WrittenBack = (bs : List ℕ) (t : Traced) → Bytes bs → decoded bs ≡ Ok t → encoded t ≡ bs

-- an accepted file holds a lawful trace
abbrev pub OnlyLawful : Type 0
OnlyLawful = (bs : List ℕ) (t : Traced) → Bytes bs → decoded bs ≡ Ok t → lawful t ≡ true

-- each lawful trace is read back
abbrev pub ReadBack : Type 0
ReadBack = (t : Traced) → lawful t ≡ true → decoded (encoded t) ≡ Ok t
