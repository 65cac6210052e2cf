-- A loop that puts contents: what is left gives the pool, and what the pool had stays.
use Rattle.std.proofs.Common.{◌≡◌, ℕ, List, map, drop, Bor}
use Rattle.model.specs.Contents.{Pool}
use Rattle.model.specs.Load.{puts}
use Rattle.model.proofs.Growth.{Began}

abbrev pub Ref : Type 0
Ref = Bor (List ℕ)

-- what is left gives the pool, which grew from p
pub record Left (cs : List Ref) (p q : Pool) (i : ℕ) : Type 0 where
  pub rest : puts (map (λ x. x.now) (drop i cs)) q ≡ puts (map (λ x. x.now) cs) p
  pub grown : Began p q
