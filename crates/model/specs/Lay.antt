-- LAY puts starting contents into the pool and sets their files.
use Rattle.std.specs.Prelude.{◌≡◌, ◌∷◌}
use Rattle.model.specs.Words.{cond, List, [], ℕ, eqb, set, Option, Some, None, Result, Ok, Refusal}
use Rattle.model.specs.declared.refusal.Refusal.TheVariants.{NoRoomToLay}
use Rattle.model.specs.Contents.{Content, Pool, given, put}
use Rattle.model.specs.World.{World, stocked, Refused, UnlessOpen}

-- A content that a file is to have.
pub record Have : Type 0 where
  pub file : ℕ
  pub bytes : Content

pub record Stock : Type 0 where
  pub files : List ℕ
  pub pool : Pool

-- in order; none if the pool refuses one of them
abbrev pub laid : List Have → List ℕ → Pool → Option Stock
laid [] fs p = Some (record { files = fs; pool = p })
laid (h ∷ hs) fs p = cond (eqb (given p h.bytes) 0) None (laid hs (set fs h.file (given p h.bytes)) (put p h.bytes))

abbrev pub Laid : Option Stock → Result (Unit {0}) Refusal → World → World → Type 0
Laid None a w v = Refused NoRoomToLay a w v
Laid (Some s) a w v = (a ≡ Ok tt) × (v ≡ stocked w s.files s.pool w.records)

abbrev pub Lays : List Have → Result (Unit {0}) Refusal → World → World → Type 0
Lays hs a w v = UnlessOpen w.is_open a w v (Laid (laid hs w.files w.pool) a w v)
