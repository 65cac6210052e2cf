-- What laying tells, and the files and the pool after it.
use Rattle.std.specs.Prelude.{ℕ, List, Some, None, Ok, Err, Option, Result}
use Rattle.model.specs.Contents.{Pool}
use Rattle.model.specs.Lay.{Stock}
use Rattle.model.specs.declared.refusal.Refusal.{Refusal}
use Rattle.model.specs.declared.refusal.Refusal.TheVariants.{NoRoomToLay}

abbrev pub lay_told : Option Stock → Result (Unit {0}) Refusal
lay_told (Some s) = Ok tt
lay_told None = Err NoRoomToLay

abbrev pub files_laid : Option Stock → List ℕ → List ℕ
files_laid (Some s) fs = s.files
files_laid None fs = fs

abbrev pub pool_laid : Option Stock → Pool → Pool
pool_laid (Some s) p = s.pool
pool_laid None p = p
