-- Taking contents into a pool, and records into a book as hints: all or nothing.
use Rattle.std.specs.Prelude.{ℕ, cond, not, List, map, length, Some, None, Ok, Err, Option, Result, nat_le}
use Rattle.std.specs.List.{count_by}
use Rattle.model.specs.Contents.{Pool}
use Rattle.model.specs.Records.{Record}
use Rattle.model.specs.declared.refusal.Refusal.{Refusal}
use Rattle.model.specs.declared.refusal.Refusal.TheVariants.{NoRoomToLoad}
use Rattle.trace.specs.Format.{known_command}

-- what putting contents tells, and the pool after it
abbrev pub put_told : Option Pool → Result (Unit {0}) Refusal
put_told (Some q) = Ok tt
put_told None = Err NoRoomToLoad

abbrev pub put_after : Option Pool → Pool → Pool
put_after (Some q) p = q
put_after None p = p

-- what taking hints tells, and the book after it, by the records that it is to have and its places
abbrev pub hints_told : List Record → ℕ → Result (Unit {0}) Refusal
hints_told rs places = cond (nat_le (length rs) places) (Ok tt) (Err NoRoomToLoad)

abbrev pub hints_after : List Record → ℕ → List Record → List Record
hints_after rs places old = cond (nat_le (length rs) places) rs old

-- how many records have a command that a book does not have
abbrev pub fresh : List Record → List Record → ℕ
fresh rs qs = count_by (λ q. not (known_command q.command (map (λ r. r.command) rs))) qs
