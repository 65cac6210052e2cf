-- LOAD puts the contents of a trace file into the pool, and takes its records into the book as hints.
use Rattle.std.specs.Prelude.{◌≡◌, ◌∷◌, ◌-◌}
use Rattle.model.specs.Words.{Bool, true, false, cond, List, [], map, eqb, leb, length, get_or, Option, Some, None, Result, Ok, Err, Refusal}
use Rattle.model.specs.declared.refusal.Refusal.TheVariants.{NoRoomToLoad}
use Rattle.model.specs.declared.record.Standing.TheVariants.{Hint}
use Rattle.model.specs.Contents.{Content, Pool, find, given, put}
use Rattle.model.specs.Records.{Use, Record}
use Rattle.model.specs.Book.{hint}
use Rattle.model.specs.World.{World, stocked, Refused, UnlessOpen}

-- What the bytes of a trace file mean: contents, and records that name them by their places in that list, counted from 1.
pub record Traced : Type 0 where
  pub contents : List Content
  pub records : List Record

-- all contents put in order; none if the pool refuses one of them
abbrev pub puts : List Content → Pool → Option Pool
puts [] p = Some p
puts (x ∷ xs) p = cond (eqb (given p x) 0) None (puts xs (put p x))

-- the number that a loaded content has in the pool
abbrev pub numbered : List Content → Pool → Use → Use
numbered xs p u = record { file = u.file; number = find (get_or xs (u.number - 1) []) p.contents }

abbrev pub hinted : List Content → Pool → Record → Record
hinted xs p r = record { command = r.command; reads = map (numbered xs p) r.reads; write = numbered xs p r.write; standing = Hint }

abbrev pub hints : List Content → Pool → List Record → List Record → List Record
hints xs p [] rs = rs
hints xs p (q ∷ qs) rs = hints xs p qs (hint (hinted xs p q) rs)

-- with that book, if it has the places
abbrev pub Placed : Bool → Pool → List Record → Result (Unit {0}) Refusal → World → World → Type 0
Placed true p rs a w v = (a ≡ Ok tt) × (v ≡ stocked w w.files p rs)
Placed false p rs a w v = Refused NoRoomToLoad a w v

abbrev pub Pooled : Traced → Option Pool → Result (Unit {0}) Refusal → World → World → Type 0
Pooled t None a w v = Refused NoRoomToLoad a w v
Pooled t (Some p) a w v = let rs = hints t.contents p t.records w.records in Placed (leb (length rs) w.book_places) p rs a w v

-- by what the bytes mean, or why they are refused
abbrev pub Loaded : Result Traced Refusal → Result (Unit {0}) Refusal → World → World → Type 0
Loaded (Err r) a w v = Refused r a w v
Loaded (Ok t) a w v = Pooled t (puts t.contents w.pool) a w v

abbrev pub Loads : Result Traced Refusal → Result (Unit {0}) Refusal → World → World → Type 0
Loads b a w v = UnlessOpen w.is_open a w v (Loaded b a w v)
