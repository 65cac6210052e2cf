-- Which trace save writes, of a pool and the records of a book.
use Rattle.std.specs.Prelude.{ℕ, ◌+◌, Bool, cond, not, ◌&&◌, List, [], ◌∷◌, ◌++◌, map, length, ◌==◌, nat_le, nat_lt}
use Rattle.std.specs.List.{flat_map, list_all, list_any, position_or_len}
use Rattle.model.specs.Book.{unstruck}
use Rattle.model.specs.Contents.{Pool, holds, content}
use Rattle.model.specs.Records.{Record}
use Rattle.model.specs.Load.{Traced}
use Rattle.model.specs.declared.record.Standing.TheVariants.{Hint}
use Rattle.model.specs.declared.record.Use.{Use}
use Rattle.trace.specs.Format.{count_ok, files_ok, known_command}
use Rattle.trace.specs.Reads.{after}

-- WHICH RECORDS: those that are not struck, whose numbers are all in the pool, and that a file can hold

abbrev pub use_savable : Pool → Use → Bool
use_savable p u = nat_le u.file 63 && holds p u.number

abbrev pub savable : Pool → Record → Bool
savable p r =
    unstruck r.standing
    && (files_ok r.command && (count_ok (length r.reads) && (list_all (use_savable p) r.reads && use_savable p r.write)))

-- no more than 256, and one of a command: the records of every book are so
abbrev pub is_new : List Record → Record → Bool
is_new ss r = not (known_command r.command (map (λ s. s.command) ss)) && nat_lt (length ss) 256

abbrev pub choice : Pool → List Record → Record → List Record
choice p ss r = cond (savable p r && is_new ss r) (ss ++ r ∷ []) ss

-- in the order of the book
abbrev pub chosen : Pool → List Record → List Record
chosen p rs = after (choice p) [] rs

-- WHICH CONTENTS: those that the records name, in order of first use

abbrev pub numbers_in : Record → List ℕ
numbers_in r = map (λ u. u.number) r.reads ++ r.write.number ∷ []

-- the place of a number in a list, counted from 1; one past the last where it is not there
abbrev pub place : ℕ → List ℕ → ℕ
place n ns = position_or_len (λ m. m == n) ns + 1

-- the place of a number that is there, and 0 of one that is not
abbrev pub place_listed : ℕ → List ℕ → ℕ
place_listed n ns = cond (list_any (λ m. m == n) ns) (place n ns) 0

-- the numbers, and after them one more unless it is there
abbrev pub listed : List ℕ → ℕ → List ℕ
listed ns n = cond (list_any (λ m. m == n) ns) ns (ns ++ n ∷ [])

abbrev pub order : List Record → List ℕ
order rs = after listed [] (flat_map numbers_in rs)

-- WHICH INDICES: the places in that order

abbrev pub indexed_use : List ℕ → Use → Use
indexed_use ns u = record { file = u.file; number = place u.number ns }

abbrev pub indexed : List ℕ → Record → Record
indexed ns r = record { command = r.command; reads = map (indexed_use ns) r.reads; write = indexed_use ns r.write; standing = Hint }

abbrev pub traced : Pool → List ℕ → List Record → Traced
traced p ns rs = record { contents = map (content p) ns; records = map (indexed ns) rs }

abbrev pub to_save : Pool → List Record → Traced
to_save p rs = traced p (order (chosen p rs)) (chosen p rs)
