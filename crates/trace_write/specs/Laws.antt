-- What is saved is accepted, and brings its records back; and a file that is taken in and saved gives its own bytes.
use Rattle.std.specs.Prelude.{◌≡◌, ℕ, List, [], map, Some, Ok, Option}
use Rattle.model.specs.Contents.{Content, Pool, told}
use Rattle.model.specs.Records.{Record}
use Rattle.model.specs.Load.{Traced, puts, hints}
use Rattle.model.specs.declared.command.Command.{Command}
use Rattle.model.specs.declared.record.Standing.TheVariants.{Hint}
use Rattle.model.specs.declared.record.Use.{Use}
use Rattle.pool.specs.Sound.{Sound}
use Rattle.trace.specs.Format.{decoded, encoded}
use Rattle.trace.specs.Laws.{Bytes}
use Rattle.trace_write.specs.Saves.{chosen, to_save}

-- what is saved is accepted, and means the records saved
abbrev pub SavedAccepted : Type 0
SavedAccepted = (p : Pool) (rs : List Record) → Sound p → decoded (encoded (to_save p rs)) ≡ Ok (to_save p rs)

-- p is the empty pool; q is the pool that takes all the contents
abbrev pub SavedAgain : Type 0
SavedAgain =
    (bs : List ℕ) (t : Traced) (p q : Pool)
    → Bytes bs
    → decoded bs ≡ Ok t
    → p.contents ≡ []
    → puts t.contents p ≡ Some q
    → encoded (to_save q (hints t.contents q t.records [])) ≡ bs

-- WHAT A RECORD SAYS IN BYTES: its command, what it read in order, and what it wrote

-- a file, and its content
pub record Seen : Type 0 where
  pub file : ℕ
  pub bytes : Option Content

pub record Shown : Type 0 where
  pub command : Command
  pub reads : List Seen
  pub write : Seen

abbrev pub seen : Pool → Use → Seen
seen p u = record { file = u.file; bytes = told p u.number }

abbrev pub shown : Pool → Record → Shown
shown p r = record { command = r.command; reads = map (seen p) r.reads; write = seen p r.write }

-- The contents and records of a saved file, taken into an empty pool and an empty book, are the records that were
-- saved, content for content, as hints.
-- e is the empty pool; q is the pool that takes all the contents.
abbrev pub BroughtBack : Type 0
BroughtBack =
    (p : Pool) (rs : List Record) (e q : Pool)
    → Sound p
    → e.contents ≡ []
    → puts (to_save p rs).contents e ≡ Some q
    → let hs = hints (to_save p rs).contents q (to_save p rs).records [] in
    (map (shown q) hs ≡ map (shown p) (chosen p rs)) × (map (λ r. r.standing) hs ≡ map (λ r. Hint) (chosen p rs))

-- A FILE THAT WAS LOADED into an empty pool and an empty book, which are q and rs then: saved, it gives its own bytes;
-- and where it was saved from a pool p and records ss, what was saved comes back, content for content, as hints.
pub record RoundTrip (bs : List ℕ) (q : Pool) (rs : List Record) : Type 0 where
  pub again : encoded (to_save q rs) ≡ bs
  pub back :
      (p : Pool) (ss : List Record) → Sound p → decoded bs ≡ Ok (to_save p ss)
      → (map (shown q) rs ≡ map (shown p) (chosen p ss)) × (map (λ r. r.standing) rs ≡ map (λ r. Hint) (chosen p ss))
