-- The names of the commands that are a name alone.
use Rattle.std.specs.Prelude.{ℕ, List, [], ◌∷◌, codes, Option, find}
use Rattle.std.specs.Str.{bytes_eq}
use Rattle.console_lines.specs.declared.plain.Plain.{Plain}
use Rattle.console_lines.specs.declared.plain.Plain.TheVariants.{Help, Lay, Begin, Step, Build, Save, Report, Files, Pool, Log, Book, Image}

abbrev pub name : Plain → List ℕ
name Help = codes "help"
name Lay = codes "lay"
name Begin = codes "begin"
name Step = codes "step"
name Build = codes "build"
name Save = codes "save"
name Report = codes "report"
name Files = codes "files"
name Pool = codes "pool"
name Log = codes "log"
name Book = codes "book"
name Image = codes "image"

-- the command of a name
abbrev pub named : List ℕ → Option Plain
named w = find (λ p. bytes_eq w (name p)) (Help ∷ Lay ∷ Begin ∷ Step ∷ Build ∷ Save ∷ Report ∷ Files ∷ Pool ∷ Log ∷ Book ∷ Image ∷ [])
