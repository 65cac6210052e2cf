-- The starting contents of a script, as they are laid.
use Rattle.std.specs.Prelude.{List, map}
use Rattle.model.specs.Lay.{Have}
use Rattle.script.specs.Text.{Start}

abbrev pub have_of : Start → Have
have_of s = record { file = s.file; bytes = s.content }

abbrev pub haves_of : List Start → List Have
haves_of ss = map have_of ss
