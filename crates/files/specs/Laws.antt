-- What is always so of an image, and the law of its layout.
use Rattle.std.specs.Prelude.{◌≡◌, ℕ, List}
use Rattle.files.specs.Layout.{Map, layout, mapped}

-- bytes are the layout of the map that they mean
abbrev pub Laid : List ℕ → Type 0
Laid bs = bs ≡ layout (mapped bs)

-- THE ROUND TRIP: the layout of a map means that map, so no two maps have one layout
abbrev pub RoundTrip : Type 0
RoundTrip = (ns : List ℕ) → Map ns → mapped (layout ns) ≡ ns
