-- What an image shows and means, and what filling one answers.
use Rattle.std.specs.Prelude.{ℕ, cond, List, length, Ok, Err, Result, ◌==◌}
use Rattle.std.specs.Str.{bytes_eq}
use Rattle.model.specs.declared.refusal.Refusal.{Refusal}
use Rattle.model.specs.declared.refusal.Refusal.TheVariants.{ImageSize, ImageLayout}
use Rattle.files.specs.Layout.{layout, mapped}
use Rattle.files.specs.declared.image.Image.{Image}

abbrev pub shown : Image → List ℕ
shown i = i.bytes

-- the map that an image means
abbrev pub means : Image → List ℕ
means i = mapped (shown i)

-- the answer to an image's bytes: first their number, then whether they are the layout of the map that they mean
abbrev pub filling : List ℕ → Result (Unit {0}) Refusal
filling bs = cond (length bs == 193) (cond (bytes_eq bs (layout (mapped bs))) (Ok tt) (Err ImageLayout)) (Err ImageSize)
