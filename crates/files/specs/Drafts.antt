-- An image while its entries are written, file by file.
use Rattle.std.specs.Prelude.{◌≡◌, ℕ, suc, ◌+◌, ◌*◌, ◌≤◌, List, ◌∷◌, length, take}
use Rattle.files.specs.Layout.{entries, present, padded}
use Rattle.files.specs.declared.draft.Draft.{Draft}

-- it has the entries of the files below f
pub record Drafted (d : Draft) (ns : List ℕ) (f : ℕ) : Type 0 where
  pub bytes : d.bytes ≡ padded 193 (0 ∷ entries 0 (take f ns))
  pub at : d.at ≡ suc (length (entries 0 (take f ns)))
  pub count : d.count ≡ present (take f ns)
  pub room : d.at ≤ 3 * f + 1
  pub few : d.count ≤ f
