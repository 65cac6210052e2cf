-- What holds of each script.
use Rattle.std.specs.Prelude.{◌≡◌, ℕ, ◌<◌, ◌≤◌, [], length, Some, Ok, Err, Result, slice_index_or}
use Rattle.std.specs.List.{AllByRecursion, slice_get}
use Rattle.model.specs.declared.command.Command.{Command}
use Rattle.script.specs.Text.{Meaning, Start}

-- a content that can be put, for a file
abbrev pub Starts : Start → Type 0
Starts h = (h.file < 64) × (length h.content ≤ 4096)

-- four files
abbrev pub Acts : Command → Type 0
Acts k = (k.a < 64) × (k.b < 64) × (k.c < 64) × (k.d < 64)

-- a label has at most 16 bytes
abbrev pub LabelsShort : Meaning → Type 0
LabelsShort m = (i : ℕ) → length (slice_index_or m.labels i []) ≤ 16

-- no two files have one label
abbrev pub LabelsApart : Meaning → Type 0
LabelsApart m = (i j : ℕ) → (0 < length (slice_index_or m.labels i [])) × (slice_index_or m.labels i [] ≡ slice_index_or m.labels j []) → i ≡ j

-- each starting content, and each line
abbrev pub StartsFit : Meaning → Type 0
StartsFit m = (k : ℕ) (h : Start) → Some h ≡ slice_get m.haves k → Starts h

abbrev pub ActsFit : Meaning → Type 0
ActsFit m = (k : ℕ) (c : Command) → Some c ≡ slice_get m.commands k → Acts c

pub record Sound (m : Meaning) : Type 0 where
  pub labels : length m.labels ≡ 64
  pub short : LabelsShort m
  pub apart : LabelsApart m
  pub haves : length m.haves ≤ 64
  pub commands : length m.commands ≤ 64
  pub starts : AllByRecursion Starts m.haves
  pub acts : AllByRecursion Acts m.commands

-- a text that is not refused gives a sound script
abbrev pub Holds : {E : Type 0} → Result Meaning E → Type 0
Holds (Ok m) = Sound m
Holds (Err e) = Unit {0}
