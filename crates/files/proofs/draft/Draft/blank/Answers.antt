-- Zeros are the image with no entries.
use Rattle.std.proofs.Common.{refl}
use Rattle.files.proofs.Layouts.{blank}
use Rattle.files.proofs.draft.Draft.blank.Goals as goal

pub returns : goal.returns
returns c = λ ns. blank ns _ refl
