-- The loop begins with a blank image, and ends when every file had its turn.
use Rattle.std.proofs.Common.{◌≡◌, ℕ, subst, arith}
use Rattle.files.specs.Drafts.{Drafted}
use Rattle.files.proofs.codec.encoded.Goals as goal

pub loop-file-init : goal.loop-file-init
loop-file-init c = c.blank-draft.ensures c.args.numbers

pub finished-requires : goal.finished-requires
finished-requires c =
    let all : c.loop-file.file ≡ 64 = omega arith in
    let P : ℕ → Type 0 = λ f. Drafted c.loop-file.draft c.args.numbers f in
    subst P all c.loop-file.invariant
