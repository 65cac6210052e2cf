-- When a record is true.
use Rattle.std.specs.Prelude.{◌&&◌, ◌∷◌, ◌++◌}
use Rattle.model.specs.Words.{Bool, false, List, [], ℕ, eqb, bytes_eq}
use Rattle.model.specs.Contents.{Content, Pool, holds, content}
use Rattle.model.specs.Records.{Use, Record}
use Rattle.model.specs.Commands.{Want, reads, writes, bad, want}

abbrev pub asks : Want → ℕ → Bool
asks (reads g) f = eqb f g
asks (writes g x) f = false
asks bad f = false

abbrev pub makes : Want → ℕ → Content → Bool
makes (reads g) f y = false
makes (writes g x) f y = eqb f g && bytes_eq y x
makes bad f y = false

-- having read xs, a command that wants k goes on by exactly these reads and that write
abbrev pub follows : Pool → (List Content → Want) → List Content → List Use → Use → Bool
follows p k xs [] u = holds p u.number && makes (k xs) u.file (content p u.number)
follows p k xs (r ∷ rs) u = holds p r.number && (asks (k xs) r.file && follows p k (xs ++ content p r.number ∷ []) rs u)

-- The command, given the recorded contents one after the other, reads exactly those files in that order and writes exactly that file and content.
abbrev pub true_in : Pool → Record → Bool
true_in p r = follows p (want r.command) [] r.reads r.write
