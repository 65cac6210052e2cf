-- Script order: the plain run that every kept run is held against. It has no book, no policy and no skip.
use Rattle.std.specs.Prelude.{◌∷◌}
use Rattle.model.specs.Words.{cond, List, [], ℕ, zero, suc, Command}
use Rattle.model.specs.Contents.{Content, Pool}
use Rattle.model.specs.Commands.{Want, want}
use Rattle.model.specs.Hazards.{ended}
use Rattle.model.specs.Acts.{State, Outcome, goes, then, act}

-- line l makes its acts until it has ended, at most n of them; the first stop ends it
abbrev pub carry : (List Content → Want) → ℕ → ℕ → State → Outcome
carry k zero l s = goes s
carry k (suc n) l s = cond (ended l s.entries) (goes s) (then (act k l s) (carry k n l))

-- the lines of a script one after another, the first of them line l; no command has more than 17 acts
abbrev pub script : ℕ → List Command → State → Outcome
script l [] s = goes s
script l (c ∷ cs) s = then (carry (want c) 17 l s) (script (suc l) cs)

-- all lines, from files and a pool, with no act made
abbrev pub in_order : List Command → List ℕ → Pool → Outcome
in_order cs fs p = script 0 cs (record { files = fs; pool = p; entries = [] })
