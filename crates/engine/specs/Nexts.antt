-- What the answers of `next_of` stand for.
use Rattle.std.specs.Prelude.{ℕ, List, [], ◌∷◌, ◌++◌, length, drop, Some, None, Option}
use Rattle.std.specs.Str.{bytes_eq}
use Rattle.model.specs.declared.run.Entry.{Entry}
use Rattle.model.specs.Commands.{Want, reads, writes, bad, all_bytes, sheets, verdict}
use Rattle.model.specs.Hazards.{has_read}
use Rattle.model.specs.Contents.{Content, Pool, content}
use Rattle.engine.specs.declared.next.Text.{Text}
use Rattle.engine.specs.declared.next.Text.TheVariants.{Of, Both, Gathered, Sheets, Verdict}
use Rattle.engine.specs.declared.next.Next.{Next}
use Rattle.engine.specs.declared.next.Next.TheVariants.{Read, Write, Bad}

abbrev pub spelled : Pool → ℕ → List Entry → Text → Content
spelled p l es (Of m) = content p m
spelled p l es (Both m n) = content p m ++ content p n
spelled p l es Gathered = all_bytes (drop 1 (has_read p l es))
spelled p l es (Sheets m) = sheets (length (content p m))
spelled p l es (Verdict m n) = verdict (bytes_eq (content p m) (content p n))

abbrev pub wanted : Pool → ℕ → List Entry → Next → Want
wanted p l es (Read f) = reads f
wanted p l es (Write f t) = writes f (spelled p l es t)
wanted p l es Bad = bad

-- a gather's next act, by the files that it lists and how many of them it has read
abbrev pub turn_next : ℕ → List ℕ → Next
turn_next b [] = Write b Gathered
turn_next b (f ∷ fs) = Read f

abbrev pub gather_next : ℕ → Option (List ℕ) → ℕ → Next
gather_next b None n = Bad
gather_next b (Some fs) n = turn_next b (drop n fs)
