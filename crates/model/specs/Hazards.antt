-- What the log's entries tell: what each line has done, and the hazards of a new act.
use Rattle.std.specs.Prelude.{◌&&◌, ◌∷◌, find}
use Rattle.std.specs.List.{list_any, list_all}
use Rattle.model.specs.Words.{Bool, cond, not, List, [], ℕ, eqb, ltb, Option, Some, None, Entry, HazardKind}
use Rattle.model.specs.declared.run.HazardKind.TheVariants.{WriteWrite, ReadWrite, SpeculativeWriteRead}
use Rattle.model.specs.declared.run.Hazard.{Hazard}
use Rattle.model.specs.Contents.{Content, Pool, content}

-- THE LINES, read off the entries, of which the oldest comes first

-- line l has made no act
abbrev pub fresh : ℕ → List Entry → Bool
fresh l es = list_all (λ e. not (eqb l e.line)) es

-- line l has ended: it made its write
abbrev pub ended : ℕ → List Entry → Bool
ended l es = list_any (λ e. eqb l e.line && e.wrote) es

-- the contents that line l has read
abbrev pub has_read : Pool → ℕ → List Entry → List Content
has_read p l [] = []
has_read p l (e ∷ es) = cond (eqb l e.line) (cond e.wrote (has_read p l es) (content p e.number ∷ has_read p l es)) (has_read p l es)

-- HAZARDS of a new entry n against an earlier entry e for the same file

abbrev pub write_write : Entry → Entry → Bool
write_write n e = n.wrote && (e.wrote && eqb n.file e.file)

abbrev pub read_write : Entry → Entry → Bool
read_write n e = n.wrote && (not e.wrote && eqb n.file e.file)

-- a line reads what a higher line has written already
abbrev pub speculative_write_read : Entry → Entry → Bool
speculative_write_read n e = not n.wrote && (e.wrote && (eqb n.file e.file && ltb n.line e.line))

-- the earliest entry that passes a test
abbrev pub earliest : (Entry → Bool) → List Entry → Option Entry
earliest t es = find t es

-- the hazard with that entry, or else another
abbrev pub hazard_or : HazardKind → Entry → Option Entry → Option Hazard → Option Hazard
hazard_or k n (Some e) h = Some (record { kind = k; file = n.file; earlier = e; later = n })
hazard_or k n None h = h

-- the hazard that is named: write-write is tested first, and within a kind the earliest entry counts
abbrev pub hazard : Entry → List Entry → Option Hazard
hazard n es =
    hazard_or WriteWrite n (earliest (write_write n) es)
    (hazard_or ReadWrite n (earliest (read_write n) es)
    (hazard_or SpeculativeWriteRead n (earliest (speculative_write_read n) es) None))
