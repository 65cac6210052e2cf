-- AUDIT replays the record in a place: a true one becomes own, another struck.
use Rattle.std.specs.Prelude.{◌≡◌, ◌∷◌}
use Rattle.model.specs.Words.{cond, List, [], ℕ, zero, suc, set, Option, Some, None, Result, Ok, Refusal}
use Rattle.model.specs.declared.refusal.Refusal.TheVariants.{NoSuchRecord}
use Rattle.model.specs.declared.record.Standing.TheVariants.{Own, Struck}
use Rattle.model.specs.Contents.{Pool}
use Rattle.model.specs.Records.{Record, Standing}
use Rattle.model.specs.Truth.{true_in}
use Rattle.model.specs.World.{World, stocked, Refused, UnlessOpen}

abbrev pub finding : Pool → Record → Standing
finding p r = cond (true_in p r) Own Struck

abbrev pub judged : Pool → Record → Record
judged p r = record { command = r.command; reads = r.reads; write = r.write; standing = finding p r }

abbrev pub at_place : {A : Type 0} → List A → ℕ → Option A
at_place [] k = None
at_place (r ∷ rs) zero = Some r
at_place (r ∷ rs) (suc k) = at_place rs k

abbrev pub Audited : ℕ → Option Record → Result Standing Refusal → World → World → Type 0
Audited k None a w v = Refused NoSuchRecord a w v
Audited k (Some r) a w v =
    (a ≡ Ok (finding w.pool r)) × (v ≡ stocked w w.files w.pool (set w.records k (judged w.pool r)))

abbrev pub Audits : ℕ → Result Standing Refusal → World → World → Type 0
Audits k a w v = UnlessOpen w.is_open a w v (Audited k (at_place w.records k) a w v)
