-- A new entry meets an earlier one only in the ways that its direction allows.
use Rattle.std.proofs.Common.{◌≡◌, Bool, true, false, List, [], ◌∷◌, None, sym, refl, ap, ◌∙◌}
use Rattle.model.specs.Hazards.{write_write, read_write, speculative_write_read, earliest, hazard_or, hazard}
use Rattle.model.specs.declared.run.Entry.{Entry}
use Rattle.model.specs.declared.run.HazardKind.TheVariants.{WriteWrite, ReadWrite, SpeculativeWriteRead}
use Rattle.engine.specs.Meets.{write_hazard}

-- what no entry passes, none is found by
none_found : (test : Entry → Bool) → ((e : Entry) → test e ≡ false) → (es : List Entry) → earliest test es ≡ None
none_found test none [] = refl
none_found test none (e ∷ es) = rw (none e) (none_found test none es)

pub hazard_of_write : (n : Entry) (es : List Entry) → n.wrote ≡ true → write_hazard n es ≡ hazard n es
hazard_of_write n es w =
    let none = none_found (speculative_write_read n) (λ e. rw w refl) es in
    ap (λ o. hazard_or WriteWrite n (earliest (write_write n) es) (hazard_or ReadWrite n (earliest (read_write n) es) (hazard_or SpeculativeWriteRead n o None))) (sym none)

pub hazard_of_read : (n : Entry) (es : List Entry) → n.wrote ≡ false → hazard_or SpeculativeWriteRead n (earliest (speculative_write_read n) es) None ≡ hazard n es
hazard_of_read n es r =
    let writes = none_found (write_write n) (λ e. rw r refl) es in
    let reads = none_found (read_write n) (λ e. rw r refl) es in
    let rest = hazard_or SpeculativeWriteRead n (earliest (speculative_write_read n) es) None in
    ap (λ o. hazard_or ReadWrite n o rest) (sym reads)
    ∙ ap (λ o. hazard_or WriteWrite n o (hazard_or ReadWrite n (earliest (read_write n) es) rest)) (sym writes)
