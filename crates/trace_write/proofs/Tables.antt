-- The tables that a save makes hold what is to be saved, and what it writes is accepted.
use Rattle.std.proofs.Common.{◌≡◌, ℕ, ◌+◌, Bool, true, false, leb, List, [], map, length, take, drop, IfOk, Ok, Err, Result, sym, refl, ap, ◌∙◌, subst}
use Rattle.std.proofs.lemmas.List.{take_at}
use Rattle.std.proofs.lemmas.Bool.{cond-true, cond-false}
use Rattle.std.specs.List.{AllByRecursion}
use Rattle.model.specs.Contents.{Pool}
use Rattle.model.specs.Records.{Record, said}
use Rattle.model.specs.Load.{Traced}
use Rattle.model.specs.declared.record.Record as Code
use Rattle.model.specs.declared.refusal.Refusal.{Refusal}
use Rattle.model.specs.declared.refusal.Refusal.TheVariants.{SaveBufferShort}
use Rattle.pool.specs.Sound.{Sound}
use Rattle.output.specs.Writes.{laid}
use Rattle.trace.specs.Format.{decoded, encoded}
use Rattle.trace.specs.Reads.{each}
use Rattle.trace_write.proofs.Lawfuls.{chosen_are}
use Rattle.trace_write.proofs.Selects.{chosen_ok, with_command, all_named}
use Rattle.trace_write.specs.Puts.{saved, after_save}
use Rattle.trace_write.specs.Rooms.{Named}
use Rattle.trace_write.specs.Saves.{chosen, order, traced, to_save}

module _ (p : Pool) (sound : Sound p) (rs : List Record) (kept : List Code.Record) (e : map said kept ≡ chosen p rs) where
  pub kept_named : AllByRecursion Named kept
  kept_named = all_named p sound [] kept (subst (λ ss. each (chosen_ok p) with_command [] ss ≡ true) (sym e) (chosen_are p sound rs).0)

  pub tables_are : (ns : List ℕ) → ns ≡ order (map said kept) → traced p ns (map said kept) ≡ to_save p rs
  tables_are ns f = ap (λ l. traced p l (map said kept)) (f ∙ ap order e) ∙ ap (traced p (order (chosen p rs))) e

-- what is written is read back
module _ (t : Traced) (bs : List ℕ) where
  pub accepted : decoded (encoded t) ≡ Ok t → (r : Result ℕ Refusal) (ds : List ℕ) → r ≡ saved t bs → ds ≡ after_save t bs → IfOk r (λ n. decoded (take n ds) ≡ Ok t)
  accepted back r ds e f = by (leb (length (encoded t)) (length bs)) refl
    where
      by : (b : Bool) → leb (length (encoded t)) (length bs) ≡ b → IfOk r (λ n. decoded (take n ds) ≡ Ok t)
      by true h =
          let answer = e ∙ cond-true (leb (length (encoded t)) (length bs)) (Ok (length (encoded t))) (Err SaveBufferShort) h in
          let whole = f ∙ cond-true (leb (length (encoded t)) (length bs)) (laid 0 (encoded t) bs) bs h in
          let front = ap (take (length (encoded t))) whole ∙ take_at (encoded t) (drop (0 + length (encoded t)) bs) (length (encoded t)) refl in
          subst (λ q. IfOk q (λ n. decoded (take n ds) ≡ Ok t)) (sym answer) (ap decoded front ∙ back)
      by false h =
          let answer = e ∙ cond-false (leb (length (encoded t)) (length bs)) (Ok (length (encoded t))) (Err SaveBufferShort) h in
          subst (λ q. IfOk q (λ n. decoded (take n ds) ≡ Ok t)) (sym answer) tt
