-- What is told of a line follows from its own entries alone.
use Rattle.std.proofs.Common.{◌≡◌, ℕ, suc, ◌+◌, ◌<◌, Bool, true, false, cond, not, ◌&&◌, ◌||◌, eqb, List, [], ◌∷◌, ◌++◌, length, get_or, take, drop, sym, refl, ap, ◌∙◌, arith}
use Rattle.std.proofs.Math.Seq.{take-suc}
use Rattle.std.proofs.lemmas.List.Elements.{filter-append}
use Rattle.model.specs.Acts.{line_state, read_absent, state_by}
use Rattle.model.specs.Book.{use_of, reads_of, write_of, recorded}
use Rattle.model.specs.Commands.{Want, writes, all_bytes}
use Rattle.model.specs.Contents.{Content, Pool, content}
use Rattle.model.specs.Hazards.{fresh, ended, has_read}
use Rattle.model.specs.declared.command.Command.{Command}
use Rattle.model.specs.declared.record.Standing.TheVariants.{Own}
use Rattle.model.specs.declared.run.Entry.{Entry}
use Rattle.model.specs.declared.run.LineState.{LineState}
use Rattle.model.specs.declared.run.LineState.TheVariants.{Waiting, Reading, Ended}
use Rattle.engine.specs.Nexts.{wanted, spelled}
use Rattle.engine.specs.Owns.{own_in}
use Rattle.engine.specs.declared.next.Next.{Next}
use Rattle.engine.specs.declared.next.Next.TheVariants.{Read, Write, Bad}
use Rattle.engine.specs.declared.next.Text.{Text}
use Rattle.engine.specs.declared.next.Text.TheVariants.{Of, Both, Gathered, Sheets, Verdict}

-- what is told entry by entry, and passes over those of other lines
module _ {Z : Type 0} (l : ℕ) (told : List Entry → Z) (step : Entry → Z → Z) (each : (e : Entry) (es : List Entry) → told (e ∷ es) ≡ step e (told es)) (passes : (e : Entry) (z : Z) → eqb l e.line ≡ false → step e z ≡ z) where
  by_own : (e : Entry) (es own : List Entry) (b : Bool) → eqb l e.line ≡ b → told own ≡ told es → told (cond b (e ∷ own) own) ≡ told (e ∷ es)
  by_own e es own true is same = each e own ∙ ap (step e) same ∙ sym (each e es)
  by_own e es own false is same = same ∙ sym (passes e (told es) is) ∙ sym (each e es)

  own_told : (es : List Entry) → told (own_in l es) ≡ told es
  own_told [] = refl
  own_told (e ∷ es) = by_own e es (own_in l es) (eqb l e.line) refl (own_told es)

module _ (l : ℕ) (es : List Entry) where
  own_ended : ended l (own_in l es) ≡ ended l es
  own_ended = own_told l (ended l) (λ e z. (eqb l e.line && e.wrote) || z) (λ e xs. refl) (λ e z other. ap (λ b. (b && e.wrote) || z) other) es

  own_fresh : fresh l (own_in l es) ≡ fresh l es
  own_fresh = own_told l (fresh l) (λ e z. not (eqb l e.line) && z) (λ e xs. refl) (λ e z other. ap (λ b. not b && z) other) es

  own_absent : read_absent l (own_in l es) ≡ read_absent l es
  own_absent = own_told l (read_absent l) (λ e z. (eqb l e.line && eqb e.number 0) || z) (λ e xs. refl) (λ e z other. ap (λ b. (b && eqb e.number 0) || z) other) es

  pub own_read : (p : Pool) → has_read p l (own_in l es) ≡ has_read p l es
  own_read p =
      own_told l (has_read p l) (λ e z. cond (eqb l e.line) (cond e.wrote z (content p e.number ∷ z)) z) (λ e xs. refl)
      (λ e z other. ap (λ b. cond b (cond e.wrote z (content p e.number ∷ z)) z) other) es

  -- so is the state of the line
  pub own_state : (k : List Content → Want) (p : Pool) → line_state k l p (own_in l es) ≡ line_state k l p es
  own_state k p =
      ap (λ b. by b (fresh l own) (read_absent l own) (has_read p l own)) own_ended
      ∙ ap (λ b. by (ended l es) b (read_absent l own) (has_read p l own)) own_fresh
      ∙ ap (λ b. by (ended l es) (fresh l es) b (has_read p l own)) own_absent
      ∙ ap (by (ended l es) (fresh l es) (read_absent l es)) (own_read p)
    where
      own : List Entry
      own = own_in l es

      by : Bool → Bool → Bool → List Content → LineState
      by a b c xs = cond a Ended (cond b Waiting (cond c Reading (state_by (k xs))))

  -- and its next act
  own_spelled : (p : Pool) (t : Text) → spelled p l (own_in l es) t ≡ spelled p l es t
  own_spelled p (Of m) = refl
  own_spelled p (Both m n) = refl
  own_spelled p Gathered = ap (λ xs. all_bytes (drop 1 xs)) (own_read p)
  own_spelled p (Sheets m) = refl
  own_spelled p (Verdict m n) = refl

  pub own_wanted : (p : Pool) (n : Next) → wanted p l (own_in l es) n ≡ wanted p l es n
  own_wanted p (Read f) = refl
  own_wanted p (Write f t) = ap (writes f) (own_spelled p t)
  own_wanted p Bad = refl

  -- and its record
  pub own_reads : reads_of l (own_in l es) ≡ reads_of l es
  own_reads =
      own_told l (reads_of l) (λ e z. cond (eqb l e.line) (cond e.wrote z (use_of e ∷ z)) z) (λ e xs. refl)
      (λ e z other. ap (λ b. cond b (cond e.wrote z (use_of e ∷ z)) z) other) es

  own_write : write_of l (own_in l es) ≡ write_of l es
  own_write = own_told l (write_of l) (λ e z. cond (eqb l e.line && e.wrote) (use_of e) z) (λ e xs. refl) (λ e z other. ap (λ b. cond (b && e.wrote) (use_of e) z) other) es

  pub own_recorded : (c : Command) → recorded l c (own_in l es) ≡ recorded l c es
  own_recorded c =
      ap (λ us. record { command = c; reads = us; write = write_of l (own_in l es); standing = Own }) own_reads
      ∙ ap (λ u. record { command = c; reads = reads_of l es; write = u; standing = Own }) own_write

-- LISTING THEM: one more entry is listed if it is one of the line
pub own_more : (l k : ℕ) (es : List Entry) (d : Entry) (old new : List Entry) → k < length es → old ≡ own_in l (take k es) → new ≡ old ++ own_in l (get_or es k d ∷ []) → new ≡ own_in l (take (k + 1) es)
own_more l k es d old new within so_far listed =
    let more : suc k ≡ k + 1 = omega arith in
    listed
    ∙ ap (λ own. own ++ own_in l (get_or es k d ∷ [])) so_far
    ∙ sym (filter-append (λ e. eqb l e.line) (take k es) (get_or es k d ∷ []))
    ∙ ap (own_in l) (sym (take-suc es k d within))
    ∙ ap (λ n. own_in l (take n es)) more
