-- What a read comes to.
use Rattle.std.proofs.Common.{arith, ◌≡◌, ℕ, true, false, eqb, List, [], ◌∷◌, ◌++◌, get_or, Some, None, Option, Ok, sym, refl, ap, ◌∙◌}
use Rattle.std.proofs.lemmas.Bool.{cond-true, cond-false, eq-eqb, ne_eqb}
use Rattle.model.specs.declared.command.Command.{Command}
use Rattle.model.specs.declared.run.Entry.{Entry}
use Rattle.model.specs.declared.run.Fault.TheVariants.{Absent, BadList}
use Rattle.model.specs.declared.run.Hazard as Met
use Rattle.model.specs.Acts.{State, Outcome, goes, stops, stop_at, tested, noted, reading, attempt}
use Rattle.model.specs.Commands.{Want, reads, bad, want, is_bad}
use Rattle.model.specs.Hazards.{has_read, hazard}
use Rattle.model.specs.Contents.{Pool, content, known}
use Rattle.model.proofs.Script.{has_read_more}
use Rattle.engine.specs.Nexts.{wanted}
use Rattle.engine.specs.States.{met}
use Rattle.engine.specs.declared.next.Next.{Next}
use Rattle.engine.specs.declared.next.Next.TheVariants.{Read, Write, Bad}

-- one read more
pub has_read_one : (p : Pool) (l f n : ℕ) (es : List Entry) → has_read p l (es ++ (record { line = l; wrote = false; file = f; number = n }) ∷ []) ≡ has_read p l es ++ content p n ∷ []
has_read_one p l f n es =
    has_read_more p l es (record { line = l; wrote = false; file = f; number = n } ∷ [])
    ∙ ap (λ xs. has_read p l es ++ xs) (cond-true (eqb l l) (content p n ∷ []) [] (eq-eqb l l refl))

pub fit : (p : Pool) (l : ℕ) (es : List Entry) (r : Next) → (r ≡ Bad → ⊥) → is_bad (wanted p l es r) ≡ false
fit p l es (Read f) h = refl
fit p l es (Write f t) h = refl
fit p l es Bad h = absurd (h refl)

untested : (l : ℕ) (s : State) (o : Option Met.Hazard) (t : Outcome) → None ≡ o → t ≡ tested l s o t
untested l s o t e = ap (λ q. tested l s q t) e

-- a read that meets no hazard, of a content that is there
module _ (l : ℕ) (e : Entry) (s t : State) (w : Want) (same : t ≡ noted e s) (none : None ≡ hazard e s.entries) (here : e.number ≡ 0 → ⊥) where
  pub reading_bad : true ≡ is_bad w → stops t (stop_at l BadList) ≡ reading l s e w
  reading_bad u =
      ap (λ q. stops q (stop_at l BadList)) same
      ∙ sym (cond-true (is_bad w) (stops (noted e s) (stop_at l BadList)) (goes (noted e s)) (sym u))
      ∙ sym (cond-false (eqb e.number 0) (stops (noted e s) (stop_at l Absent)) _ (ne_eqb e.number 0 here))
      ∙ untested l (noted e s) (hazard e s.entries) _ none

  pub reading_goes : false ≡ is_bad w → goes t ≡ reading l s e w
  reading_goes u =
      ap goes same
      ∙ sym (cond-false (is_bad w) (stops (noted e s) (stop_at l BadList)) (goes (noted e s)) (sym u))
      ∙ sym (cond-false (eqb e.number 0) (stops (noted e s) (stop_at l Absent)) _ (ne_eqb e.number 0 here))
      ∙ untested l (noted e s) (hazard e s.entries) _ none

-- a line that goes on met no hazard
pub unmet : (l : ℕ) (o : Option Met.Hazard) (x : Unit {0}) → Ok x ≡ met l o → None ≡ o
unmet l None x e = refl
unmet l (Some h) x e = let z : ◌≡◌ {A = ℕ} 0 1 = cc in absurd (omega arith)

abbrev pub entry_of : ℕ → ℕ → ℕ → Entry
entry_of l f n = record { line = l; wrote = false; file = f; number = n }

-- the same by the parts: n is the number that was read, and `later` the entries after
module _ (c : Command) (l f n : ℕ) (fs : List ℕ) (p : Pool) (es later slice : List Entry) (number : n ≡ known p (get_or fs f 0)) (none : None ≡ hazard (entry_of l f n) es) (more : later ≡ es ++ entry_of l f n ∷ []) (all : slice ≡ later) (here : n ≡ 0 → ⊥) where
  abbrev before : State
  before = record { files = fs; pool = p; entries = es }

  abbrev after : State
  after = record { files = fs; pool = p; entries = later }

  next_reads : want c (has_read p l slice) ≡ want c (has_read p l es ++ content p n ∷ [])
  next_reads = ap (λ q. want c (has_read p l q)) (all ∙ more) ∙ ap (want c) (has_read_one p l f n es)

  at_number : reading l before (entry_of l f n) (want c (has_read p l es ++ content p n ∷ [])) ≡ attempt (want c) l before (has_read p l es) (reads f)
  at_number = ap (λ k. reading l before (entry_of l f k) (want c (has_read p l es ++ content p k ∷ []))) number

  same_after : after ≡ noted (entry_of l f n) before
  same_after = ap (λ q. record { files = fs; pool = p; entries = q }) more

  pub read_bad : bad ≡ want c (has_read p l slice) → stops after (stop_at l BadList) ≡ attempt (want c) l before (has_read p l es) (reads f)
  read_bad b = reading_bad l (entry_of l f n) before after _ same_after none here (ap is_bad (b ∙ next_reads)) ∙ at_number

  pub read_goes : (r : Next) → (r ≡ Bad → ⊥) → wanted p l slice r ≡ want c (has_read p l slice) → goes after ≡ attempt (want c) l before (has_read p l es) (reads f)
  read_goes r h b = reading_goes l (entry_of l f n) before after _ same_after none here (sym (fit p l slice r h) ∙ ap is_bad (b ∙ next_reads)) ∙ at_number
