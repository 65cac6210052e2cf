-- In a run that has not stopped, each file that was read still has the number that was read.
use Rattle.std.proofs.Common.{◌≡◌, ℕ, suc, ◌<◌, Bool, true, false, cond, not, ◌&&◌, eqb, List, [], ◌∷◌, ◌++◌, length, get_or, set, None, sym, refl, ◌∙◌, ⊎_elim, arith, get_or-set_other}
use Rattle.std.proofs.lemmas.Bool.{both_ways, or_parts, and_from, eqb-false, eq-eqb}
use Rattle.model.specs.declared.run.Entry.{Entry}
use Rattle.model.specs.declared.answers.Stepped.{Stepped}
use Rattle.model.specs.Commands.{wants}
use Rattle.model.specs.Acts.{State, Outcome, goes, stops, act}
use Rattle.model.specs.Book.{use_of, reads_of}
use Rattle.model.specs.Policies.{Asked}
use Rattle.model.specs.World.{World, state, lines}
use Rattle.model.specs.Begin.{Ticket}
use Rattle.model.specs.Step.{match, Worked, work, after_work}
use Rattle.model.specs.Past.{Past, Found, found}
use Rattle.model.proofs.Entries.{clashes, hit, met_quiet}
use Rattle.model.proofs.Correspond.{known_is}
use Rattle.model.proofs.Script.{ReadAct, WriteAct, was}
use Rattle.model.proofs.Changes.{open_law}
use Rattle.model.proofs.Sound.{Going, going_act, carry_keeps, sound, work_is, left_parts}

abbrev pub Current : List ℕ → List Entry → Type 0
Current fs [] = Unit {0}
Current fs (e ∷ es) = (e.wrote ≡ false → get_or fs e.file 0 ≡ e.number) × Current fs es

current_more : (fs : List ℕ) (es : List Entry) (e : Entry) → Current fs es → (e.wrote ≡ false → get_or fs e.file 0 ≡ e.number) → Current fs (es ++ e ∷ [])
current_more fs [] e h k = (k, tt)
current_more fs (d ∷ es) e h k = (h.0, current_more fs es e h.1 k)

-- a write that meets no read changes no file that was read
current_set : (fs : List ℕ) (n : Entry) → n.wrote ≡ true → (es : List Entry) → clashes n es ≡ false → Current fs es → Current (set fs n.file n.number) es
current_set fs n w [] q h = tt
current_set fs n w (e ∷ es) q h = let a = or_parts (hit n e) (clashes n es) q in (here a.0, current_set fs n w es a.1 h.1)
  where
    apart : (b c : Bool) → n.wrote ≡ b → b ≡ true → e.wrote ≡ c → c ≡ false → hit n e ≡ false → eqb n.file e.file ≡ false
    apart b c i j k m q = let x = or_parts (n.wrote && (e.wrote && eqb n.file e.file)) _ q in rw (i, j, k, m) at (or_parts (n.wrote && (not e.wrote && eqb n.file e.file)) _ x.1).0

    here : hit n e ≡ false → e.wrote ≡ false → get_or (set fs n.file n.number) e.file 0 ≡ e.number
    here q r = get_or-set_other fs n.file e.file n.number 0 (λ i. eqb-false _ _ (apart n.wrote e.wrote refl w refl r q) (sym i)) ∙ h.0 r

pub match_current : (fs : List ℕ) (l : ℕ) (es : List Entry) → Current fs es → match fs (reads_of l es) ≡ true
match_current fs l [] h = refl
match_current fs l (e ∷ es) h = by (eqb l e.line) e.wrote refl (match_current fs l es h.1)
  where
    by : (b c : Bool) → e.wrote ≡ c → match fs (reads_of l es) ≡ true → match fs (cond b (cond c (reads_of l es) (use_of e ∷ reads_of l es)) (reads_of l es)) ≡ true
    by true true w ih = ih
    by true false w ih = and_from _ _ (eq-eqb _ _ (h.0 w)) ih
    by false c w ih = ih

-- ONE STEP

current_act : (b : Found) (l : ℕ) (s r : State) → Going b s → Current s.files s.entries → act (wants b.commands l) l s ≡ goes r → Current r.files r.entries
current_act b l s r g h e = ⊎_elim read write (was b.commands l s r e)
  where
    read : ReadAct b.commands l s r → Current r.files r.entries
    read a = rw a.is (current_more s.files s.entries _ h (λ _. sym (a.now ∙ known_is s.pool _ (g.corresponds.filed a.file))))

    write : WriteAct b.commands l s r → Current r.files r.entries
    write a =
        let n : Entry = record { line = l; wrote = true; file = a.file; number = suc a.number } in
        rw a.is (current_more _ s.entries n (current_set s.files n refl s.entries (met_quiet n s.entries a.quiet) h) (λ w. absurd (both_ways true w refl)))

abbrev Held : World → Type 0
Held w = w.notes.stop ≡ None → Current w.files w.entries

module _ {w : World} (p : Past w) (v : World) (t : Ticket) (a : Asked) (st : Stepped) (d : Worked t a st w v) (ih : Current w.files w.entries) where
  abbrev l : ℕ
  l = st.line

  current_step : Held v
  current_step = rw d.world (by (work w l) refl)
    where
      inside : l < length (found p).commands
      inside = rw ((sound p).open_run d.is_open).commands at (left_parts (lines w) w.entries l (d.answer.member d.leads)).0

      gone : (s : State) → work w l ≡ goes s → Current s.files s.entries
      gone s e =
          let b = found p in
          let o = (sound p).open_run d.is_open in
          let g = o.going d.going in
          ⊎_elim
          (λ i. current_act b l (state w) s g ih (sym i ∙ e))
          (λ i. (carry_keeps (λ u. Going b u × Current u.files u.entries) (wants b.commands l) l (λ u r h still j. (going_act b l u r h.0 inside still j, current_act b l u r h.0 h.1 j)) 17 (state w) s (g, ih) (sym i ∙ e)).1)
          (work_is w b o l)

      by : (u : Outcome) → work w l ≡ u → Held (after_work w l u)
      by (stops s y) e = λ j. let z : ◌≡◌ {A = ℕ} 0 1 = cc in absurd (omega arith)
      by (goes s) e = λ _. gone s e

-- ANY CALL

pub current : {w : World} → Past w → w.is_open ≡ true → w.notes.stop ≡ None → Current w.files w.entries
current = open_law Held (λ w cs e few _. tt) (λ w p v t a st d h. current_step p v t a st d (h d.going))
