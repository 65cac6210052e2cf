-- An act or a skip of a line adds entries of that line alone, and never more than 17 in all.
use Rattle.std.proofs.Common.{◌≡◌, ℕ, zero, suc, ◌+◌, ◌<◌, ◌≤◌, Bool, true, false, cond, ◌&&◌, ◌||◌, eqb, ltb, leb, List, [], ◌∷◌, ◌++◌, length, Some, None, Option, sym, refl, ap, ◌∙◌, arith}
use Rattle.std.proofs.lemmas.Bool.{eq-eqb, ne_eqb, lt-ltb, and_from, cond-true}
use Rattle.model.specs.declared.command.Command.{Command}
use Rattle.model.specs.declared.run.Entry.{Entry}
use Rattle.model.specs.declared.run.Hazard as Met
use Rattle.model.specs.declared.run.Fault.TheVariants.{TooLong, Absent, BadList}
use Rattle.model.specs.declared.run.Stop.{Stop}
use Rattle.model.specs.Acts.{State, goes, stops, reached, stop_at, tested, noted, written, reading, writing, attempt, act}
use Rattle.model.specs.Commands.{Want, reads, writes, bad, is_bad, wants}
use Rattle.model.specs.Contents.{Content, Pool, given, put}
use Rattle.model.specs.Hazards.{fresh, ended, has_read, hazard}
use Rattle.model.specs.declared.record.Use.{Use}
use Rattle.model.specs.Step.{entry, skip}
use Rattle.model.proofs.Brief.{brief}
use Rattle.runner.specs.Inner.{all_below, made}
use Rattle.runner.proofs.Made.{made_push, ended_push, fresh_push, below_push, all_reads}

-- the entries fs are es, and more of line l
pub record Only (l : ℕ) (es fs : List Entry) : Type 0 where
  pub made_as : (m : ℕ) → (m ≡ l → ⊥) → made m fs ≡ made m es
  pub ended_as : (m : ℕ) → (m ≡ l → ⊥) → ended m fs ≡ ended m es
  pub fresh_as : (m : ℕ) → (m ≡ l → ⊥) → fresh m fs ≡ fresh m es
  pub inside : (n : ℕ) → l < n → all_below n es ≡ true → all_below n fs ≡ true

-- and line l has at most 17, at most 16 before its write
pub record Grown (l : ℕ) (es fs : List Entry) : Type 0 where
  pub only : Only l es fs
  pub few : made l fs + cond (ended l fs) 0 1 ≤ 17

pub only_same : (l : ℕ) (es : List Entry) → Only l es es
only_same l es = record { made_as = λ m d. refl; ended_as = λ m d. refl; fresh_as = λ m d. refl; inside = λ n h b. b }

only_push : (l : ℕ) (es fs : List Entry) (e : Entry) → e.line ≡ l → Only l es fs → Only l es (fs ++ e ∷ [])
only_push l es fs e s o =
    record {
      made_as = λ m d. made_push m fs e ∙ ap (λ b. cond b (suc (made m fs)) (made m fs)) (other m d) ∙ o.made_as m d;
      ended_as = λ m d. ended_push m fs e ∙ ap (λ b. (b && e.wrote) || ended m fs) (other m d) ∙ o.ended_as m d;
      fresh_as = λ m d. fresh_push m fs e ∙ rw (other m d) (o.fresh_as m d);
      inside = λ n h b. below_push n fs e ∙ and_from (ltb e.line n) (all_below n fs) (lt-ltb e.line n (rw s h)) (o.inside n h b);
    }
  where
    other : (m : ℕ) → (m ≡ l → ⊥) → eqb m e.line ≡ false
    other m d = ne_eqb m e.line (λ t. d (t ∙ s))

-- ONE MORE ENTRY of line l
module _ (l : ℕ) (es : List Entry) (e : Entry) (s : e.line ≡ l) where
  same : eqb l e.line ≡ true
  same = eq-eqb l e.line (sym s)

  made_more : made l (es ++ e ∷ []) ≡ suc (made l es)
  made_more = made_push l es e ∙ cond-true (eqb l e.line) (suc (made l es)) (made l es) same

  ended_more : ended l (es ++ e ∷ []) ≡ (e.wrote || ended l es)
  ended_more = ended_push l es e ∙ ap (λ b. (b && e.wrote) || ended l es) same

  few_read : e.wrote ≡ false → ended l es ≡ false → made l es + 2 ≤ 17 → made l (es ++ e ∷ []) + cond (ended l (es ++ e ∷ [])) 0 1 ≤ 17
  few_read r n h = rw (made_more, ended_more ∙ ap (λ b. b || ended l es) r ∙ n) (omega arith)

  few_write : e.wrote ≡ true → made l es + 1 ≤ 17 → made l (es ++ e ∷ []) + cond (ended l (es ++ e ∷ [])) 0 1 ≤ 17
  few_write r h = rw (made_more, ended_more ∙ ap (λ b. b || ended l es) r) (omega arith)

-- THE ENTRIES that an act leaves

read_leaves : (l : ℕ) (s : State) (e : Entry) (after : Want) → reached (reading l s e after) ≡ noted e s
read_leaves l s e after = by (hazard e s.entries) (eqb e.number 0) (is_bad after) (stop_at l Absent) (stop_at l BadList)
  where
    by : (o : Option Met.Hazard) (a b : Bool) (y z : Stop) → reached (tested l (noted e s) o (cond a (stops (noted e s) y) (cond b (stops (noted e s) z) (goes (noted e s))))) ≡ noted e s
    by (Some h) a b y z = refl
    by None true b y z = refl
    by None false true y z = refl
    by None false false y z = refl

test_leaves : (l : ℕ) (s : State) (o : Option Met.Hazard) → reached (tested l s o (goes s)) ≡ s
test_leaves l s (Some h) = refl
test_leaves l s None = refl

pub act_grows : (cs : List Command) (l : ℕ) (s : State) → ended l s.entries ≡ false → made l s.entries + 1 ≤ 17 → Grown l s.entries (reached (act (wants cs l) l s)).entries
act_grows cs l s n h = by (wants cs l xs) refl
  where
    xs : List Content
    xs = has_read s.pool l s.entries

    still : Grown l s.entries s.entries
    still = record { only = only_same l s.entries; few = rw n h }

    write : (f : ℕ) (p : Pool) (m : ℕ) → Grown l s.entries (reached (writing l s f p m)).entries
    write f p zero = still
    write f p (suc m) =
        let e : Entry = record { line = l; wrote = true; file = f; number = suc m } in
        rw (test_leaves l (written e p s) (hazard e s.entries))
        (record { only = only_push l s.entries s.entries e refl (only_same l s.entries); few = few_write l s.entries e refl refl h })

    fits : (b : Bool) (f : ℕ) (x : Content) → Grown l s.entries (reached (cond b (writing l s f (put s.pool x) (given s.pool x)) (stops s (stop_at l TooLong)))).entries
    fits true f x = write f (put s.pool x) (given s.pool x)
    fits false f x = still

    by : (v : Want) → wants cs l xs ≡ v → Grown l s.entries (reached (attempt (wants cs l) l s xs v)).entries
    by bad e = still
    by (reads f) w =
        rw (read_leaves l s _ _)
        (record {
          only = only_push l s.entries s.entries _ refl (only_same l s.entries);
          few = few_read l s.entries _ refl refl n (omega (arith, brief cs l f xs w, all_reads s.pool l s.entries n));
        })
    by (writes f x) e = fits (leb (length x) 4096) f x

goes_on : (l : ℕ) (us : List Use) (u : Use) (es : List Entry) (s : State) (e : Entry) (o : Option Met.Hazard) → Grown l es (s.entries ++ e ∷ []) → Grown l es (reached (skip l us u (noted e s))).entries → Grown l es (reached (tested l (noted e s) o (skip l us u (noted e s)))).entries
goes_on l us u es s e (Some h) a b = a
goes_on l us u es s e None a b = b

pub skip_grows : (l : ℕ) (us : List Use) (u : Use) (es : List Entry) (s : State) → Only l es s.entries → ended l s.entries ≡ false → made l s.entries + length us + 1 ≤ 17 → Grown l es (reached (skip l us u s)).entries
skip_grows l [] u es s o n h =
    let e = entry l true u in
    rw (test_leaves l (written e s.pool s) (hazard e s.entries))
    (record { only = only_push l es s.entries e refl o; few = few_write l s.entries e refl refl (omega arith) })
skip_grows l (r ∷ us) u es s o n h =
    let e = entry l false r in
    let more = only_push l es s.entries e refl o in
    goes_on l us u es s e (hazard e s.entries)
    (record { only = more; few = few_read l s.entries e refl refl n (omega arith) })
    (skip_grows l us u es (noted e s) more (ended_more l s.entries e refl ∙ n) (omega (arith, made_more l s.entries e refl)))
