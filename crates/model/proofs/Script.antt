-- A run that always takes the lowest line is script order, number for number. Assumes nothing.
use Rattle.std.proofs.Common.{◌≡◌, ℕ, zero, suc, ◌+◌, ◌<◌, ◌≤◌, Bool, true, false, cond, ◌&&◌, ◌||◌, eqb, leb, ◌⊎◌, List, [], ◌∷◌, ◌++◌, length, get_or, Some, None, Option, sym, refl, ap, ◌∙◌, inl, inr, ⊎_elim, arith}
use Rattle.std.proofs.lemmas.List.{length-append}
use Rattle.std.proofs.lemmas.Bool.{cases_lt, both_ways, eq-eqb, or_right}
use Rattle.std.proofs.lemmas.List.Folds.{list_any-append}
use Rattle.model.specs.declared.command.Command.{Command}
use Rattle.model.specs.declared.run.Entry.{Entry}
use Rattle.model.specs.declared.run.Hazard.{Hazard}
use Rattle.model.specs.declared.run.Fault.TheVariants.{TooLong, Absent, BadList}
use Rattle.model.specs.declared.run.Stop.{Stop}
use Rattle.model.specs.Contents.{Content, Pool, content, known, given, put}
use Rattle.model.specs.Commands.{Want, reads, writes, bad, want, wants, is_bad}
use Rattle.model.specs.Hazards.{has_read, ended, hazard}
use Rattle.model.specs.Acts.{State, Outcome, goes, stops, then, stop_at, tested, noted, written, writing, attempt, act}
use Rattle.model.specs.Order.{carry, script}
use Rattle.model.proofs.Brief.{brief}
use Rattle.model.proofs.Correspond.{goes_is, not_goes}

-- ONE MORE ENTRY

pub has_read_more : (p : Pool) (l : ℕ) (es ds : List Entry) → has_read p l (es ++ ds) ≡ has_read p l es ++ has_read p l ds
has_read_more p l [] ds = refl
has_read_more p l (e ∷ es) ds = rw (has_read_more p l es ds) (by (eqb l e.line) e.wrote)
  where
    by : (b c : Bool) →
        cond b (cond c (has_read p l es ++ has_read p l ds) (content p e.number ∷ (has_read p l es ++ has_read p l ds))) (has_read p l es ++ has_read p l ds) ≡
        cond b (cond c (has_read p l es) (content p e.number ∷ has_read p l es)) (has_read p l es) ++ has_read p l ds
    by true true = refl
    by true false = refl
    by false c = refl

pub ended_more : (l : ℕ) (es ds : List Entry) → ended l (es ++ ds) ≡ (ended l es || ended l ds)
ended_more l = list_any-append (λ e. eqb l e.line && e.wrote)

-- WHAT AN ACT THAT GOES ON WAS

pub record ReadAct (cs : List Command) (l : ℕ) (s r : State) : Type 0 where
  pub file : ℕ
  pub number : ℕ
  pub asks : wants cs l (has_read s.pool l s.entries) ≡ reads file
  pub now : number ≡ known s.pool (get_or s.files file 0)
  pub quiet : hazard (record { line = l; wrote = false; file = file; number = number }) s.entries ≡ None
  pub is : r ≡ noted (record { line = l; wrote = false; file = file; number = number }) s

pub record WriteAct (cs : List Command) (l : ℕ) (s r : State) : Type 0 where
  pub file : ℕ
  pub bytes : Content
  pub number : ℕ
  pub asks : wants cs l (has_read s.pool l s.entries) ≡ writes file bytes
  pub gave : given s.pool bytes ≡ suc number
  pub quiet : hazard (record { line = l; wrote = true; file = file; number = suc number }) s.entries ≡ None
  pub is : r ≡ written (record { line = l; wrote = true; file = file; number = suc number }) (put s.pool bytes) s

module _ (cs : List Command) (l : ℕ) (s r : State) where
  abbrev xs : List Content
  xs = has_read s.pool l s.entries

  read_by : (f n : ℕ) → n ≡ known s.pool (get_or s.files f 0) → wants cs l xs ≡ reads f → (m : Option Hazard) → hazard (record { line = l; wrote = false; file = f; number = n }) s.entries ≡ m →
      (z u : Bool) (x y : Stop) → tested l (noted (record { line = l; wrote = false; file = f; number = n }) s) m
      (cond z (stops (noted (record { line = l; wrote = false; file = f; number = n }) s) x) (cond u (stops (noted (record { line = l; wrote = false; file = f; number = n }) s) y) (goes (noted (record { line = l; wrote = false; file = f; number = n }) s)))) ≡ goes r → ReadAct cs l s r
  read_by f n i d (Some h) m z u x y k = not_goes k
  read_by f n i d None m true u x y k = not_goes k
  read_by f n i d None m false true x y k = not_goes k
  read_by f n i d None m false false x y k = record { file = f; number = n; asks = d; now = i; quiet = m; is = sym (goes_is k) }

  write_by : (f : ℕ) (x : Content) (n : ℕ) → wants cs l xs ≡ writes f x → given s.pool x ≡ n → writing l s f (put s.pool x) n ≡ goes r → WriteAct cs l s r
  write_by f x zero d g k = not_goes k
  write_by f x (suc n) d g k = by (hazard (record { line = l; wrote = true; file = f; number = suc n }) s.entries) refl k
    where
      by : (m : Option Hazard) → hazard (record { line = l; wrote = true; file = f; number = suc n }) s.entries ≡ m →
          tested l (written (record { line = l; wrote = true; file = f; number = suc n }) (put s.pool x) s) m (goes (written (record { line = l; wrote = true; file = f; number = suc n }) (put s.pool x) s)) ≡ goes r → WriteAct cs l s r
      by (Some h) m j = not_goes j
      by None m j = record { file = f; bytes = x; number = n; asks = d; gave = g; quiet = m; is = sym (goes_is j) }

  pub was : act (wants cs l) l s ≡ goes r → ReadAct cs l s r ⊎ WriteAct cs l s r
  was e = by (wants cs l xs) refl e
    where
      small : (f : ℕ) (x : Content) → wants cs l xs ≡ writes f x → (c : Bool) (y : Stop) → cond c (writing l s f (put s.pool x) (given s.pool x)) (stops s y) ≡ goes r → WriteAct cs l s r
      small f x d true y k = write_by f x (given s.pool x) d refl k
      small f x d false y k = not_goes k

      by : (q : Want) → wants cs l xs ≡ q → attempt (wants cs l) l s xs q ≡ goes r → ReadAct cs l s r ⊎ WriteAct cs l s r
      by bad d k = not_goes k
      by (reads f) d k =
          let n = known s.pool (get_or s.files f 0) in
          inl (read_by f n refl d (hazard (record { line = l; wrote = false; file = f; number = n }) s.entries) refl (eqb n 0) (is_bad (wants cs l (xs ++ content s.pool n ∷ []))) (stop_at l Absent) (stop_at l BadList) k)
      by (writes f x) d k = inr (small f x d (leb (length x) 4096) (stop_at l TooLong) k)

  -- it ended its line, or was one of its at most 16 reads
  abbrev Nearer : Type 0
  Nearer = (ended l r.entries ≡ true) ⊎ ((length xs < 16) × (length (has_read r.pool l r.entries) ≡ suc (length xs)))

  own : eqb l l ≡ true
  own = eq-eqb l l refl

  pub nearer : act (wants cs l) l s ≡ goes r → Nearer
  nearer e = ⊎_elim read write (was e)
    where
      read : ReadAct cs l s r → Nearer
      read a = inr (brief cs l a.file xs a.asks, rw (a.is, has_read_more s.pool l s.entries (record { line = l; wrote = false; file = a.file; number = a.number } ∷ []), own, length-append xs (content s.pool a.number ∷ [])) (omega arith))

      write : WriteAct cs l s r → Nearer
      write a = inl (rw (a.is, ended_more l s.entries (record { line = l; wrote = true; file = a.file; number = suc a.number } ∷ []), own) (or_right _ true refl))

  pub stays : act (wants cs l) l s ≡ goes r → (m : ℕ) → ended m s.entries ≡ true → ended m r.entries ≡ true
  stays e m h = ⊎_elim read write (was e)
    where
      read : ReadAct cs l s r → ended m r.entries ≡ true
      read a = rw (a.is, ended_more m s.entries (record { line = l; wrote = false; file = a.file; number = a.number } ∷ []), h)

      write : WriteAct cs l s r → ended m r.entries ≡ true
      write a = rw (a.is, ended_more m s.entries (record { line = l; wrote = true; file = a.file; number = suc a.number } ∷ []), h)

-- SCRIPT ORDER, from a state on

-- the first n lines of a script
abbrev pub upto : List Command → ℕ → State → Outcome
upto cs zero s = goes s
upto cs (suc n) s = then (upto cs n s) (carry (wants cs n) 17 n)

pub then_then : (t : Outcome) (j k : State → Outcome) → then t (λ s. then (j s) k) ≡ then (then t j) k
then_then (goes s) j k = refl
then_then (stops s y) j k = refl

then_same : (t : Outcome) (j k : State → Outcome) → ((s : State) → j s ≡ k s) → then t j ≡ then t k
then_same (goes s) j k h = h s
then_same (stops s y) j k h = refl

then_goes : (t : Outcome) → then t goes ≡ t
then_goes (goes s) = refl
then_goes (stops s y) = refl

-- the first n lines and those of `rest`, which come after them
upto_script : (cs : List Command) (n : ℕ) (rest : List Command) (s : State) → ((i : ℕ) → wants cs (n + i) ≡ wants rest i) → then (upto cs n s) (script n rest) ≡ upto cs (n + length rest) s
upto_script cs n [] s h = let none : n + 0 ≡ n = omega arith in rw none (then_goes (upto cs n s))
upto_script cs n (c ∷ rest) s h =
    let none : n + 0 ≡ n = omega arith in
    let one : (i : ℕ) → suc n + i ≡ n + suc i = λ i. omega arith in
    let here : wants cs n ≡ want c = rw none at (h 0) in
    ap (λ k. then (upto cs n s) (λ u. then (carry k 17 n u) (script (suc n) rest))) (sym here) ∙
    then_then (upto cs n s) (carry (wants cs n) 17 n) (script (suc n) rest) ∙
    upto_script cs (suc n) rest s (λ i. rw (one i) (h (suc i))) ∙
    ap (λ i. upto cs i s) (one (length rest))

pub script_is : (cs : List Command) (s : State) → script 0 cs s ≡ upto cs (length cs) s
script_is cs s = upto_script cs 0 cs s (λ i. let none : 0 + i ≡ i = omega arith in rw none) ∙ ap (λ i. upto cs i s) (let none : 0 + length cs ≡ length cs = omega arith in none)

-- the lines of two scripts, the second numbered on
pub script_append : (l : ℕ) (cs ds : List Command) (s : State) → script l (cs ++ ds) s ≡ then (script l cs s) (script (l + length cs) ds)
script_append l [] ds s = let none : l + 0 ≡ l = omega arith in rw none
script_append l (c ∷ cs) ds s =
    let one : suc l + length cs ≡ l + suc (length cs) = omega arith in
    then_same (carry (want c) 17 l s) (script (suc l) (cs ++ ds)) (λ u. then (script (suc l) cs u) (script (l + suc (length cs)) ds)) (λ u. script_append (suc l) cs ds u ∙ ap (λ i. then (script (suc l) cs u) (script i ds)) one) ∙
    then_then (carry (want c) 17 l s) (script (suc l) cs) (script (l + suc (length cs)) ds)

module _ (cs : List Command) where
  pub carry_ended : (k l : ℕ) (s : State) → ended l s.entries ≡ true → carry (wants cs l) k l s ≡ goes s
  carry_ended zero l s h = refl
  carry_ended (suc k) l s h = rw h

  abbrev pub Enough : ℕ → ℕ → State → Type 0
  Enough k l s = (ended l s.entries ≡ true) ⊎ ((1 ≤ k) × (17 ≤ k + length (has_read s.pool l s.entries)))

  closer : (k l : ℕ) (s r : State) → ended l s.entries ≡ false → Enough (suc k) l s →
      (length (has_read s.pool l s.entries) < 16) × (length (has_read r.pool l r.entries) ≡ suc (length (has_read s.pool l s.entries))) →
      (1 ≤ k) × (17 ≤ k + length (has_read r.pool l r.entries))
  closer k l s r d (inl x) g = absurd (both_ways _ d x)
  closer k l s r d (inr x) g = (omega (arith, x.1, g.0), omega (arith, x.1, g.1))

  -- 17 acts are enough
  enough : (k l : ℕ) (s : State) → Enough k l s → carry (wants cs l) (suc k) l s ≡ carry (wants cs l) k l s
  enough zero l s (inl h) = rw h
  enough zero l s (inr h) = absurd (omega (arith, h.0))
  enough (suc k) l s h = by (ended l s.entries) refl (act (wants cs l) l s) refl (λ r. enough k l r)
    where
      by :
          (b : Bool) → ended l s.entries ≡ b → (t : Outcome) → act (wants cs l) l s ≡ t → ((r : State) → Enough k l r → carry (wants cs l) (suc k) l r ≡ carry (wants cs l) k l r) →
          cond b (goes s) (then t (carry (wants cs l) (suc k) l)) ≡ cond b (goes s) (then t (carry (wants cs l) k l))
      by true d t e ih = refl
      by false d (stops r y) e ih = refl
      by false d (goes r) e ih = ih r (⊎_elim (λ g. inl g) (λ g. inr (closer k l s r d h g)) (nearer cs l s r e))

  -- and then the line has ended
  pub carry_ends : (k l : ℕ) (s r : State) → Enough k l s → carry (wants cs l) k l s ≡ goes r → ended l r.entries ≡ true
  carry_ends zero l s r (inl h) e = rw (← goes_is e) h
  carry_ends zero l s r (inr h) e = absurd (omega (arith, h.0))
  carry_ends (suc k) l s r h e = by (ended l s.entries) refl (act (wants cs l) l s) refl e (λ u. carry_ends k l u r)
    where
      by :
          (b : Bool) → ended l s.entries ≡ b → (t : Outcome) → act (wants cs l) l s ≡ t → cond b (goes s) (then t (carry (wants cs l) k l)) ≡ goes r →
          ((u : State) → Enough k l u → carry (wants cs l) k l u ≡ goes r → ended l r.entries ≡ true) → ended l r.entries ≡ true
      by true d t i j ih = rw (← goes_is j) d
      by false d (stops u y) i j ih = not_goes j
      by false d (goes u) i j ih = ih u (⊎_elim (λ g. inl g) (λ g. inr (closer k l s u d h g)) (nearer cs l s u i)) j

  abbrev pub Done : ℕ → State → Type 0
  Done l s = (m : ℕ) → m < l → ended m s.entries ≡ true

  pub all_done : (n : ℕ) (s : State) → Done n s → upto cs n s ≡ goes s
  all_done zero s h = refl
  all_done (suc n) s h = rw (all_done n s (λ m lt. h m (omega arith)), h n (omega arith))

  -- where two stands come to the same after the first lines, they come to the same
  onward : (m n : ℕ) (s r : State) → m ≤ n → upto cs m s ≡ upto cs m r → upto cs n s ≡ upto cs n r
  onward m zero s r h e = let same : m ≡ zero = omega arith in rw same at e
  onward m (suc n) s r h e = ⊎_elim (λ (lt : n < m). let same : m ≡ suc n = omega arith in rw same at e) (λ (le : m ≤ n). ap (λ t. then t (carry (wants cs n) 17 n)) (onward m n s r le e)) (cases_lt n m)

  stopped_on : (m n : ℕ) (s r : State) (y : Stop) → m ≤ n → upto cs m s ≡ stops r y → upto cs n s ≡ stops r y
  stopped_on m zero s r y h e = let same : m ≡ zero = omega arith in rw same at e
  stopped_on m (suc n) s r y h e = ⊎_elim (λ (lt : n < m). let same : m ≡ suc n = omega arith in rw same at e) (λ (le : m ≤ n). ap (λ t. then t (carry (wants cs n) 17 n)) (stopped_on m n s r y le e)) (cases_lt n m)

  module _ (l : ℕ) (s : State) (done : Done l s) where
    to_line : upto cs (suc l) s ≡ carry (wants cs l) 17 l s
    to_line = ap (λ t. then t (carry (wants cs l) 17 l)) (all_done l s done)

    module _ (n : ℕ) (lt : l < n) where
      -- the whole of the lowest line
      pub line_stops : (r : State) (y : Stop) → carry (wants cs l) 17 l s ≡ stops r y → upto cs n s ≡ stops r y
      line_stops r y e = stopped_on (suc l) n s r y (omega arith) (to_line ∙ e)

      pub line_goes : (r : State) → carry (wants cs l) 17 l s ≡ goes r → ended l r.entries ≡ true → Done l r → upto cs n s ≡ upto cs n r
      line_goes r e end d = onward (suc l) n s r (omega arith) (to_line ∙ e ∙ sym (ap (λ t. then t (carry (wants cs l) 17 l)) (all_done l r d) ∙ carry_ended 17 l r end))

      -- an act of the lowest line
      module _ (still : ended l s.entries ≡ false) where
        pub act_stops : (r : State) (y : Stop) → act (wants cs l) l s ≡ stops r y → upto cs n s ≡ stops r y
        act_stops r y e = line_stops r y (rw (still, e))

        pub act_goes : (r : State) → act (wants cs l) l s ≡ goes r → upto cs n s ≡ upto cs n r
        act_goes r e =
            let d : Done l r = λ m k. stays cs l s r e m (done m k) in
            let near : Enough 16 l r = ⊎_elim (λ g. inl g) (λ g. inr (omega arith, omega (arith, g.1))) (nearer cs l s r e) in
            let one : carry (wants cs l) 17 l s ≡ carry (wants cs l) 16 l r = rw (still, e) in
            onward (suc l) n s r (omega arith) (to_line ∙ one ∙ sym (enough 16 l r near) ∙ sym (ap (λ t. then t (carry (wants cs l) 17 l)) (all_done l r d)))
