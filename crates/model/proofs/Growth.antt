-- What every pool keeps under putting, and so under acts, lay and load. Assumes nothing.
use Rattle.std.proofs.Common.{◌≡◌, ℕ, zero, suc, ◌+◌, ◌<◌, ◌≤◌, Bool, true, false, cond, eqb, leb, List, [], ◌∷◌, ◌++◌, length, get_or, take, set, Some, None, Option, refl, ap, ◌∙◌, subst, ⊎_elim, arith}
use Rattle.std.proofs.lemmas.List.{length-append, take_all, take-append-le, get_or_append_left, get_or-append-add}
use Rattle.std.proofs.lemmas.Bool.{cases_lt, and_parts, leb-true}
use Rattle.model.specs.declared.run.Entry.{Entry}
use Rattle.model.specs.declared.run.Hazard.{Hazard}
use Rattle.model.specs.declared.run.Fault.TheVariants.{TooLong, Absent, BadList}
use Rattle.model.specs.Contents.{Content, Pool, count, used, content, known, mem, fits, given, put, cut}
use Rattle.model.specs.Commands.{Want, reads, writes, bad, is_bad, wants}
use Rattle.model.specs.Hazards.{has_read, hazard}
use Rattle.model.specs.Acts.{State, Outcome, goes, stops, reached, stop_at, tested, noted, reading, written, writing, attempt, act}
use Rattle.model.specs.Records.{Use, Record}
use Rattle.model.specs.World.{World, state}
use Rattle.model.specs.Lay.{Have, Stock, laid}
use Rattle.model.specs.Load.{puts}
use Rattle.model.specs.Step.{entry, skip, record_for, work_by, work}
use Rattle.model.proofs.Pools.{Grows, grows_put, grows_cut, Distinct, distinct_put}
use Rattle.model.proofs.Skip.{Short}

pub short_put : (p : Pool) (x : Content) → Short p.contents → Short (put p x).contents
short_put p x h = by (mem x p.contents) (fits p x) refl
  where
    last : leb (length x) 4096 ≡ true → (n : ℕ) → n < length (p.contents ++ x ∷ []) → length (get_or (p.contents ++ x ∷ []) n []) ≤ 4096
    last small n lt = ⊎_elim
        (λ (low : n < length p.contents). rw (get_or_append_left p.contents (x ∷ []) [] n low) (h n low))
        (λ (high : length p.contents ≤ n). let same : n ≡ length p.contents + 0 = omega (arith, length-append p.contents (x ∷ [])) in rw (same, get_or-append-add p.contents (x ∷ []) 0 []) (leb-true _ _ small))
        (cases_lt n (length p.contents))

    small_of : fits p x ≡ true → leb (length x) 4096 ≡ true
    small_of f = (and_parts (leb (length x) 4096) _ (and_parts _ (leb (_ + length x) p.room) f).0).0

    by : (b c : Bool) → fits p x ≡ c → Short (cond b p.contents (cond c (p.contents ++ x ∷ []) p.contents))
    by true c e = h
    by false true e = last (small_of e)
    by false false e = h

used_end : (xs : List Content) (x : Content) → used (xs ++ x ∷ []) ≡ used xs + length x
used_end [] x = omega arith
used_end (y ∷ xs) x = let h = used_end xs x in omega arith

-- no two contents are equal, each is short, and they are within the places and the room
pub record Fine (p : Pool) : Type 0 where
  pub distinct : Distinct p.contents
  pub short : Short p.contents
  pub places : count p ≤ p.places
  pub room : used p.contents ≤ p.room

pub fine_put : (p : Pool) (x : Content) → Fine p → Fine (put p x)
fine_put p x h = let in_room = by (mem x p.contents) (fits p x) (λ f. f) in record {
  distinct = distinct_put p x h.distinct;
  short = short_put p x h.short;
  places = in_room.0;
  room = in_room.1;
}
  where
    grown : fits p x ≡ true → (length (p.contents ++ x ∷ []) ≤ p.places) × (used (p.contents ++ x ∷ []) ≤ p.room)
    grown f =
        let b = and_parts _ (leb (used p.contents + length x) p.room) f in
        let c = and_parts (leb (length x) 4096) (leb (count p + 1) p.places) b.0 in
        (omega (arith, length-append p.contents (x ∷ []), leb-true _ _ c.1), omega (arith, used_end p.contents x, leb-true _ _ b.1))

    by : (b c : Bool) → (c ≡ true → fits p x ≡ true) →
        (length (cond b p.contents (cond c (p.contents ++ x ∷ []) p.contents)) ≤ p.places) × (used (cond b p.contents (cond c (p.contents ++ x ∷ []) p.contents)) ≤ p.room)
    by true c f = (h.places, h.room)
    by false true f = grown (f refl)
    by false false f = (h.places, h.room)

-- a pool that began as another: that one, and more
pub record Began (b p : Pool) : Type 0 where
  pub low : count b ≤ count p
  pub cut_is : cut (count b) p ≡ b

pub began_none : (p : Pool) → Began p p
began_none p = record { low = omega arith; cut_is = ap (λ xs. record { contents = xs; places = p.places; room = p.room }) (take_all (count p) p.contents (omega arith)) }

pub began_put : (b p : Pool) (x : Content) → Began b p → Began b (put p x)
began_put b p x h = record {
  low = omega (arith, h.low, (grows_put p x).more);
  cut_is = ap (λ xs. record { contents = xs; places = p.places; room = p.room }) (by (mem x p.contents) (fits p x)) ∙ h.cut_is;
}
  where
    by : (c d : Bool) → take (count b) (cond c p.contents (cond d (p.contents ++ x ∷ []) p.contents)) ≡ take (count b) p.contents
    by true d = refl
    by false true = take-append-le (count b) p.contents (x ∷ []) h.low
    by false false = refl

-- the pool of an open run began as the one that its begin found
pub record Base (b : Pool) (p : Pool) : Type 0 where
  pub began : Began b p
  pub fine : Fine p

pub base_put : (b p : Pool) (x : Content) → Base b p → Base b (put p x)
base_put b p x h = record { began = began_put b p x h.began; fine = fine_put p x h.fine }

pub base_grows : (b p : Pool) → Base b p → Grows b p
base_grows b p h = subst (λ q. Grows q p) h.began.cut_is (grows_cut p (count b) h.began.low)

-- WHAT PUTTING KEEPS, acts and working steps keep, and lay and load

module _ (P : Pool → Type 0) (more : (q : Pool) (x : Content) → P q → P (put q x)) where
  tested_pool : (l : ℕ) (s : State) (m : Option Hazard) (t : Outcome) → P s.pool → P (reached t).pool → P (reached (tested l s m t)).pool
  tested_pool l s (Some h) t a b = a
  tested_pool l s None t a b = b

  pick : (c : Bool) (a b : Outcome) → P (reached a).pool → P (reached b).pool → P (reached (cond c a b)).pool
  pick true a b i j = i
  pick false a b i j = j

  read_pool : (l : ℕ) (s : State) (e : Entry) (q : Want) → P s.pool → P (reached (reading l s e q)).pool
  read_pool l s e q h =
      let r = noted e s in
      let last = cond (is_bad q) (stops r (stop_at l BadList)) (goes r) in
      tested_pool l r (hazard e s.entries) (cond (eqb e.number 0) (stops r (stop_at l Absent)) last) h (pick (eqb e.number 0) (stops r (stop_at l Absent)) last h (pick (is_bad q) (stops r (stop_at l BadList)) (goes r) h h))

  write_pool : (l : ℕ) (s : State) (f : ℕ) (x : Content) (n : ℕ) → P s.pool → P (reached (writing l s f (put s.pool x) n)).pool
  write_pool l s f x zero h = h
  write_pool l s f x (suc n) h =
      let e : Entry = record { line = l; wrote = true; file = f; number = suc n } in
      let r = written e (put s.pool x) s in
      tested_pool l r (hazard e s.entries) (goes r) (more s.pool x h) (more s.pool x h)

  attempt_pool : (k : List Content → Want) (l : ℕ) (s : State) (xs : List Content) (q : Want) → P s.pool → P (reached (attempt k l s xs q)).pool
  attempt_pool k l s xs bad h = h
  attempt_pool k l s xs (reads f) h =
      let n = known s.pool (get_or s.files f 0) in
      read_pool l s (record { line = l; wrote = false; file = f; number = n }) (k (xs ++ content s.pool n ∷ [])) h
  attempt_pool k l s xs (writes f x) h = pick (leb (length x) 4096) (writing l s f (put s.pool x) (given s.pool x)) (stops s (stop_at l TooLong)) (write_pool l s f x (given s.pool x) h) h

  act_pool : (k : List Content → Want) (l : ℕ) (s : State) → P s.pool → P (reached (act k l s)).pool
  act_pool k l s h = let xs = has_read s.pool l s.entries in attempt_pool k l s xs (k xs) h

  skip_pool : (l : ℕ) (rs : List Use) (u : Use) (s : State) → P s.pool → P (reached (skip l rs u s)).pool
  skip_pool l [] u s h = let e = entry l true u in let r = written e s.pool s in tested_pool l r (hazard e s.entries) (goes r) h h
  skip_pool l (q ∷ rs) u s h = let e = entry l false q in tested_pool l (noted e s) (hazard e s.entries) (skip l rs u (noted e s)) h (skip_pool l rs u (noted e s) h)

  pub work_pool : (w : World) (l : ℕ) → P w.pool → P (reached (work w l)).pool
  work_pool w l h = by (record_for w l)
    where
      by : (q : Option Record) → P (reached (work_by q w.notes.commands l (state w))).pool
      by None = act_pool (wants w.notes.commands l) l (state w) h
      by (Some q) = skip_pool l q.reads q.write (state w) h

  pub laid_pool : (hs : List Have) (fs : List ℕ) (p : Pool) (g : Stock) → P p → laid hs fs p ≡ Some g → P g.pool
  laid_pool [] fs p g h e = let same : p ≡ g.pool = ap pool_of e in subst P same h
    where
      pool_of : Option Stock → Pool
      pool_of None = p
      pool_of (Some x) = x.pool
  laid_pool (a ∷ hs) fs p g h e = by (eqb (given p a.bytes) 0) e (laid_pool hs _ (put p a.bytes) g (more p a.bytes h))
    where
      by : (b : Bool) → cond b None (laid hs (set fs a.file (given p a.bytes)) (put p a.bytes)) ≡ Some g → (laid hs (set fs a.file (given p a.bytes)) (put p a.bytes) ≡ Some g → P g.pool) → P g.pool
      by true k ih = let z : ◌≡◌ {A = ℕ} 0 1 = cc in absurd (omega arith)
      by false k ih = ih k

  pub puts_pool : (xs : List Content) (p q : Pool) → P p → puts xs p ≡ Some q → P q
  puts_pool [] p q h e = let same : p ≡ q = cc in subst P same h
  puts_pool (x ∷ xs) p q h e = by (eqb (given p x) 0) e (puts_pool xs (put p x) q (more p x h))
    where
      by : (b : Bool) → cond b None (puts xs (put p x)) ≡ Some q → (puts xs (put p x) ≡ Some q → P q) → P q
      by true k ih = let z : ◌≡◌ {A = ℕ} 0 1 = cc in absurd (omega arith)
      by false k ih = ih k
