-- A skip by a true record is the line's own acts, number for number. Assumes nothing.
use Rattle.std.proofs.Common.{◌≡◌, ℕ, zero, suc, ◌+◌, ◌-◌, ◌<◌, ◌≤◌, Bool, true, false, cond, not, eqb, List, [], ◌∷◌, ◌++◌, length, get_or, Some, None, Option, sym, refl, ap, ◌∙◌, subst, arith}
use Rattle.std.specs.Str.{bytes_eq}
use Rattle.std.proofs.lemmas.Slice.Eq.{bytes_eq-Decides}
use Rattle.std.proofs.lemmas.List.{length-append}
use Rattle.std.proofs.lemmas.Bool.{and_parts, and_from, le-leb, eqb-true, eq-eqb, ne_eqb, not-true, true≢false}
use Rattle.model.specs.declared.command.Command.{Command}
use Rattle.model.specs.declared.run.Entry.{Entry}
use Rattle.model.specs.declared.run.Hazard.{Hazard}
use Rattle.model.specs.declared.run.Fault.TheVariants.{TooLong, Absent, BadList}
use Rattle.model.specs.declared.record.Standing.TheVariants.{Hint, Own, Struck}
use Rattle.model.specs.declared.record.Use.{Use}
use Rattle.model.specs.Contents.{Content, Pool, holds, content, known, mem, given, put}
use Rattle.model.specs.Commands.{Want, reads, writes, bad, want, wants, is_bad}
use Rattle.model.specs.Hazards.{has_read, ended, hazard, fresh}
use Rattle.model.specs.Acts.{State, Outcome, goes, stops, then, stop_at, tested, noted, reading, written, writing, attempt, act}
use Rattle.model.specs.Order.{carry}
use Rattle.model.specs.Records.{Record}
use Rattle.model.specs.Truth.{asks, makes, follows, true_in}
use Rattle.model.specs.Book.{same_command, own, record_of}
use Rattle.model.specs.Step.{match, all_held, usable, skips, entry, skip, skips_at}
use Rattle.model.specs.Promise.{OwnTrue}
use Rattle.model.proofs.Brief.{brief}
use Rattle.model.proofs.Keys.{same_is}
use Rattle.model.proofs.Pools.{Grows, holds_parts, grows_holds, Distinct, mem_at, find_at}
use Rattle.model.proofs.Script.{has_read_more, ended_more}

-- every content is at most 4096 bytes long
abbrev pub Short : List Content → Type 0
Short xs = (n : ℕ) → n < length xs → length (get_or xs n []) ≤ 4096

asks_is : (q : Want) (f : ℕ) → asks q f ≡ true → q ≡ reads f
asks_is (reads g) f h = ap reads (sym (eqb-true f g h))
asks_is (writes g x) f h = absurd (true≢false (sym h))
asks_is bad f h = absurd (true≢false (sym h))

makes_is : (q : Want) (f : ℕ) (y : Content) → makes q f y ≡ true → q ≡ writes f y
makes_is (reads g) f y h = absurd (true≢false (sym h))
makes_is (writes g x) f y h =
    let b = and_parts (eqb f g) (bytes_eq y x) h in
    let i = eqb-true f g b.0 in
    let j : y ≡ x = (bytes_eq-Decides y x).0 b.1 in
    cc
makes_is bad f y h = absurd (true≢false (sym h))

fit : (p : Pool) (k : List Content → Want) (xs : List Content) (rs : List Use) (u : Use) → follows p k xs rs u ≡ true → is_bad (k xs) ≡ false
fit p k xs [] u h = rw (makes_is (k xs) u.file _ (and_parts (holds p u.number) _ h).1)
fit p k xs (r ∷ rs) u h = rw (asks_is (k xs) r.file (and_parts (asks (k xs) r.file) _ (and_parts (holds p r.number) _ h).1).0)

-- a record stays true in a pool that grows
pub follows_grown : (p q : Pool) → Grows p q → (k : List Content → Want) (rs : List Use) (xs : List Content) (u : Use) → follows p k xs rs u ≡ true → follows q k xs rs u ≡ true
follows_grown p q g k [] xs u h =
    let b = and_parts (holds p u.number) _ h in
    let j = grows_holds p q g u.number b.0 in
    and_from _ _ j.0 (rw j.1 b.1)
follows_grown p q g k (r ∷ rs) xs u h =
    let b = and_parts (holds p r.number) _ h in
    let c = and_parts (asks (k xs) r.file) _ b.1 in
    let j = grows_holds p q g r.number b.0 in
    and_from _ _ j.0 (and_from _ _ c.0 (rw j.1 (follows_grown p q g k rs (xs ++ content p r.number ∷ []) u c.1)))

pub own_true_grown : (p q : Pool) → Grows p q → (rs : List Record) → OwnTrue p rs → OwnTrue q rs
own_true_grown p q g [] h = tt
own_true_grown p q g (r ∷ rs) h = (λ o. follows_grown p q g (want r.command) r.reads [] r.write (h.0 o), own_true_grown p q g rs h.1)

-- a true record has at most 16 reads
few : (p : Pool) (k : List Content → Want) → ((f : ℕ) (ys : List Content) → k ys ≡ reads f → length ys < 16) →
    (rs : List Use) (xs : List Content) (u : Use) → length xs ≤ 16 → follows p k xs rs u ≡ true → length xs + length rs ≤ 16
few p k b [] xs u n h = omega arith
few p k b (r ∷ rs) xs u n h =
    let c = and_parts (asks (k xs) r.file) _ (and_parts (holds p r.number) _ h).1 in
    let less = b r.file xs (asks_is (k xs) r.file c.0) in
    let more = length-append xs (content p r.number ∷ []) in
    omega (arith, few p k b rs (xs ++ content p r.number ∷ []) u (omega arith) c.1)

-- THE SKIP

module _ (cs : List Command) (l : ℕ) where
  own_line : eqb l l ≡ true
  own_line = eq-eqb l l refl

  -- a write of a content that is in the pool, and the end of its line
  module _ (s : State) (f n : ℕ) (d : Distinct s.pool.contents) (short : Short s.pool.contents) (inside : holds s.pool n ≡ true) where
    abbrev x : Content
    x = content s.pool n

    low : n - 1 < length s.pool.contents
    low = let h = holds_parts s.pool n inside in omega (arith, h.0, h.1)

    back : suc (n - 1) ≡ n
    back = let h = holds_parts s.pool n inside in omega (arith, h.0)

    is_mem : mem x s.pool.contents ≡ true
    is_mem = mem_at s.pool.contents (n - 1) low

    put_same : put s.pool x ≡ s.pool
    put_same = rw is_mem

    gives : given s.pool x ≡ suc (n - 1)
    gives = rw is_mem (find_at s.pool.contents (n - 1) d low)

    writes_again : attempt (wants cs l) l s (has_read s.pool l s.entries) (writes f x) ≡ tested l (written (record { line = l; wrote = true; file = f; number = n }) s.pool s) (hazard (record { line = l; wrote = true; file = f; number = n }) s.entries) (goes (written (record { line = l; wrote = true; file = f; number = n }) s.pool s))
    writes_again =
        ap (λ c. cond c (writing l s f (put s.pool x) (given s.pool x)) (stops s (stop_at l TooLong))) (le-leb _ _ (short (n - 1) low)) ∙
        ap (λ q. writing l s f q (given s.pool x)) put_same ∙
        ap (writing l s f s.pool) gives ∙
        ap (λ k. tested l (written (record { line = l; wrote = true; file = f; number = k }) s.pool s) (hazard (record { line = l; wrote = true; file = f; number = k }) s.entries) (goes (written (record { line = l; wrote = true; file = f; number = k }) s.pool s))) back

  then_tested : (r : State) (m : Option Hazard) (k : State → Outcome) → then (tested l r m (goes r)) k ≡ tested l r m (k r)
  then_tested r (Some h) k = refl
  then_tested r None k = refl

  module _ (c : Command) (same : (ys : List Content) → wants cs l ys ≡ want c ys) where
    pub skip_is :
        (k : ℕ) (s : State) (rs : List Use) (u : Use) → length rs < k →
        Distinct s.pool.contents → Short s.pool.contents → ended l s.entries ≡ false → match s.files rs ≡ true →
        follows s.pool (want c) (has_read s.pool l s.entries) rs u ≡ true → carry (wants cs l) k l s ≡ skip l rs u s
    skip_is zero s rs u n d short e m h = absurd (omega arith)
    skip_is (suc k) s [] u n d short e m h =
        let b = and_parts (holds s.pool u.number) _ h in
        let q : wants cs l (has_read s.pool l s.entries) ≡ writes u.file (content s.pool u.number) = same _ ∙ makes_is _ u.file _ b.1 in
        let done : ended l (s.entries ++ entry l true u ∷ []) ≡ true = ended_more l s.entries (entry l true u ∷ []) ∙ rw (e, own_line) in
        let act_is : act (wants cs l) l s ≡ tested l (written (entry l true u) s.pool s) (hazard (entry l true u) s.entries) (goes (written (entry l true u) s.pool s)) =
        ap (attempt (wants cs l) l s (has_read s.pool l s.entries)) q ∙ writes_again s u.file u.number d short b.0 in
        ap (λ z. cond z (goes s) (then (act (wants cs l) l s) (carry (wants cs l) k l))) e ∙
        ap (λ t. then t (carry (wants cs l) k l)) act_is ∙
        then_tested (written (entry l true u) s.pool s) (hazard (entry l true u) s.entries) (carry (wants cs l) k l) ∙
        ap (tested l (written (entry l true u) s.pool s) (hazard (entry l true u) s.entries)) (ended_carry k (written (entry l true u) s.pool s) done)
      where
        ended_carry : (j : ℕ) (r : State) → ended l r.entries ≡ true → carry (wants cs l) j l r ≡ goes r
        ended_carry zero r i = refl
        ended_carry (suc j) r i = rw i
    skip_is (suc k) s (r ∷ rs) u n d short e m h =
        let b = and_parts (holds s.pool r.number) _ h in
        let a = and_parts (asks _ r.file) _ b.1 in
        let j = and_parts (eqb (get_or s.files r.file 0) r.number) _ m in
        let p = s.pool in
        let xs = has_read p l s.entries in
        let g = entry l false r in
        let held = holds_parts p r.number b.0 in
        let q : wants cs l xs ≡ reads r.file = same _ ∙ asks_is _ r.file a.0 in
        let number : known p (get_or s.files r.file 0) ≡ r.number = ap (known p) (eqb-true _ _ j.0) ∙ rw (le-leb _ _ held.1) in
        let here : eqb r.number 0 ≡ false = ne_eqb _ _ (λ i. omega (arith, held.0)) in
        let fits : is_bad (wants cs l (xs ++ content p r.number ∷ [])) ≡ false = ap is_bad (same _) ∙ fit p (want c) _ rs u a.1 in
        let act_is : act (wants cs l) l s ≡ tested l (noted g s) (hazard g s.entries) (goes (noted g s)) =
        ap (attempt (wants cs l) l s xs) q ∙
        ap (λ i. reading l s (record { line = l; wrote = false; file = r.file; number = i }) (wants cs l (xs ++ content p i ∷ []))) number ∙
        ap (λ z. tested l (noted g s) (hazard g s.entries) (cond z (stops (noted g s) (stop_at l Absent)) (cond (is_bad (wants cs l (xs ++ content p r.number ∷ []))) (stops (noted g s) (stop_at l BadList)) (goes (noted g s))))) here ∙
        ap (λ z. tested l (noted g s) (hazard g s.entries) (cond z (stops (noted g s) (stop_at l BadList)) (goes (noted g s)))) fits in
        let seen : has_read p l (s.entries ++ g ∷ []) ≡ xs ++ content p r.number ∷ [] = has_read_more p l s.entries (g ∷ []) ∙ rw own_line in
        let open_still : ended l (s.entries ++ g ∷ []) ≡ false = ended_more l s.entries (g ∷ []) ∙ rw (e, own_line) in
        ap (λ z. cond z (goes s) (then (act (wants cs l) l s) (carry (wants cs l) k l))) e ∙
        ap (λ t. then t (carry (wants cs l) k l)) act_is ∙
        then_tested (noted g s) (hazard g s.entries) (carry (wants cs l) k l) ∙
        ap (tested l (noted g s) (hazard g s.entries)) (skip_is k (noted g s) rs u (omega arith) d short open_still j.1 (rw seen a.1))

-- THE RECORD THAT A LINE SKIPS BY

pub same_want : (c d : Command) → same_command c d ≡ true → (ys : List Content) → want c ys ≡ want d ys
same_want c d h ys = ap (λ x. want x ys) (same_is c d h)

pub fresh_has : (p : Pool) (l : ℕ) (es : List Entry) → fresh l es ≡ true → (has_read p l es ≡ []) × (ended l es ≡ false)
fresh_has p l [] h = (refl, refl)
fresh_has p l (e ∷ es) h =
    let b = and_parts (not (eqb l e.line)) (fresh l es) h in
    let out : eqb l e.line ≡ false = not-true _ b.0 in
    let ih = fresh_has p l es b.1 in
    (rw out ih.0, rw out ih.1)

-- a skip is of a line that has made no act
pub skips_fresh : (rs : List Record) (l : ℕ) (s : State) (q : Record) (cs : List Command) (k : ℕ) → skips_at rs cs k l s ≡ Some q → fresh l s.entries ≡ true
skips_fresh rs l s q [] k e = let z : ◌≡◌ {A = ℕ} 0 1 = cc in absurd (omega arith)
skips_fresh rs l s q (c ∷ cs) zero e = by (fresh l s.entries) _ e
  where
    by : (b : Bool) (o : Option Record) → cond b o None ≡ Some q → b ≡ true
    by true o h = refl
    by false o h = let z : ◌≡◌ {A = ℕ} 0 1 = cc in absurd (omega arith)
skips_fresh rs l s q (c ∷ cs) (suc k) e = skips_fresh rs l s q cs k e

-- a record of the list, of that command
pub record Noted (p : Pool) (c : Command) (q : Record) : Type 0 where
  pub same : same_command c q.command ≡ true
  pub true_if : q.standing ≡ Own → true_in p q ≡ true

pub record_is : (p : Pool) (c : Command) (rs : List Record) (q : Record) → OwnTrue p rs → record_of c rs ≡ Some q → Noted p c q
record_is p c [] q h e = let z : ◌≡◌ {A = ℕ} 0 1 = cc in absurd (omega arith)
record_is p c (r ∷ rs) q h e = by (same_command c r.command) refl e (record_is p c rs q h.1)
  where
    by : (b : Bool) → same_command c r.command ≡ b → cond b (Some r) (record_of c rs) ≡ Some q → (record_of c rs ≡ Some q → Noted p c q) → Noted p c q
    by true d k ih = let i : r ≡ q = cc in subst (Noted p c) i (record { same = d; true_if = h.0 })
    by false d k ih = ih k

own_is : (x : _) → own x ≡ true → x ≡ Own
own_is Hint h = absurd (true≢false (sym h))
own_is Own h = refl
own_is Struck h = absurd (true≢false (sym h))

pub record Skips (p : Pool) (cs : List Command) (k l : ℕ) (s : State) (q : Record) : Type 0 where
  pub wanted : (ys : List Content) → wants cs k ys ≡ want q.command ys
  pub first : fresh l s.entries ≡ true
  pub matching : match s.files q.reads ≡ true
  pub is_true : true_in p q ≡ true

module _ (p : Pool) (rs : List Record) (own_true : OwnTrue p rs) (l : ℕ) (s : State) (q : Record) where
  -- what was found of a record that line l can be skipped by
  abbrev Fit : Command → Record → Type 0
  Fit c r = Noted p c r × (fresh l s.entries ≡ true) × (own r.standing ≡ true) × (match s.files r.reads ≡ true)

  skips_is : (c : Command) → skips rs l c s ≡ Some q → Fit c q
  skips_is c e = by (fresh l s.entries) refl (record_of c rs) refl e
    where
      not_none : {A : Type 0} → None ≡ Some q → A
      not_none e = let z : ◌≡◌ {A = ℕ} 0 1 = cc in absurd (omega arith)

      go : (r : Record) (b : Bool) → cond b (Some r) None ≡ Some q → (r ≡ q) × (b ≡ true)
      go r true k = (cc, refl)
      go r false k = not_none k

      by : (b : Bool) → fresh l s.entries ≡ b → (o : Option Record) → record_of c rs ≡ o → cond b (usable s o) None ≡ Some q → Fit c q
      by false d o i k = not_none k
      by true d None i k = not_none k
      by true d (Some r) i k =
          let g = go r _ k in
          let both = and_parts (own r.standing) _ g.1 in
          let held = and_parts (all_held s.pool (r.write ∷ r.reads)) _ both.1 in
          subst (Fit c) g.0 (record_is p c rs r own_true i, d, both.0, held.1)

  pub skips_at_is : (cs : List Command) (k : ℕ) → skips_at rs cs k l s ≡ Some q → Skips p cs k l s q
  skips_at_is [] k e = let z : ◌≡◌ {A = ℕ} 0 1 = cc in absurd (omega arith)
  skips_at_is (c ∷ cs) zero e =
      let h = skips_is c e in
      record { wanted = same_want c q.command h.0.same; first = h.1; matching = h.3; is_true = h.0.true_if (own_is _ h.2) }
  skips_at_is (c ∷ cs) (suc k) e =
      let h = skips_at_is cs k e in
      record { wanted = h.wanted; first = h.first; matching = h.matching; is_true = h.is_true }

-- it has at most 16 reads
pub skips_few : (cs : List Command) (l : ℕ) (s : State) (q : Record) (p : Pool) → Skips p cs l l s q → length q.reads ≤ 16
skips_few cs l s q p h = omega (arith, few p (want q.command) (λ g ys i. brief cs l g ys (h.wanted ys ∙ i)) q.reads [] q.write (omega arith) h.is_true)

-- so it is the rest of the line
pub skipped_is :
    (cs : List Command) (l : ℕ) (s : State) (rs : List Record) (q : Record) → OwnTrue s.pool rs → Distinct s.pool.contents → Short s.pool.contents →
    skips_at rs cs l l s ≡ Some q → carry (wants cs l) 17 l s ≡ skip l q.reads q.write s
skipped_is cs l s rs q own_true d short e =
    let h = skips_at_is s.pool rs own_true l s q cs l e in
    let f = fresh_has s.pool l s.entries h.first in
    let n = skips_few cs l s q s.pool h in
    skip_is cs l q.command h.wanted 17 s q.reads q.write (omega (arith, n)) d short f.1 h.matching (rw f.0 h.is_true)
