-- An act on numbers is an act of the trace, told by contents, and the other way round. Assumes nothing.
use Rattle.std.proofs.Common.{◌≡◌, ℕ, zero, suc, ◌<◌, ◌≤◌, Bool, true, false, cond, ◌&&◌, eqb, ltb, leb, List, [], ◌∷◌, ◌++◌, length, get_or, set, Some, None, Option, sym, refl, ap, ◌∙◌, subst, arith, length-set, get_or-set_other, get_or-set_same}
use Rattle.std.proofs.lemmas.List.{set_past}
use Rattle.std.proofs.lemmas.Bool.{le-leb, eqb-true, eqb-false, ltb-true, ltb-false, ne_eqb, not-true, not_from_false}
use Rattle.model.specs.declared.command.Command.{Command}
use Rattle.model.specs.declared.run.Entry.{Entry}
use Rattle.model.specs.declared.run.Hazard.{Hazard}
use Rattle.model.specs.declared.run.Fault.TheVariants.{TooLong}
use Rattle.model.specs.declared.run.Stop.{Stop}
use Rattle.model.specs.Contents.{Content, Pool, count, holds, content, told, known, given, put}
use Rattle.model.specs.Commands.{Want, reads, writes, bad, wants, is_bad}
use Rattle.model.specs.Hazards.{has_read, ended, hazard}
use Rattle.model.specs.Acts.{State, goes, stops, stop_at, tested, noted, written, writing, attempt, act}
use Rattle.model.proofs.Trace as Trace
use Rattle.model.proofs.Trace.{Event, rd, wr, Trace, Start, line, mine, seen, now, clash, pooled, Ok}
use Rattle.model.proofs.Pools.{Grows, holds_parts, holds_from, grows_holds, grows_put, Given, given_is, roomy, room_of}
use Rattle.model.proofs.Entries.{event, trace, trace_more, Numbered, numbered_more, numbered_grown, trace_grown, seen_trace, ended_trace, clash_trace, clashes, met_quiet, quiet_met}

abbrev pub start : List Command → List ℕ → Pool → Start
start cs fs p = record { lines = length cs; want = wants cs; width = length fs; files = λ f. told p (get_or fs f 0); pool = p.contents; places = p.places; bytes = p.room }

pub record Corresponds (w : Start) (s : State) (t : Trace) : Type 0 where
  pub traced : trace s.pool [] s.entries ≡ t
  pub pools : pooled w t ≡ s.pool.contents
  pub places : w.places ≡ s.pool.places
  pub bytes : w.bytes ≡ s.pool.room
  pub files : (f : ℕ) → now w t f ≡ told s.pool (get_or s.files f 0)
  pub width : w.width ≡ length s.files
  pub filed : (f : ℕ) → get_or s.files f 0 ≤ count s.pool
  pub numbered : Numbered s.pool s.entries

pub goes_is : {s r : State} → goes s ≡ goes r → s ≡ r
goes_is e = cc

pub not_goes : {A : Type 0} {s r : State} {y : Stop} → stops s y ≡ goes r → A
not_goes e = let z : ◌≡◌ {A = ℕ} 0 1 = cc in absurd (omega arith)

set_get : (fs : List ℕ) (f g k : ℕ) → get_or (set fs f k) g 0 ≡ cond (eqb g f && ltb f (length fs)) k (get_or fs g 0)
set_get fs f g k = by (eqb g f) refl (ltb f (length fs)) refl
  where
    by : (b : Bool) → eqb g f ≡ b → (c : Bool) → ltb f (length fs) ≡ c → get_or (set fs f k) g 0 ≡ cond (b && c) k (get_or fs g 0)
    by true d true e = rw (eqb-true g f d) (get_or-set_same fs f k 0 (ltb-true _ _ e))
    by true d false e = ap (λ x. get_or x g 0) (set_past fs f k (ltb-false _ _ e))
    by false d c e = get_or-set_other fs f g k 0 (eqb-false g f d)

told_some : (p : Pool) (n : ℕ) (x : Content) → told p n ≡ Some x → (holds p n ≡ true) × (content p n ≡ x)
told_some p n x e = by (holds p n) refl e
  where
    by : (b : Bool) → holds p n ≡ b → cond b (Some (content p n)) None ≡ Some x → (holds p n ≡ true) × (content p n ≡ x)
    by true d k = (d, cc)
    by false d k = let z : ◌≡◌ {A = ℕ} 0 1 = cc in absurd (omega arith)

told_holds : (p : Pool) (n : ℕ) → holds p n ≡ true → told p n ≡ Some (content p n)
told_holds p n h = rw h

-- what a number below the count stands for stays
pub told_grown : (p q : Pool) → Grows p q → (n : ℕ) → n ≤ count p → told q n ≡ told p n
told_grown p q g zero h = refl
told_grown p q g (suc n) h =
    let k = holds_from p (suc n) (omega arith) h in
    let j = grows_holds p q g (suc n) k in
    told_holds q (suc n) j.0 ∙ ap Some j.1 ∙ sym (told_holds p (suc n) k)

pub known_is : (p : Pool) (n : ℕ) → n ≤ count p → known p n ≡ n
known_is p n h = rw (le-leb n (count p) h)

module _ (cs : List Command) (fs : List ℕ) (p₀ : Pool) where
  abbrev w : Start
  w = start cs fs p₀

  module _ (s : State) (t : Trace) (b : Corresponds w s t) where
    pub seen_is : (l : ℕ) → seen (mine l t) ≡ has_read s.pool l s.entries
    seen_is l = ap (λ u. seen (mine l u)) (sym b.traced) ∙ seen_trace s.pool l [] s.entries

    pub ended_is : (l : ℕ) → Trace.ended l t ≡ ended l s.entries
    ended_is l = ap (Trace.ended l) (sym b.traced) ∙ ended_trace s.pool l [] s.entries

    -- A READ of the file f, whose number is n

    abbrev reads_it : ℕ → ℕ → Entry
    reads_it l f = record { line = l; wrote = false; file = f; number = get_or s.files f 0 }

    read_clash : (l f : ℕ) → clash (rd l f (content s.pool (get_or s.files f 0))) t ≡ clashes (reads_it l f) s.entries
    read_clash l f = ap (clash (event s.pool (reads_it l f))) (sym b.traced) ∙ clash_trace s.pool (reads_it l f) [] s.entries

    read_corresponds : (l f : ℕ) → holds s.pool (get_or s.files f 0) ≡ true → Corresponds w (noted (reads_it l f) s) (rd l f (content s.pool (get_or s.files f 0)) ∷ t)
    read_corresponds l f h = record {
      traced = trace_more s.pool [] s.entries (reads_it l f) ∙ ap (λ u. event s.pool (reads_it l f) ∷ u) b.traced;
      pools = b.pools;
      places = b.places;
      bytes = b.bytes;
      files = b.files;
      width = b.width;
      filed = b.filed;
      numbered = numbered_more s.pool s.entries (reads_it l f) b.numbered h;
    }

    -- A WRITE of x to the file f, which is given the number suc n

    module _ (l f : ℕ) (x : Content) (n : ℕ) (g : given s.pool x ≡ suc n) where
      abbrev writes_it : Entry
      writes_it = record { line = l; wrote = true; file = f; number = suc n }

      abbrev p' : Pool
      p' = put s.pool x

      gave : Given s.pool x (suc n)
      gave = given_is s.pool x n g

      event_is : event p' writes_it ≡ wr l f x
      event_is = ap (wr l f) gave.is

      traced_is : trace p' [] s.entries ≡ t
      traced_is = trace_grown s.pool p' (grows_put s.pool x) [] s.entries b.numbered ∙ b.traced

      write_clash : clash (wr l f x) t ≡ clashes writes_it s.entries
      write_clash = ap (λ u. clash u t) (sym event_is) ∙ ap (clash (event p' writes_it)) (sym traced_is) ∙ clash_trace p' writes_it [] s.entries

      holds_it : holds p' (suc n) ≡ true
      holds_it = holds_from p' (suc n) gave.low gave.high

      write_files : (k : ℕ) → now w (wr l f x ∷ t) k ≡ told p' (get_or (set s.files f (suc n)) k 0)
      write_files k = rw (set_get s.files f k (suc n), b.width) (by (eqb k f && ltb f (length s.files)))
        where
          by : (c : Bool) → cond c (Some x) (now w t k) ≡ told p' (cond c (suc n) (get_or s.files k 0))
          by true = ap Some (sym gave.is) ∙ sym (told_holds p' (suc n) holds_it)
          by false = b.files k ∙ sym (told_grown s.pool p' (grows_put s.pool x) (get_or s.files k 0) (b.filed k))

      write_filed : (k : ℕ) → get_or (set s.files f (suc n)) k 0 ≤ count p'
      write_filed k = rw (set_get s.files f k (suc n)) (by (eqb k f && ltb f (length s.files)))
        where
          by : (c : Bool) → cond c (suc n) (get_or s.files k 0) ≤ count p'
          by true = gave.high
          by false = omega (arith, b.filed k, (grows_put s.pool x).more)

      write_corresponds : (put s.pool x).contents ≡ Trace.add s.pool.contents x → Corresponds w (written writes_it p' s) (wr l f x ∷ t)
      write_corresponds add_is = record {
        traced = trace_more p' [] s.entries writes_it ∙ ap (λ a. a ∷ trace p' [] s.entries) event_is ∙ ap (λ u. wr l f x ∷ u) traced_is;
        pools = ap (λ q. Trace.add q x) b.pools ∙ sym add_is;
        places = b.places;
        bytes = b.bytes;
        files = write_files;
        width = b.width ∙ sym (length-set s.files f (suc n));
        filed = write_filed;
        numbered = numbered_more p' s.entries writes_it (numbered_grown s.pool p' (grows_put s.pool x) s.entries b.numbered) holds_it;
      }

    -- FROM NUMBERS TO CONTENTS

    pub record Acted (l : ℕ) (r : State) : Type 0 where
      pub did : Event
      pub of : line did ≡ l
      pub ok : Ok w t did
      pub next : Corresponds w r (did ∷ t)

    abbrev xs_of : ℕ → List Content
    xs_of l = has_read s.pool l s.entries

    module _ (l : ℕ) (r : State) (lt : l < length cs) (still : ended l s.entries ≡ false) where
      read_acted :
          (f : ℕ) → wants cs l (xs_of l) ≡ reads f → (m : Option Hazard) → hazard (reads_it l f) s.entries ≡ m →
          (z : Bool) → eqb (get_or s.files f 0) 0 ≡ z → (u : Bool) → is_bad (wants cs l (xs_of l ++ content s.pool (get_or s.files f 0) ∷ [])) ≡ u →
          (x y : Stop) → tested l (noted (reads_it l f) s) m (cond z (stops (noted (reads_it l f) s) x) (cond u (stops (noted (reads_it l f) s) y) (goes (noted (reads_it l f) s)))) ≡ goes r →
          Acted l r
      read_acted f d (Some h) m z zs u us x y k = not_goes k
      read_acted f d None m true zs u us x y k = not_goes k
      read_acted f d None m false zs true us x y k = not_goes k
      read_acted f d None m false zs false us x y k =
          let above : 1 ≤ get_or s.files f 0 = let ne = eqb-false _ _ zs in omega arith in
          let h = holds_from s.pool (get_or s.files f 0) above (b.filed f) in
          subst (Acted l) (goes_is k) (record {
            did = rd l f (content s.pool (get_or s.files f 0));
            of = refl;
            ok = record {
              inside = lt;
              still = ended_is l ∙ still;
              wants = ap (wants cs l) (seen_is l) ∙ d;
              fine = not_from_false _ (ap (λ ys. is_bad (wants cs l (ys ++ content s.pool (get_or s.files f 0) ∷ []))) (seen_is l) ∙ us);
              clear = read_clash l f ∙ met_quiet (reads_it l f) s.entries m;
              sees = b.files f ∙ told_holds s.pool _ h;
            };
            next = read_corresponds l f h;
          })

      write_acted :
          (f : ℕ) (x : Content) → wants cs l (xs_of l) ≡ writes f x → leb (length x) 4096 ≡ true → (n : ℕ) → given s.pool x ≡ n →
          writing l s f (put s.pool x) n ≡ goes r → Acted l r
      write_acted f x d small zero g k = not_goes k
      write_acted f x d small (suc n) g k = by (hazard (writes_it l f x n g) s.entries) refl k
        where
          by : (m : Option Hazard) → hazard (writes_it l f x n g) s.entries ≡ m → tested l (written (writes_it l f x n g) (put s.pool x) s) m (goes (written (writes_it l f x n g) (put s.pool x) s)) ≡ goes r → Acted l r
          by (Some h) m j = not_goes j
          by None m j =
              let room = room_of w s.pool x b.places b.bytes small n g in
              subst (Acted l) (goes_is j) (record {
                did = wr l f x;
                of = refl;
                ok = record {
                  inside = lt;
                  still = ended_is l ∙ still;
                  wants = ap (wants cs l) (seen_is l) ∙ d;
                  fine = refl;
                  clear = write_clash l f x n g ∙ met_quiet (writes_it l f x n g) s.entries m;
                  sees = (small, ap (λ q. Trace.room w q x) b.pools ∙ room.0);
                };
                next = write_corresponds l f x n g room.1;
              })

      pub acted : act (wants cs l) l s ≡ goes r → Acted l r
      acted e = by (wants cs l (xs_of l)) refl e
        where
          by : (q : Want) → wants cs l (xs_of l) ≡ q → attempt (wants cs l) l s (xs_of l) q ≡ goes r → Acted l r
          by bad d k = not_goes k
          by (reads f) d k = read_acted f d _ refl _ refl _ refl _ _ (rw (known_is s.pool (get_or s.files f 0) (b.filed f)) at k)
          by (writes f x) d k = go (leb (length x) 4096) refl _ k
            where
              go : (c : Bool) → leb (length x) 4096 ≡ c → (y : Stop) → cond c (writing l s f (put s.pool x) (given s.pool x)) (stops s y) ≡ goes r → Acted l r
              go true small y j = write_acted f x d small (given s.pool x) refl j
              go false small y j = not_goes j

    -- AND BACK

    pub record Acts (a : Event) : Type 0 where
      pub after : State
      pub does : act (wants cs (line a)) (line a) s ≡ goes after
      pub still : ended (line a) s.entries ≡ false
      pub next : Corresponds w after (a ∷ t)

    pub acts : (a : Event) → Ok w t a → Acts a
    acts (rd l f x) o =
        let known = told_some s.pool (get_or s.files f 0) x (sym (b.files f) ∙ o.sees) in
        let fits = holds_parts s.pool (get_or s.files f 0) known.0 in
        let d : wants cs l (xs_of l) ≡ reads f = ap (wants cs l) (sym (seen_is l)) ∙ o.wants in
        let here : eqb (get_or s.files f 0) 0 ≡ false = ne_eqb _ _ (λ e. omega (arith, fits.0)) in
        let u : is_bad (wants cs l (xs_of l ++ content s.pool (get_or s.files f 0) ∷ [])) ≡ false =
        ap (λ y. is_bad (wants cs l (xs_of l ++ y ∷ []))) known.1 ∙ ap (λ ys. is_bad (wants cs l (ys ++ x ∷ []))) (sym (seen_is l)) ∙ not-true _ o.fine in
        let quiet : hazard (reads_it l f) s.entries ≡ None = quiet_met (reads_it l f) s.entries (sym (read_clash l f) ∙ ap (λ y. clash (rd l f y) t) known.1 ∙ o.clear) in
        record {
          after = noted (reads_it l f) s;
          does = rw (d, known_is s.pool (get_or s.files f 0) (b.filed f), quiet, here, u);
          still = sym (ended_is l) ∙ o.still;
          next = subst (λ y. Corresponds w (noted (reads_it l f) s) (rd l f y ∷ t)) known.1 (read_corresponds l f known.0);
        }
    acts (wr l f x) o =
        let room = roomy w s.pool x b.places b.bytes o.sees.0 (ap (λ q. Trace.room w q x) (sym b.pools) ∙ o.sees.1) in
        let n = room.0 in
        let g = room.1 in
        let d : wants cs l (xs_of l) ≡ writes f x = ap (wants cs l) (sym (seen_is l)) ∙ o.wants in
        let quiet : hazard (writes_it l f x n g) s.entries ≡ None = quiet_met (writes_it l f x n g) s.entries (sym (write_clash l f x n g) ∙ o.clear) in
        record {
          after = written (writes_it l f x n g) (put s.pool x) s;
          does =
              ap (attempt (wants cs l) l s (xs_of l)) d ∙
              ap (λ c. cond c (writing l s f (put s.pool x) (given s.pool x)) (stops s (stop_at l TooLong))) o.sees.0 ∙
              ap (writing l s f (put s.pool x)) g ∙
              ap (λ m. tested l (written (writes_it l f x n g) (put s.pool x) s) m (goes (written (writes_it l f x n g) (put s.pool x) s))) quiet;
          still = sym (ended_is l) ∙ o.still;
          next = write_corresponds l f x n g room.2;
        }
