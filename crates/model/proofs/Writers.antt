-- No two lines of a run that has not stopped write one file, so no two of its ended lines have the same command. Assumes nothing.
use Rattle.std.proofs.Common.{◌≡◌, ℕ, zero, suc, Bool, true, false, cond, eqb, List, [], ◌∷◌, length, drop, Some, None, Option, sym, refl, ap, ◌∙◌, arith}
use Rattle.std.proofs.lemmas.Bool.{both_ways, eqb-true, eq-eqb, or_right}
use Rattle.model.specs.declared.command.Kind.{Kind}
use Rattle.model.specs.declared.command.Kind.TheVariants.{Copy, Join, Gather, Choose, Tally, Check}
use Rattle.model.specs.declared.command.Command.{Command}
use Rattle.model.specs.Contents.{Content}
use Rattle.model.specs.Commands.{reads, writes, bad, next_listed, gathers, listed, next, wants}
use Rattle.model.proofs.Trace as Trace
use Rattle.model.proofs.Trace.{Event, rd, wr, Trace, Start, line, mine, ends, clash, Ok, Steps}

-- THE FILE THAT A COMMAND WRITES

abbrev aim : Kind → ℕ → ℕ → ℕ → ℕ → ℕ
aim Copy a b c d = b
aim Join a b c d = c
aim Gather a b c d = b
aim Choose a b c d = d
aim Tally a b c d = b
aim Check a b c d = c

read_not : {A : Type 0} {g f : ℕ} {x : Content} → reads g ≡ writes f x → A
read_not e = let z : ◌≡◌ {A = ℕ} 0 1 = cc in absurd (omega arith)

bad_not : {A : Type 0} {f : ℕ} {x : Content} → bad ≡ writes f x → A
bad_not e = let z : ◌≡◌ {A = ℕ} 0 1 = cc in absurd (omega arith)

same_file : {g f : ℕ} {x y : Content} → writes g x ≡ writes f y → f ≡ g
same_file e = cc

gather_aims : (b f : ℕ) (xs : List Content) (x : Content) (o : Option (List ℕ)) → gathers b xs o ≡ writes f x → f ≡ b
gather_aims b f xs x None e = bad_not e
gather_aims b f xs x (Some fs) e = by (drop (length xs) fs) e
  where
    by : (r : List ℕ) → next_listed b xs r ≡ writes f x → f ≡ b
    by [] k = same_file k
    by (g ∷ gs) k = read_not k

kind_aims : (k : Kind) (a b c d f : ℕ) (xs : List Content) (x : Content) → next k a b c d xs ≡ writes f x → f ≡ aim k a b c d
kind_aims Copy a b c d f [] x e = read_not e
kind_aims Copy a b c d f (y ∷ xs) x e = same_file e
kind_aims Join a b c d f [] x e = read_not e
kind_aims Join a b c d f (y ∷ []) x e = read_not e
kind_aims Join a b c d f (y ∷ z ∷ xs) x e = same_file e
kind_aims Gather a b c d f [] x e = read_not e
kind_aims Gather a b c d f (l ∷ xs) x e = gather_aims b f xs x (listed l) e
kind_aims Choose a b c d f [] x e = read_not e
kind_aims Choose a b c d f (y ∷ []) x e = read_not e
kind_aims Choose a b c d f (y ∷ z ∷ xs) x e = same_file e
kind_aims Tally a b c d f [] x e = read_not e
kind_aims Tally a b c d f (y ∷ xs) x e = same_file e
kind_aims Check a b c d f [] x e = read_not e
kind_aims Check a b c d f (y ∷ []) x e = read_not e
kind_aims Check a b c d f (y ∷ z ∷ xs) x e = same_file e

abbrev pub target : Command → ℕ
target c = aim c.kind c.a c.b c.c c.d

-- of line l
abbrev pub target_at : List Command → ℕ → ℕ
target_at [] l = 0
target_at (c ∷ cs) zero = target c
target_at (c ∷ cs) (suc l) = target_at cs l

pub aims : (cs : List Command) (l f : ℕ) (xs : List Content) (x : Content) → wants cs l xs ≡ writes f x → f ≡ target_at cs l
aims [] l f xs x e = bad_not e
aims (c ∷ cs) zero f xs x e = kind_aims c.kind c.a c.b c.c c.d f xs x e
aims (c ∷ cs) (suc l) f xs x e = aims cs l f xs x e

-- ONE WRITER A FILE

module _ (w : Start) (to : ℕ → ℕ) (to_is : (l f : ℕ) (xs : List Content) (x : Content) → w.want l xs ≡ writes f x → f ≡ to l) where
  -- another write to the file of a line that has ended is a hazard
  wrote_hits : (t : Trace) → Steps w t → (j : ℕ) → Trace.ended j t ≡ true → (l : ℕ) (x : Content) → clash (wr l (to j) x) t ≡ true
  wrote_hits [] r j e l x = absurd (both_ways false refl e)
  wrote_hits (a ∷ t) r j e l x = by (eqb j (line a)) refl a r.0 refl e (λ k. wrote_hits t r.1 j k l x)
    where
      by : (q : Bool) → eqb j (line a) ≡ q → (b : Event) → Ok w t b → a ≡ b → ends (cond q (b ∷ mine j t) (mine j t)) ≡ true → (Trace.ended j t ≡ true → clash (wr l (to j) x) t ≡ true) → clash (wr l (to j) x) (b ∷ t) ≡ true
      by false d b o s k ih = or_right _ _ (ih k)
      by true d (rd m f y) o s k ih = or_right _ _ (ih k)
      by true d (wr m f y) o s k ih =
          let same : j ≡ m = eqb-true _ _ d ∙ ap line s in
          rw (same, to_is m f _ y o.wants, eq-eqb (to m) (to m) refl)

  pub one_writer : (t : Trace) → Steps w t → (i j : ℕ) → (i ≡ j → ⊥) → Trace.ended i t ≡ true → Trace.ended j t ≡ true → to i ≡ to j → ⊥
  one_writer [] r i j ne e f same = both_ways false refl e
  one_writer (a ∷ t) r i j ne e f same = by (eqb i (line a)) refl (eqb j (line a)) refl a r.0 refl e f (λ k m. one_writer t r.1 i j ne k m same)
    where
      first : (b : Event) (m : ℕ) (g : ℕ) (y : Content) → b ≡ wr m g y → Ok w t b → (k : ℕ) → Trace.ended k t ≡ true → to m ≡ to k → ⊥
      first b m g y s o k ended-k eq =
          let o' : Ok w t (wr m g y) = rw s at o in
          let file : g ≡ to k = to_is m g _ y o'.wants ∙ eq in
          both_ways _ o'.clear (rw file (wrote_hits t r.1 k ended-k m y))

      by : (p : Bool) → eqb i (line a) ≡ p → (q : Bool) → eqb j (line a) ≡ q → (b : Event) → Ok w t b → a ≡ b →
          ends (cond p (b ∷ mine i t) (mine i t)) ≡ true → ends (cond q (b ∷ mine j t) (mine j t)) ≡ true → (Trace.ended i t ≡ true → Trace.ended j t ≡ true → ⊥) → ⊥
      by true d true c b o s k m ih = ne (eqb-true _ _ d ∙ sym (eqb-true _ _ c))
      by false d false c b o s k m ih = ih k m
      by true d false c (rd n g y) o s k m ih = ih k m
      by false d true c (rd n g y) o s k m ih = ih k m
      by true d false c (wr n g y) o s k m ih = let own : i ≡ n = eqb-true _ _ d ∙ ap line s in first (wr n g y) n g y refl o j m (ap to (sym own) ∙ same)
      by false d true c (wr n g y) o s k m ih = let own : j ≡ n = eqb-true _ _ c ∙ ap line s in first (wr n g y) n g y refl o i k (ap to (sym own) ∙ sym same)
