-- The log as a trace, told by contents. Assumes nothing.
use Rattle.std.proofs.Common.{◌≡◌, ℕ, Bool, true, false, cond, not, ◌&&◌, ◌||◌, eqb, ltb, List, [], ◌∷◌, ◌++◌, Some, None, Option, sym, refl, ◌∙◌, append_assoc, append-nil, arith}
use Rattle.std.proofs.lemmas.Bool.{or_parts, or_from, true≢false}
use Rattle.std.proofs.Math.Bool.{or-false}
use Rattle.model.specs.declared.run.Entry.{Entry}
use Rattle.model.specs.declared.run.HazardKind.TheVariants.{WriteWrite, ReadWrite, SpeculativeWriteRead}
use Rattle.model.specs.Contents.{Content, Pool, holds, content}
use Rattle.model.specs.Hazards.{has_read, ended, write_write, read_write, speculative_write_read, earliest, hazard_or, hazard}
use Rattle.model.specs.Promise.{Act, acts_of}
use Rattle.model.proofs.Trace as Trace
use Rattle.model.proofs.Trace.{Event, rd, wr, Trace, line, mine, seen, hits, clash}
use Rattle.model.proofs.Pools.{Grows, grows_holds}

abbrev pub event_by : Bool → ℕ → ℕ → Content → Event
event_by true l f x = wr l f x
event_by false l f x = rd l f x

abbrev pub event : Pool → Entry → Event
event p e = event_by e.wrote e.line e.file (content p e.number)

-- the entries after those of t
abbrev pub trace : Pool → Trace → List Entry → Trace
trace p t [] = t
trace p t (e ∷ es) = trace p (event p e ∷ t) es

pub trace_more : (p : Pool) (t : Trace) (es : List Entry) (e : Entry) → trace p t (es ++ e ∷ []) ≡ event p e ∷ trace p t es
trace_more p t [] e = refl
trace_more p t (d ∷ es) e = trace_more p (event p d ∷ t) es e

-- every number is in the pool
abbrev pub Numbered : Pool → List Entry → Type 0
Numbered p [] = Unit {0}
Numbered p (e ∷ es) = (holds p e.number ≡ true) × Numbered p es

pub numbered_more : (p : Pool) (es : List Entry) (e : Entry) → Numbered p es → holds p e.number ≡ true → Numbered p (es ++ e ∷ [])
numbered_more p [] e h k = (k, tt)
numbered_more p (d ∷ es) e h k = (h.0, numbered_more p es e h.1 k)

pub numbered_grown : (p q : Pool) → Grows p q → (es : List Entry) → Numbered p es → Numbered q es
numbered_grown p q g [] h = tt
numbered_grown p q g (e ∷ es) h = ((grows_holds p q g e.number h.0).0, numbered_grown p q g es h.1)

pub trace_grown : (p q : Pool) → Grows p q → (t : Trace) (es : List Entry) → Numbered p es → trace q t es ≡ trace p t es
trace_grown p q g t [] h = refl
trace_grown p q g t (e ∷ es) h = rw (grows_holds p q g e.number h.0).1 (trace_grown p q g (event p e ∷ t) es h.1)

module _ (p : Pool) (l : ℕ) where
  pub seen_trace : (t : Trace) (es : List Entry) → seen (mine l (trace p t es)) ≡ seen (mine l t) ++ has_read p l es
  seen_trace t [] = sym (append-nil _)
  seen_trace t (e ∷ es) = seen_trace (event p e ∷ t) es ∙ by e.wrote (eqb l e.line) refl
    where
      by : (b q : Bool) → eqb l e.line ≡ q →
          seen (mine l (event_by b e.line e.file (content p e.number) ∷ t)) ++ has_read p l es ≡
          seen (mine l t) ++ cond q (cond b (has_read p l es) (content p e.number ∷ has_read p l es)) (has_read p l es)
      by true true d = rw d
      by true false d = rw d
      by false true d = rw d (append_assoc (seen (mine l t)) _ _)
      by false false d = rw d

  pub ended_trace : (t : Trace) (es : List Entry) → Trace.ended l (trace p t es) ≡ (Trace.ended l t || ended l es)
  ended_trace t [] = elim (Trace.ended l t) as (λ b. b ≡ (b || false)) [ true ↦ refl | false ↦ refl ]
  ended_trace t (e ∷ es) = ended_trace (event p e ∷ t) es ∙ by e.wrote (eqb l e.line) refl (Trace.ended l t) refl
    where
      by : (b q : Bool) → eqb l e.line ≡ q → (c : Bool) → Trace.ended l t ≡ c →
          (Trace.ended l (event_by b e.line e.file (content p e.number) ∷ t) || ended l es) ≡ (c || ((q && b) || ended l es))
      by true true d true k = rw d
      by true true d false k = rw d
      by true false d true k = rw (d, k)
      by true false d false k = rw (d, k)
      by false true d true k = rw (d, k)
      by false true d false k = rw (d, k)
      by false false d true k = rw (d, k)
      by false false d false k = rw (d, k)

-- DEEDS

abbrev pub act_of : Event → Act
act_of (rd l f x) = record { wrote = false; file = f; bytes = Some x }
act_of (wr l f x) = record { wrote = true; file = f; bytes = Some x }

abbrev pub acts_in : Trace → List Act
acts_in [] = []
acts_in (a ∷ m) = acts_in m ++ act_of a ∷ []

module _ (p : Pool) (l : ℕ) where
  pub acts_trace : (t : Trace) (es : List Entry) → Numbered p es → acts_in (mine l (trace p t es)) ≡ acts_in (mine l t) ++ acts_of p l es
  acts_trace t [] h = sym (append-nil _)
  acts_trace t (e ∷ es) h = acts_trace (event p e ∷ t) es h.1 ∙ rw h.0 (by e.wrote (eqb l e.line) refl)
    where
      by : (b q : Bool) → eqb l e.line ≡ q →
          acts_in (mine l (event_by b e.line e.file (content p e.number) ∷ t)) ++ acts_of p l es ≡
          acts_in (mine l t) ++ cond q (record { wrote = b; file = e.file; bytes = Some (content p e.number) } ∷ acts_of p l es) (acts_of p l es)
      by true true d = rw d (append_assoc (acts_in (mine l t)) _ _)
      by true false d = rw d
      by false true d = rw d (append_assoc (acts_in (mine l t)) _ _)
      by false false d = rw d

-- HAZARDS

abbrev pub hit : Entry → Entry → Bool
hit n e = write_write n e || (read_write n e || speculative_write_read n e)

abbrev pub clashes : Entry → List Entry → Bool
clashes n [] = false
clashes n (e ∷ es) = hit n e || clashes n es

hits_hit : (p : Pool) (n e : Entry) → hits (event p n) (event p e) ≡ hit n e
hits_hit p n e = by n.wrote e.wrote
  where
    by : (b c : Bool) → hits (event_by b n.line n.file (content p n.number)) (event_by c e.line e.file (content p e.number)) ≡
        ((b && (c && eqb n.file e.file)) || ((b && (not c && eqb n.file e.file)) || (not b && (c && (eqb n.file e.file && ltb n.line e.line)))))
    by true true = sym (or-false _)
    by true false = sym (or-false _)
    by false true = refl
    by false false = refl

or_shift : (a b c : Bool) → ((a || b) || c) ≡ (b || (a || c))
or_shift true true c = refl
or_shift true false c = refl
or_shift false b c = refl

pub clash_trace : (p : Pool) (n : Entry) (t : Trace) (es : List Entry) → clash (event p n) (trace p t es) ≡ (clash (event p n) t || clashes n es)
clash_trace p n t [] = sym (or-false _)
clash_trace p n t (e ∷ es) = clash_trace p n (event p e ∷ t) es ∙ rw (hits_hit p n e) (or_shift (hit n e) (clash (event p n) t) (clashes n es))

not_first : (b : Bool) (e : Entry) (o : Option Entry) → cond b (Some e) o ≡ None → (b ≡ false) × (o ≡ None)
not_first true e o h = let z : ◌≡◌ {A = ℕ} 0 1 = cc in absurd (omega arith)
not_first false e o h = (refl, h)

all_quiet : (n : Entry) (es : List Entry) → earliest (write_write n) es ≡ None → earliest (read_write n) es ≡ None → earliest (speculative_write_read n) es ≡ None → clashes n es ≡ false
all_quiet n [] a b c = refl
all_quiet n (e ∷ es) a b c =
    let x = not_first (write_write n e) e _ a in
    let y = not_first (read_write n e) e _ b in
    let z = not_first (speculative_write_read n e) e _ c in
    or_from _ _ (or_from _ _ x.0 (or_from _ _ y.0 z.0)) (all_quiet n es x.1 y.1 z.1)

unmet : (n : Entry) (a b c : Option Entry) → hazard_or WriteWrite n a (hazard_or ReadWrite n b (hazard_or SpeculativeWriteRead n c None)) ≡ None → (a ≡ None) × (b ≡ None) × (c ≡ None)
unmet n (Some e) b c h = let z : ◌≡◌ {A = ℕ} 0 1 = cc in absurd (omega arith)
unmet n None (Some e) c h = let z : ◌≡◌ {A = ℕ} 0 1 = cc in absurd (omega arith)
unmet n None None (Some e) h = let z : ◌≡◌ {A = ℕ} 0 1 = cc in absurd (omega arith)
unmet n None None None h = (refl, refl, refl)

pub met_quiet : (n : Entry) (es : List Entry) → hazard n es ≡ None → clashes n es ≡ false
met_quiet n es h = let u = unmet n (earliest (write_write n) es) (earliest (read_write n) es) (earliest (speculative_write_read n) es) h in all_quiet n es u.0 u.1 u.2

parts : (n : Entry) (es : List Entry) → clashes n es ≡ false → (earliest (write_write n) es ≡ None) × (earliest (read_write n) es ≡ None) × (earliest (speculative_write_read n) es ≡ None)
parts n [] h = (refl, refl, refl)
parts n (e ∷ es) h =
    let q = or_parts (hit n e) _ h in
    let r = or_parts (write_write n e) _ q.0 in
    let s = or_parts (read_write n e) _ r.1 in
    let ih = parts n es q.1 in
    (skip (write_write n e) _ r.0 ih.0, skip (read_write n e) _ s.0 ih.1, skip (speculative_write_read n e) _ s.1 ih.2)
  where
    skip : (b : Bool) (o : Option Entry) → b ≡ false → o ≡ None → cond b (Some e) o ≡ None
    skip true o d k = absurd (true≢false d)
    skip false o d k = k

pub quiet_met : (n : Entry) (es : List Entry) → clashes n es ≡ false → hazard n es ≡ None
quiet_met n es h = let u = parts n es h in rw (u.0, u.1, u.2)
