-- Entries counted line by line: one more at the end, the room that is left, and what they tell of a line's state.
use Rattle.std.proofs.Common.{◌≡◌, ℕ, suc, ◌+◌, ◌*◌, ◌<◌, ◌≤◌, Bool, true, false, cond, not, ◌&&◌, eqb, ltb, List, [], ◌∷◌, ◌++◌, length, sym, refl, ap, ◌∙◌, arith}
use Rattle.std.proofs.lemmas.Bool.{ne_eqb, ltb-true, and_parts}
use Rattle.std.proofs.lemmas.List.Recursion.{and_push, or_push}
use Rattle.std.proofs.Math.Bool.{and_comm, or_comm}
use Rattle.model.specs.declared.run.Entry.{Entry}
use Rattle.model.specs.declared.run.LineState.TheVariants.{Waiting, Reading, Ended}
use Rattle.model.specs.Acts.{read_absent, state_by, line_state}
use Rattle.model.specs.Commands.{Want, reads, writes, bad}
use Rattle.model.specs.Contents.{Content, Pool}
use Rattle.model.specs.Hazards.{fresh, ended, has_read}
use Rattle.model.specs.Laws.{acts_made}
use Rattle.model.proofs.Counts.{ended_acted}
use Rattle.model.proofs.Room.{made_fresh, made_read, total_all, total_most, total_room}
use Rattle.runner.specs.Inner.{all_below, made}
use Rattle.runner.specs.States.{is_ended, is_waiting}

-- ONE MORE ENTRY counts the same at the end as at the start

pub made_push : (l : ℕ) (es : List Entry) (e : Entry) → made l (es ++ e ∷ []) ≡ made l (e ∷ es)
made_push l [] e = refl
made_push l (x ∷ es) e = ap (λ n. cond (eqb l x.line) (suc n) n) (made_push l es e) ∙ swap (eqb l x.line) (eqb l e.line) (made l es)
  where
    swap : (a b : Bool) (n : ℕ) → cond a (suc (cond b (suc n) n)) (cond b (suc n) n) ≡ cond b (suc (cond a (suc n) n)) (cond a (suc n) n)
    swap true true n = refl
    swap true false n = refl
    swap false true n = refl
    swap false false n = refl

pub ended_push : (l : ℕ) (es : List Entry) (e : Entry) → ended l (es ++ e ∷ []) ≡ ended l (e ∷ es)
ended_push l es e = or_push (ended l) (λ d. eqb l d.line && d.wrote) refl (λ d ds. refl) es e ∙ or_comm (ended l es) (eqb l e.line && e.wrote)

pub fresh_push : (l : ℕ) (es : List Entry) (e : Entry) → fresh l (es ++ e ∷ []) ≡ fresh l (e ∷ es)
fresh_push l es e = and_push (fresh l) (λ d. not (eqb l d.line)) refl (λ d ds. refl) es e ∙ and_comm (fresh l es) (not (eqb l e.line))

pub below_push : (n : ℕ) (es : List Entry) (e : Entry) → all_below n (es ++ e ∷ []) ≡ all_below n (e ∷ es)
below_push n es e = and_push (all_below n) (λ d. ltb d.line n) refl (λ d ds. refl) es e ∙ and_comm (all_below n es) (ltb e.line n)

-- THE ROOM

-- the entries of a line are counted as its acts
made_is : (l : ℕ) (es : List Entry) → made l es ≡ acts_made l es
made_is l [] = refl
made_is l (e ∷ es) = by (eqb l e.line) (made_is l es)
  where
    by : (b : Bool) → made l es ≡ acts_made l es → cond b (suc (made l es)) (made l es) ≡ cond b 1 0 + acts_made l es
    by true h = omega arith
    by false h = omega arith

none_above : (n : ℕ) (es : List Entry) → all_below n es ≡ true → (l : ℕ) → n ≤ l → acts_made l es ≡ 0
none_above n [] b l h = refl
none_above n (e ∷ es) b l h =
    let p = and_parts (ltb e.line n) (all_below n es) b in
    let lt = ltb-true e.line n p.0 in
    rw (ne_eqb l e.line (λ s. omega arith)) (omega (arith, none_above n es p.1 l h))

module _ (es : List Entry) (most : (l : ℕ) → made l es ≤ 17) where
  few : (l : ℕ) → acts_made l es ≤ 17
  few l = omega (arith, most l, made_is l es)

  pub all_most : (n : ℕ) → all_below n es ≡ true → length es ≤ 17 * n
  all_most n b = omega (arith, total_all n es (none_above n es b), total_most n es few)

  -- where line l has j acts left, so have they all
  pub room_left : (n l j : ℕ) → all_below n es ≡ true → l < n → made l es + j ≤ 17 → length es + j ≤ 17 * n
  room_left n l j b lt r = omega (arith, total_all n es (none_above n es b), total_room n l es few lt, made_is l es)

-- A LINE

pub fresh_none : (l : ℕ) (es : List Entry) → fresh l es ≡ true → made l es ≡ 0
fresh_none l es h = made_is l es ∙ made_fresh l es h

-- before its write all its entries are reads
pub all_reads : (p : Pool) (l : ℕ) (es : List Entry) → ended l es ≡ false → length (has_read p l es) ≡ made l es
all_reads p l es h = sym (made_is l es ∙ made_read p l es h)

-- its state tells whether it has ended, and whether it has begun
pub state_ended : (k : List Content → Want) (l : ℕ) (p : Pool) (es : List Entry) → is_ended (line_state k l p es) ≡ ended l es
state_ended k l p es = by (ended l es) (fresh l es) (read_absent l es) (k (has_read p l es))
  where
    by : (a b c : Bool) (w : Want) → is_ended (cond a Ended (cond b Waiting (cond c Reading (state_by w)))) ≡ a
    by true b c w = refl
    by false true c w = refl
    by false false true w = refl
    by false false false (reads f) = refl
    by false false false (writes f x) = refl
    by false false false bad = refl

pub state_waiting : (k : List Content → Want) (l : ℕ) (p : Pool) (es : List Entry) → is_waiting (line_state k l p es) ≡ fresh l es
state_waiting k l p es = by (ended l es) (fresh l es) (read_absent l es) (k (has_read p l es)) (ended_acted l es)
  where
    by : (a b c : Bool) (w : Want) → (a ≡ true → b ≡ false) → is_waiting (cond a Ended (cond b Waiting (cond c Reading (state_by w)))) ≡ b
    by true b c w h = sym (h refl)
    by false true c w h = refl
    by false false true w h = refl
    by false false false (reads f) h = refl
    by false false false (writes f x) h = refl
    by false false false bad h = refl
