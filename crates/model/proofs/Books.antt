-- The book has at most one record of a command, and no more records than places.
use Rattle.std.proofs.Common.{◌≡◌, ℕ, zero, suc, ◌≤◌, Bool, true, false, cond, ltb, List, [], ◌∷◌, ◌++◌, length, set, Some, None, Ok, Err, refl, ap, ◌∙◌, arith, length-set}
use Rattle.std.proofs.lemmas.List.{length-append}
use Rattle.std.proofs.lemmas.Bool.{or_parts, or_from, ltb-true}
use Rattle.std.proofs.lemmas.List.Recursion.{or_push}
use Rattle.model.specs.declared.command.Command.{Command}
use Rattle.model.specs.declared.run.Entry.{Entry}
use Rattle.model.specs.Contents.{Content, Pool}
use Rattle.model.specs.Records.{Record}
use Rattle.model.specs.Book.{same_command, in_script, own, recorded, has_record, replace, evict, keep, keeps, hint}
use Rattle.model.specs.World.{World}
use Rattle.model.specs.Load.{hints, hinted}
use Rattle.model.specs.Audit.{at_place, judged}
use Rattle.model.specs.Calls.{Call, on_lay, on_load, on_audit, on_begin, on_step, on_close, Does}
use Rattle.model.specs.Past.{Past, new, call}
use Rattle.model.specs.Promise.{Unique, OneRecordACommand}
use Rattle.model.proofs.Keys.{same_is, unlike}
use Rattle.model.proofs.Changes.{Change, same, lay_done, load_done, audit_done, back_done, keep_done, lay_change, load_change, audit_change, ending, close_change}

-- a list of the records of another, and perhaps of q
abbrev Only : Record → List Record → List Record → Type 0
Only q rs qs = (c : Command) → has_record c rs ≡ false → same_command c q.command ≡ false → has_record c qs ≡ false

replace_only : (q : Record) (rs : List Record) (c : Command) → has_record c rs ≡ false → has_record c (replace q rs) ≡ false
replace_only q [] c h = refl
replace_only q (r ∷ rs) c h = by (same_command q.command r.command) refl (replace_only q rs c)
  where
    k : (same_command c r.command ≡ false) × (has_record c rs ≡ false)
    k = or_parts (same_command c r.command) (has_record c rs) h

    by : (b : Bool) → same_command q.command r.command ≡ b → (has_record c rs ≡ false → has_record c (replace q rs) ≡ false) → has_record c (cond b (q ∷ rs) (r ∷ replace q rs)) ≡ false
    by true e ih = or_from _ _ (rw (same_is q.command r.command e) k.0) k.1
    by false e ih = or_from _ _ k.0 (ih k.1)

replace_unique : (q : Record) (rs : List Record) → Unique rs → Unique (replace q rs)
replace_unique q [] u = tt
replace_unique q (r ∷ rs) u = by (same_command q.command r.command) refl (replace_unique q rs u.1)
  where
    by : (b : Bool) → same_command q.command r.command ≡ b → Unique (replace q rs) → Unique (cond b (q ∷ rs) (r ∷ replace q rs))
    by true e ih = (rw (same_is q.command r.command e) u.0, u.1)
    by false e ih = (replace_only q rs r.command u.0, ih)

append_only : (q : Record) (rs : List Record) → Only q rs (rs ++ q ∷ [])
append_only q rs c h s = or_push (has_record c) (λ r. same_command c r.command) refl (λ r qs. refl) rs q ∙ or_from _ _ h s

append_unique : (q : Record) (rs : List Record) → Unique rs → has_record q.command rs ≡ false → Unique (rs ++ q ∷ [])
append_unique q [] u h = (refl, tt)
append_unique q (r ∷ rs) u h =
    let k = or_parts (same_command q.command r.command) (has_record q.command rs) h in
    (append_only q rs r.command u.0 (unlike q.command r.command k.0), append_unique q rs u.1 k.1)

evict_only : (cs : List Command) (q : Record) (rs : List Record) → Only q rs (evict cs q rs)
evict_only cs q [] c h s = refl
evict_only cs q (r ∷ rs) c h s = by (in_script r.command cs) (or_parts (same_command c r.command) (has_record c rs) h) (evict_only cs q rs c)
  where
    by : (b : Bool) → (same_command c r.command ≡ false) × (has_record c rs ≡ false) → (has_record c rs ≡ false → same_command c q.command ≡ false → has_record c (evict cs q rs) ≡ false) → has_record c (cond b (r ∷ evict cs q rs) (q ∷ rs)) ≡ false
    by true k ih = or_from _ _ k.0 (ih k.1 s)
    by false k ih = or_from _ _ s k.1

evict_unique : (cs : List Command) (q : Record) (rs : List Record) → Unique rs → has_record q.command rs ≡ false → Unique (evict cs q rs)
evict_unique cs q [] u h = tt
evict_unique cs q (r ∷ rs) u h = by (in_script r.command cs) (or_parts (same_command q.command r.command) (has_record q.command rs) h) (evict_unique cs q rs u.1)
  where
    by : (b : Bool) → (same_command q.command r.command ≡ false) × (has_record q.command rs ≡ false) → (has_record q.command rs ≡ false → Unique (evict cs q rs)) → Unique (cond b (r ∷ evict cs q rs) (q ∷ rs))
    by true k ih = (evict_only cs q rs r.command u.0 (unlike q.command r.command k.0), ih k.1)
    by false k ih = (k.1, u.1)

hint_only : (q : Record) (rs : List Record) → Only q rs (hint q rs)
hint_only q [] c h s = or_from _ _ s refl
hint_only q (r ∷ rs) c h s = by (same_command q.command r.command) (own r.standing) (or_parts (same_command c r.command) (has_record c rs) h) (hint_only q rs c)
  where
    by : (b d : Bool) → (same_command c r.command ≡ false) × (has_record c rs ≡ false) → (has_record c rs ≡ false → same_command c q.command ≡ false → has_record c (hint q rs) ≡ false) → has_record c (cond b (cond d (r ∷ rs) (q ∷ rs)) (r ∷ hint q rs)) ≡ false
    by true true k ih = h
    by true false k ih = or_from _ _ s k.1
    by false d k ih = or_from _ _ k.0 (ih k.1 s)

hint_unique : (q : Record) (rs : List Record) → Unique rs → Unique (hint q rs)
hint_unique q [] u = (refl, tt)
hint_unique q (r ∷ rs) u = by (same_command q.command r.command) refl (own r.standing) (hint_unique q rs u.1)
  where
    by : (b : Bool) → same_command q.command r.command ≡ b → (d : Bool) → Unique (hint q rs) → Unique (cond b (cond d (r ∷ rs) (q ∷ rs)) (r ∷ hint q rs))
    by true e true ih = u
    by true e false ih = (rw (same_is q.command r.command e) u.0, u.1)
    by false e d ih = (hint_only q rs r.command u.0 (unlike q.command r.command e), ih)

audit_only : (p : Pool) (rs : List Record) (k : ℕ) (r : Record) → at_place rs k ≡ Some r → (c : Command) → has_record c (set rs k (judged p r)) ≡ has_record c rs
audit_only p [] k r e c = refl
audit_only p (q ∷ rs) zero r e c = let same : q ≡ r = cc in rw same
audit_only p (q ∷ rs) (suc k) r e c = rw (audit_only p rs k r e c)

audit_unique : (p : Pool) (rs : List Record) (k : ℕ) (r : Record) → at_place rs k ≡ Some r → Unique rs → Unique (set rs k (judged p r))
audit_unique p [] k r e u = tt
audit_unique p (q ∷ rs) zero r e u = let same : q ≡ r = cc in (rw same at u.0, u.1)
audit_unique p (q ∷ rs) (suc k) r e u = (audit_only p rs k r e q.command ∙ u.0, audit_unique p rs k r e u.1)

-- PLACES

replace_length : (q : Record) (rs : List Record) → length (replace q rs) ≡ length rs
replace_length q [] = refl
replace_length q (r ∷ rs) = by (same_command q.command r.command) (replace_length q rs)
  where
    by : (b : Bool) → length (replace q rs) ≡ length rs → length (cond b (q ∷ rs) (r ∷ replace q rs)) ≡ suc (length rs)
    by true ih = refl
    by false ih = ap suc ih

evict_length : (cs : List Command) (q : Record) (rs : List Record) → length (evict cs q rs) ≡ length rs
evict_length cs q [] = refl
evict_length cs q (r ∷ rs) = by (in_script r.command cs) (evict_length cs q rs)
  where
    by : (b : Bool) → length (evict cs q rs) ≡ length rs → length (cond b (r ∷ evict cs q rs) (q ∷ rs)) ≡ suc (length rs)
    by true ih = ap suc ih
    by false ih = refl

abbrev pub Good : ℕ → List Record → Type 0
Good places rs = Unique rs × (length rs ≤ places)

pub keep_good : (cs : List Command) (places : ℕ) (q : Record) (rs : List Record) → Good places rs → Good places (keep cs places q rs)
keep_good cs places q rs g = by (has_record q.command rs) refl (ltb (length rs) places) refl
  where
    by : (b : Bool) → has_record q.command rs ≡ b → (c : Bool) → ltb (length rs) places ≡ c → Good places (cond b (replace q rs) (cond c (rs ++ q ∷ []) (evict cs q rs)))
    by true d c e = (replace_unique q rs g.0, omega (arith, replace_length q rs, g.1))
    by false d true e = (append_unique q rs g.0 d, omega (arith, length-append rs (q ∷ []), ltb-true (length rs) places e))
    by false d false e = (evict_unique cs q rs g.0 d, omega (arith, evict_length cs q rs, g.1))

keeps_good : (cs : List Command) (places : ℕ) (es : List Entry) (l : ℕ) (left : List Command) (rs : List Record) → Good places rs → Good places (keeps cs places es l left rs)
keeps_good cs places es l [] rs g = g
keeps_good cs places es l (c ∷ left) rs g = keeps_good cs places es (suc l) left _ (keep_good cs places (recorded l c es) rs g)

hints_unique : (xs : List Content) (p : Pool) (qs rs : List Record) → Unique rs → Unique (hints xs p qs rs)
hints_unique xs p [] rs u = u
hints_unique xs p (q ∷ qs) rs u = hints_unique xs p qs _ (hint_unique (hinted xs p q) rs u)

-- ANY CALL

module _ (w v : World) (g : Good w.book_places w.records) where
  good_change : Change w v → Good v.book_places v.records
  good_change (same e) = rw e g
  good_change (lay_done hs s c e i) = rw i g
  good_change (load_done t p c e n i) = rw i (hints_unique t.contents p t.records w.records g.0, n)
  good_change (audit_done k r c e i) = rw i (audit_unique w.pool w.records k r e g.0, omega (arith, length-set w.records k (judged w.pool r), g.1))
  good_change (back_done c i) = rw i g
  good_change (keep_done c s a i) = rw i (keeps_good w.notes.commands w.book_places w.entries 0 w.notes.commands w.records g)

good_by : (w v : World) (c : Call) → Good w.book_places w.records → Does c w v → Good v.book_places v.records
good_by w v (on_lay hs a) g d = good_change w v g (lay_change w v hs a d)
good_by w v (on_load t a) g d = good_change w v g (load_change w v t a d)
good_by w v (on_audit k a) g d = good_change w v g (audit_change w v k a d)
good_by w v (on_begin cs None) g d = rw d.2 g
good_by w v (on_begin cs (Some r)) g d = good_change w v g (same d.1)
good_by w v (on_step t a (Ok st)) g d = rw d.world g
good_by w v (on_step t a (Err r)) g d = good_change w v g (same d.2)
good_by w v (on_close t wish a) g d = good_change w v g (close_change t a w v (ending t a w v wish d))

pub good : {w : World} → Past w → Good w.book_places w.records
good (new {w} e) = rw e.records (tt, omega arith)
good (call {w} {v} p c d) = good_by w v c (good p) d.does

pub one_record_a_command : OneRecordACommand
one_record_a_command w p = good p
