-- What holds of every world that has a past: of an open run, that its acts so far are steps from what begin found.
use Rattle.std.proofs.Common.{◌≡◌, ℕ, zero, suc, ◌*◌, ◌<◌, ◌≤◌, Bool, true, false, cond, ltb, ◌⊎◌, List, [], ◌∷◌, length, get_or, set, Some, None, Ok, Err, Option, sym, refl, ap, ◌∙◌, subst, inl, inr, ⊎_elim, arith}
use Rattle.std.proofs.lemmas.Bool.{cases_lt, both_ways, and_parts, or_parts, ltb-false, ltb-true, not-true}
use Rattle.model.specs.declared.command.Command.{Command}
use Rattle.model.specs.declared.refusal.Refusal.{Refusal}
use Rattle.model.specs.declared.refusal.Refusal.TheVariants.{RunOpen, LogTooSmall, BookTooSmall, UnknownContent}
use Rattle.model.specs.declared.run.Entry.{Entry}
use Rattle.model.specs.declared.record.Standing.TheVariants.{Own, Struck}
use Rattle.model.specs.declared.answers.Stepped.{Stepped}
use Rattle.model.specs.Contents.{Content, Pool, count, put, cut}
use Rattle.model.specs.Commands.{Want, wants}
use Rattle.model.specs.Hazards.{ended}
use Rattle.model.specs.Acts.{State, Outcome, goes, stops, then, reached, stop_of, act}
use Rattle.model.specs.Order.{carry}
use Rattle.model.specs.Records.{Record}
use Rattle.model.specs.Truth.{true_in}
use Rattle.model.specs.Policies.{Asked}
use Rattle.model.specs.World.{World, state, lines}
use Rattle.model.specs.Load.{hints, hinted}
use Rattle.model.specs.Audit.{at_place, judged, finding}
use Rattle.model.specs.Begin.{Ticket, least_places, some_above, begin_refusal, begun}
use Rattle.model.specs.Step.{Worked, left, all_ended, record_for, work_by, work, after_work}
use Rattle.model.specs.Calls.{Call, on_lay, on_load, on_audit, on_begin, on_step, on_close, Does}
use Rattle.model.specs.Past.{Past, new, call, Found, found_by, found}
use Rattle.model.specs.Promise.{OwnTrue}
use Rattle.model.proofs.Trace.{Trace, Steps}
use Rattle.model.proofs.Pools.{Grows, grows_refl, grows_trans, grows_put}
use Rattle.model.proofs.Correspond.{start, Corresponds, acted, not_goes, goes_is}
use Rattle.model.proofs.Skip.{own_true_grown, skipped_is}
use Rattle.model.proofs.Keep.{hint_own_true, kept_own_true}
use Rattle.model.proofs.Order.{corresponds_new}
use Rattle.model.proofs.Growth.{Fine, fine_put, began_none, Base, base_put, base_grows, work_pool, laid_pool, puts_pool}
use Rattle.model.proofs.Changes.{Change, same, lay_done, load_done, audit_done, back_done, keep_done, lay_change, load_change, audit_change, ending, close_change}

-- RUNS

-- an open run that has not stopped, from what its begin found
pub record Going (b : Found) (s : State) : Type 0 where
  pub acts : Trace
  pub corresponds : Corresponds (start b.commands b.files b.pool) s acts
  pub steps : Steps (start b.commands b.files b.pool) acts

pub going_act : (b : Found) (l : ℕ) (s r : State) → Going b s → l < length b.commands → ended l s.entries ≡ false → act (wants b.commands l) l s ≡ goes r → Going b r
going_act b l s r g lt still e =
    let a = acted b.commands b.files b.pool s g.acts g.corresponds l r lt still e in
    record { acts = a.did ∷ g.acts; corresponds = a.next; steps = (a.ok, g.steps) }

-- what each act of a line keeps, all of them keep
pub carry_keeps :
    (P : State → Type 0) (k : List Content → Want) (l : ℕ) → ((s r : State) → P s → ended l s.entries ≡ false → act k l s ≡ goes r → P r) →
    (n : ℕ) (s r : State) → P s → carry k n l s ≡ goes r → P r
carry_keeps P k l keeps zero s r h e = subst P (goes_is e) h
carry_keeps P k l keeps (suc n) s r h e = by (ended l s.entries) refl (act k l s) refl e (λ u. carry_keeps P k l keeps n u r)
  where
    by : (c : Bool) → ended l s.entries ≡ c → (t : Outcome) → act k l s ≡ t → cond c (goes s) (then t (carry k n l)) ≡ goes r → ((u : State) → P u → carry k n l u ≡ goes r → P r) → P r
    by true d t i j ih = subst P (goes_is j) h
    by false d (goes u) i j ih = ih u (keeps s u h d i) j
    by false d (stops u y) i j ih = not_goes j

pub going_carry : (b : Found) (n l : ℕ) (s r : State) → Going b s → l < length b.commands → carry (wants b.commands l) n l s ≡ goes r → Going b r
going_carry b n l s r g lt e = carry_keeps (Going b) (wants b.commands l) l (λ u v h still i. going_act b l u v h lt still i) n s r g e

-- THE INVARIANT

pub record Open (b : Found) (w : World) : Type 0 where
  pub commands : w.notes.commands ≡ b.commands
  pub files : w.notes.files ≡ b.files
  pub count_is : w.notes.count ≡ count b.pool
  pub base : Base b.pool w.pool
  pub filed : (f : ℕ) → get_or b.files f 0 ≤ count b.pool
  pub fine : Fine b.pool
  pub own_true : OwnTrue b.pool w.records
  pub book_room : least_places ≤ w.book_places
  pub going : w.notes.stop ≡ None → Going b (state w)

pub record Sound (w : World) (b : Found) : Type 0 where
  pub fine : Fine w.pool
  pub closed : w.is_open ≡ false → OwnTrue w.pool w.records
  pub open_run : w.is_open ≡ true → Open b w

-- own records, in an open run
pub own_true_now : (b : Found) (w : World) → Open b w → OwnTrue w.pool w.records
own_true_now b w o = own_true_grown b.pool w.pool (base_grows b.pool w.pool o.base) w.records o.own_true

-- THE CALLS THAT NEITHER BEGIN NOR STEP

-- a pool that has only grown
record Grown (b : Pool) (p : Pool) : Type 0 where
  more : Grows b p
  fine : Fine p

grown_put : (b p : Pool) (x : Content) → Grown b p → Grown b (put p x)
grown_put b p x h = record { more = grows_trans b p (put p x) h.more (grows_put p x); fine = fine_put p x h.fine }

hints_own_true : (p : Pool) (xs : List Content) (qs rs : List Record) → OwnTrue p rs → OwnTrue p (hints xs p qs rs)
hints_own_true p xs [] rs h = h
hints_own_true p xs (q ∷ qs) rs h = hints_own_true p xs qs _ (hint_own_true p (hinted xs p q) refl rs h)

found_true : (p : Pool) (r : Record) → finding p r ≡ Own → true_in p r ≡ true
found_true p r = go (true_in p r)
  where
    go : (c : Bool) → cond c Own Struck ≡ Own → c ≡ true
    go true e = refl
    go false e = let z : ◌≡◌ {A = ℕ} 0 1 = cc in absurd (omega arith)

audit_own_true : (p : Pool) (rs : List Record) (k : ℕ) (r : Record) → at_place rs k ≡ Some r → OwnTrue p rs → OwnTrue p (set rs k (judged p r))
audit_own_true p [] k r e h = tt
audit_own_true p (q ∷ rs) zero r e h = (found_true p r, h.1)
audit_own_true p (q ∷ rs) (suc k) r e h = (h.0, audit_own_true p rs k r e h.1)

pub all_below : (n : ℕ) (es : List Entry) → all_ended n es ≡ true → (l : ℕ) → l < n → ended l es ≡ true
all_below zero es h l lt = absurd (omega arith)
all_below (suc n) es h l lt =
    let b = and_parts (ended n es) _ h in
    ⊎_elim (λ (k : l < n). all_below n es b.1 l k) (λ (k : n ≤ l). let same : l ≡ n = omega arith in rw same b.0) (cases_lt l n)

module _ (w v : World) (b : Found) (s : Sound w b) where
  -- a world with no open run
  sound_closed : v.is_open ≡ false → Fine v.pool → OwnTrue v.pool v.records → Sound v b
  sound_closed i f h = record { fine = f; closed = λ _. h; open_run = λ j. absurd (both_ways _ i j) }

  now_grown : Grown w.pool w.pool
  now_grown = record { more = grows_refl w.pool; fine = s.fine }

  sound_change : Change w v → Sound v b
  sound_change (same e) = rw e s
  sound_change (lay_done hs g c e i) =
      let f = laid_pool (Grown w.pool) (grown_put w.pool) hs w.files w.pool g now_grown e in
      sound_closed (ap (λ x. x.is_open) i ∙ c) (rw i f.fine) (rw i (own_true_grown w.pool g.pool f.more w.records (s.closed c)))
  sound_change (load_done t p c e n i) =
      let f = puts_pool (Grown w.pool) (grown_put w.pool) t.contents w.pool p now_grown e in
      sound_closed (ap (λ x. x.is_open) i ∙ c) (rw i f.fine) (rw i (hints_own_true p t.contents t.records w.records (own_true_grown w.pool p f.more w.records (s.closed c))))
  sound_change (audit_done k r c e i) =
      sound_closed (ap (λ x. x.is_open) i ∙ c) (rw i s.fine) (rw i (audit_own_true w.pool w.records k r e (s.closed c)))
  sound_change (back_done c i) =
      let o = s.open_run c in
      let cut_is : cut w.notes.count w.pool ≡ b.pool = ap (λ n. cut n w.pool) o.count_is ∙ o.base.began.cut_is in
      sound_closed (ap (λ x. x.is_open) i) (rw i (subst Fine (sym cut_is) o.fine)) (rw i (subst (λ q. OwnTrue q w.records) (sym cut_is) o.own_true))
  sound_change (keep_done c going all i) =
      let o = s.open_run c in
      let g = o.going going in
      let more = kept_own_true b.commands b.files b.pool (state w) g.acts g.corresponds g.steps w.book_places w.records (λ l lt. all_below (lines w) w.entries all l (rw o.commands lt)) (own_true_now b w o) in
      sound_closed (ap (λ x. x.is_open) i) (rw i s.fine) (rw i (rw o.commands more))

-- BEGIN

above_none : (n : ℕ) (fs : List ℕ) → some_above n fs ≡ false → (f : ℕ) → get_or fs f 0 ≤ n
above_none n [] h f = omega arith
above_none n (x ∷ fs) h zero = ltb-false n x (or_parts (ltb n x) _ h).0
above_none n (x ∷ fs) h (suc f) = above_none n fs (or_parts (ltb n x) _ h).1 f

no_refusal : {A : Type 0} {r : Refusal} → Some r ≡ None → A
no_refusal e = let z : ◌≡◌ {A = ℕ} 0 1 = cc in absurd (omega arith)

accepted : (a b c d : Bool) → cond a (Some RunOpen) (cond b (Some LogTooSmall) (cond c (Some BookTooSmall) (cond d (Some UnknownContent) None))) ≡ None → (a ≡ false) × (b ≡ false) × (c ≡ false) × (d ≡ false)
accepted true b c d h = no_refusal h
accepted false true c d h = no_refusal h
accepted false false true d h = no_refusal h
accepted false false false true h = no_refusal h
accepted false false false false h = (refl, refl, refl, refl)

-- what an accepted begin has tested
pub record Ready (cs : List Command) (w : World) : Type 0 where
  pub none_open : w.is_open ≡ false
  pub filed : (f : ℕ) → get_or w.files f 0 ≤ count w.pool
  pub log_room : 17 * length cs ≤ w.log_places
  pub book_room : least_places ≤ w.book_places

pub ready : (cs : List Command) (w : World) → begin_refusal cs w ≡ None → Ready cs w
ready cs w h =
    let a = accepted w.is_open (ltb w.log_places (17 * length cs)) (ltb w.book_places least_places) (some_above (count w.pool) w.files) h in
    record { none_open = a.0; filed = above_none (count w.pool) w.files a.3; log_room = ltb-false _ _ a.1; book_room = ltb-false _ _ a.2 }

sound_begin : (w v : World) (b : Found) → Sound w b → (cs : List Command) → begin_refusal cs w ≡ None → v ≡ begun cs w → Sound v (record { commands = cs; files = w.files; pool = w.pool })
sound_begin w v b s cs h e =
    let r = ready cs w h in
    rw e (record {
      fine = s.fine;
      closed = λ i. absurd (both_ways true i refl);
      open_run = λ _. record {
        commands = refl;
        files = refl;
        count_is = refl;
        base = record { began = began_none w.pool; fine = s.fine };
        filed = r.filed;
        fine = s.fine;
        own_true = s.closed r.none_open;
        book_room = r.book_room;
        going = λ g. record { acts = []; corresponds = corresponds_new cs w.files w.pool r.filed; steps = tt };
      };
    })

-- STEP

pub left_parts : (n : ℕ) (es : List Entry) (l : ℕ) → left n es l ≡ true → (l < n) × (ended l es ≡ false)
left_parts n es l h = let b = and_parts (ltb l n) _ h in (ltb-true l n b.0, not-true _ b.1)

-- a step is an act of its line, or all that is left of it
pub work_is : (w : World) (b : Found) → Open b w → (l : ℕ) → (work w l ≡ act (wants b.commands l) l (state w)) ⊎ (work w l ≡ carry (wants b.commands l) 17 l (state w))
work_is w b o l = by (record_for w l) refl
  where
    by : (q : Option Record) → record_for w l ≡ q → (work_by q w.notes.commands l (state w) ≡ act (wants b.commands l) l (state w)) ⊎ (work_by q w.notes.commands l (state w) ≡ carry (wants b.commands l) 17 l (state w))
    by None e = inl (ap (λ cs. act (wants cs l) l (state w)) o.commands)
    by (Some q) e =
        inr (sym (skipped_is w.notes.commands l (state w) w.records q (own_true_now b w o) o.base.fine.distinct o.base.fine.short e) ∙ ap (λ cs. carry (wants cs l) 17 l (state w)) o.commands)

module _ (w : World) (b : Found) (o : Open b w) (l : ℕ) where
  work_base : Base b.pool (reached (work w l)).pool
  work_base = work_pool (Base b.pool) (base_put b.pool) w l o.base

  work_going : (s : State) → Going b (state w) → l < length b.commands → ended l w.entries ≡ false → work w l ≡ goes s → Going b s
  work_going s g lt still e = ⊎_elim
      (λ i. going_act b l (state w) s g lt still (sym i ∙ e))
      (λ i. going_carry b 17 l (state w) s g lt (sym i ∙ e))
      (work_is w b o l)

  after_sound : (t : Outcome) → Base b.pool (reached t).pool → (stop_of t ≡ None → Going b (reached t)) → Sound (after_work w l t) b
  after_sound t p g = record {
    fine = p.fine;
    closed = λ i. absurd (both_ways true i refl);
    open_run = λ _. record {
      commands = o.commands;
      files = o.files;
      count_is = o.count_is;
      base = p;
      filed = o.filed;
      fine = o.fine;
      own_true = o.own_true;
      book_room = o.book_room;
      going = g;
    };
  }

sound_step : (w v : World) (b : Found) → Sound w b → (t : Ticket) (a : Asked) (st : Stepped) → Worked t a st w v → Sound v b
sound_step w v b s t a st d =
    let o = s.open_run d.is_open in
    let m = left_parts (lines w) w.entries st.line (d.answer.member d.leads) in
    rw d.world (after_sound w b o st.line (work w st.line) (work_base w b o st.line) (by o (rw o.commands at m.0) m.1 (work w st.line) refl))
  where
    by : (o : Open b w) → st.line < length b.commands → ended st.line w.entries ≡ false → (t : Outcome) → work w st.line ≡ t → stop_of t ≡ None → Going b (reached t)
    by o lt still (goes u) e i = work_going w b o st.line u (o.going d.going) lt still e
    by o lt still (stops u y) e i = let z : ◌≡◌ {A = ℕ} 0 1 = cc in absurd (omega arith)

-- ANY CALL

sound_by : (w v : World) (b : Found) (c : Call) → Sound w b → Does c w v → Sound v (found_by c w b)
sound_by w v b (on_lay hs a) s d = sound_change w v b s (lay_change w v hs a d)
sound_by w v b (on_load t a) s d = sound_change w v b s (load_change w v t a d)
sound_by w v b (on_audit k a) s d = sound_change w v b s (audit_change w v k a d)
sound_by w v b (on_begin cs None) s d = sound_begin w v b s cs d.0 d.2
sound_by w v b (on_begin cs (Some r)) s d = sound_change w v b s (same d.1)
sound_by w v b (on_step t q (Err r)) s d = sound_change w v b s (same d.2)
sound_by w v b (on_step t q (Ok st)) s d = sound_step w v b s t q st d
sound_by w v b (on_close t wish a) s d = sound_change w v b s (close_change t a w v (ending t a w v wish d))

pub sound : {w : World} (p : Past w) → Sound w (found p)
sound (new {w} e) = record {
  fine = rw e.pool (record { distinct = tt; short = λ n lt. absurd (omega arith); places = omega arith; room = omega arith });
  closed = λ _. rw e.records tt;
  open_run = λ i. absurd (both_ways _ e.is_open i);
}
sound (call {w} {v} p c d) = sound_by w v (found p) c (sound p) d.does
