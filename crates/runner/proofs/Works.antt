-- What a working step leaves: the record that it finds, the room that it has, the facts of a log, and the world.
use Rattle.std.proofs.Common.{◌≡◌, ℕ, ◌+◌, ◌<◌, ◌≤◌, Bool, true, false, cond, ◌&&◌, List, ◌∷◌, length, min, get_or, set, Some, None, Option, Ok, Err, Result, sym, refl, ap, ◌∙◌, inl, inr, arith}
use Rattle.std.proofs.lemmas.List.{get_or_default, get_or-set_same, get_or-set_other, length-take}
use Rattle.std.proofs.lemmas.Bool.{cases_eq}
use Rattle.std.specs.Result.{result_err}
use Rattle.lists.specs.Held.{held, room}
use Rattle.engine.specs.States.{outcome}
use Rattle.model.specs.declared.command.Command.{Command}
use Rattle.model.specs.declared.command.Kind.TheVariants.{Copy}
use Rattle.model.specs.declared.record.Record as Code
use Rattle.model.specs.declared.record.Use.{Use}
use Rattle.model.specs.declared.run.Entry.{Entry}
use Rattle.model.specs.declared.run.LineState.{LineState}
use Rattle.model.specs.declared.run.LineState.TheVariants.{Waiting}
use Rattle.model.specs.declared.run.Stop.{Stop}
use Rattle.model.specs.Acts.{State, Outcome, goes, stops, reached, stop_of, act, line_state}
use Rattle.model.specs.Book.{own, record_of}
use Rattle.model.specs.Commands.{Want, want, wants}
use Rattle.model.specs.Contents.{Content, Pool}
use Rattle.model.specs.Hazards.{fresh, ended}
use Rattle.model.specs.Records.{Record, said}
use Rattle.model.specs.Step.{left, match, all_held, usable, skips, skip, record_for, work_by, work, noting, moved, after_work}
use Rattle.model.specs.World.{World, state}
use Rattle.model.proofs.Sound.{left_parts}
use Rattle.runner.specs.declared.log.Inner.{Inner}
use Rattle.runner.specs.Inner.{Kept, made}
use Rattle.runner.specs.States.{is_ended, is_waiting}
use Rattle.runner.specs.Views.{notes, world_of}
use Rattle.runner.proofs.Grown.{Grown, only_same, act_grows, skip_grows}
use Rattle.runner.proofs.Lines.{lines_counted, wants_at, skips_at_place}
use Rattle.runner.proofs.Made.{room_left, fresh_none, state_ended, state_waiting}

-- what a line came to, by the stop that it met
abbrev pub stopping : Option Stop → State → Outcome
stopping None s = goes s
stopping (Some y) s = stops s y

-- the same by the answer of the act
pub as_stopping : (r : Result (Unit {0}) Stop) (y : Option Stop) (s : State) {o : Outcome} → y ≡ result_err r → outcome r s ≡ o → stopping y s ≡ o
as_stopping (Ok x) y s e h = rw e h
as_stopping (Err x) y s e h = rw e h

reached_is : (y : Option Stop) (s : State) → reached (stopping y s) ≡ s
reached_is None s = refl
reached_is (Some y) s = refl

stop_is : (y : Option Stop) (s : State) → stop_of (stopping y s) ≡ y
stop_is None s = refl
stop_is (Some y) s = refl

-- a record of the code has at most 16 reads
pub said_few : (x : Code.Record) → length (said x).reads ≤ 16
said_few x = omega (arith, length-take (min x.count 16) x.reads)

-- A LINE THAT IS LEFT
module _ (i : Inner) (l : ℕ) (m : left (length (notes i.run).commands) (held i.entries) l ≡ true) where
  parts : (l < length (notes i.run).commands) × (ended l (held i.entries) ≡ false)
  parts = left_parts (length (notes i.run).commands) (held i.entries) l m

  is_line : l < i.run.lines
  is_line = omega (arith, parts.0, lines_counted i.run)

  not_ended : ended l (held i.entries) ≡ false
  not_ended = parts.1

  within : i.run.lines ≤ length i.run.commands
  within = let a = i.run.long in let b = i.run.few in omega arith

  has_state : l < length i.run.states
  has_state = let a = i.run.wide in let b = i.run.few in let c = is_line in omega arith

  wants_here : (d : Command) → want (get_or i.run.commands l d) ≡ wants (notes i.run).commands l
  wants_here d = sym (wants_at i.run.commands i.run.lines l d is_line within)

  -- THE ROOM, and the facts of a log again
  module _ (kept : Kept i) where
    -- before its write a line has at most 16 entries
    one_more : made l (held i.entries) + 1 ≤ 17
    one_more = rw not_ended at (kept.few l)

    rooms : (j : ℕ) → made l (held i.entries) + j ≤ 17 → length (held i.entries) + j ≤ room i.entries
    rooms j h =
        let most : (k : ℕ) → made k (held i.entries) ≤ 17 = λ k. omega (arith, kept.few k) in
        let r = room_left (held i.entries) most i.run.lines l j kept.inside is_line h in
        let g = kept.roomy in
        omega arith

    pub act_room : length (held i.entries) < room i.entries
    act_room = omega (arith, rooms 1 one_more)

    facts_again : (j : Inner) (k : List Content → Want) (p : Pool) → room j.entries ≡ room i.entries → j.run.lines ≡ i.run.lines → j.run.states ≡ set i.run.states l (line_state k l p (held j.entries)) → Grown l (held i.entries) (held j.entries) → Kept j
    facts_again j k p r n s g =
        let st = line_state k l p (held j.entries) in
        record {
          roomy = let h = kept.roomy in omega arith;
          inside = rw n (g.only.inside i.run.lines is_line kept.inside);
          few = λ o. elim (cases_eq o l) [
            | inl e ↦ rw e g.few
            | inr d ↦ rw (g.only.made_as o d, g.only.ended_as o d) (kept.few o)
          ];
          follows = λ o h. elim (cases_eq o l) [
            | inl e ↦
                let at : get_or j.run.states l Waiting ≡ st = ap (λ t. get_or t l Waiting) s ∙ get_or-set_same i.run.states l st Waiting has_state in
                rw e (ap is_ended at ∙ state_ended k l p (held j.entries), ap is_waiting at ∙ state_waiting k l p (held j.entries))
            | inr d ↦
                let at : get_or j.run.states o Waiting ≡ get_or i.run.states o Waiting = ap (λ t. get_or t o Waiting) s ∙ get_or-set_other i.run.states l o st Waiting d in
                let f = kept.follows o (omega arith) in
                (ap is_ended at ∙ f.0 ∙ sym (g.only.ended_as o d), ap is_waiting at ∙ f.1 ∙ sym (g.only.fresh_as o d))
          ];
        }

    pub kept_again : (y : Option Stop) (s : State) (j : Inner) → held j.entries ≡ s.entries → room j.entries ≡ room i.entries → j.run.lines ≡ i.run.lines → notes j.run ≡ noting (notes i.run) l s y → Grown l (held i.entries) s.entries → Kept j
    kept_again y s j h r n t g =
        let k = wants (notes i.run).commands l in
        let turned = ap (λ z. z.states) t ∙ ap (λ es. set i.run.states l (line_state k l s.pool es)) (sym h) in
        facts_again j k s.pool r n turned (rw (sym h) at g)

  -- THE WORLD of files, a pool and a book
  module _ (fs : List ℕ) (p : Pool) (rs : List Record) (n : ℕ) where
    abbrev w : World
    w = world_of fs p i rs n

    record_is : (d : Command) → record_for w l ≡ skips rs l (get_or i.run.commands l d) (state w)
    record_is d = skips_at_place rs l (state w) i.run.commands i.run.lines l d is_line within

    -- the record that the line finds, test by test
    module _ (kept : Kept i) (st : LineState) where
      by_record : (d : Command) (b : Bool) (o : Option Record) → b ≡ is_waiting (get_or i.run.states l st) → o ≡ record_of (get_or i.run.commands l d) rs → cond b (usable (state w) o) None ≡ record_for w l
      by_record d b o e f =
          ap (λ a. cond a (usable (state w) o) None) (e ∙ ap is_waiting (get_or_default i.run.states l st Waiting has_state) ∙ (kept.follows l is_line).1)
          ∙ ap (λ q. cond (fresh l (held i.entries)) (usable (state w) q) None) f
          ∙ sym (record_is d)

      pub not_waiting : false ≡ is_waiting (get_or i.run.states l st) → None ≡ record_for w l
      not_waiting e = by_record (record { kind = Copy; a = 0; b = 0; c = 0; d = 0 }) false _ e refl

      pub not_found : (d : Command) → true ≡ is_waiting (get_or i.run.states l st) → None ≡ record_of (get_or i.run.commands l d) rs → None ≡ record_for w l
      not_found d e f = by_record d true None e f

      pub by_tests : (d : Command) (q : Record) (us : List Use) (a b : Bool) → us ≡ q.reads → true ≡ is_waiting (get_or i.run.states l st) → Some q ≡ record_of (get_or i.run.commands l d) rs → a ≡ own q.standing → b ≡ (all_held p (q.write ∷ us) && match fs us) → cond (a && b) (Some q) None ≡ record_for w l
      by_tests d q us a b r e f t u =
          ap (λ z. cond (z && b) (Some q) None) t
          ∙ ap (λ z. cond (own q.standing && z) (Some q) None) (u ∙ ap (λ z. all_held p (q.write ∷ z) && match fs z) r)
          ∙ by_record d true (Some q) e f

    -- what came out is what the world's work comes to
    module _ (y : Option Stop) (s : State) (is_work : stopping y s ≡ work w l) where
      pub stops_as : y ≡ stop_of (work w l)
      stops_as = sym (stop_is y s) ∙ ap stop_of is_work

      pub world_after : (j : Inner) → held j.entries ≡ s.entries → room j.entries ≡ room i.entries → j.run.opened ≡ true → notes j.run ≡ noting (notes i.run) l s y → world_of s.files s.pool j rs n ≡ after_work w l (work w l)
      world_after j h r o t =
          ap (λ (es : List Entry). record { files = s.files; pool = s.pool; entries = es; log_places = room j.entries; notes = notes j.run; is_open = j.run.opened; records = rs; book_places = n }) h
          ∙ ap (λ (k : ℕ). record { files = s.files; pool = s.pool; entries = s.entries; log_places = k; notes = notes j.run; is_open = j.run.opened; records = rs; book_places = n }) r
          ∙ ap (λ (b : Bool). record { files = s.files; pool = s.pool; entries = s.entries; log_places = room i.entries; notes = notes j.run; is_open = b; records = rs; book_places = n }) o
          ∙ ap (moved w s) t
          ∙ ap (λ z. moved w z (noting (notes i.run) l z y)) (sym (reached_is y s))
          ∙ ap (λ z. moved w (reached (stopping y s)) (noting (notes i.run) l (reached (stopping y s)) z)) (sym (stop_is y s))
          ∙ ap (after_work w l) is_work

    -- the log whose line is turned after it came to s and met the stop y, if any
    pub record Turned (y : Option Stop) (s : State) (j : Inner) : Type 0 where
      pub entries : held j.entries ≡ s.entries
      pub rooms : room j.entries ≡ room i.entries
      pub lines : j.run.lines ≡ i.run.lines
      pub opened : j.run.opened ≡ true
      pub noted : notes j.run ≡ noting (notes i.run) l s y

    -- and what it is then
    pub record LeftBy (y : Option Stop) (s : State) (j : Inner) : Type 0 where
      pub kept : Kept j
      pub stop : y ≡ stop_of (work w l)
      pub world : world_of s.files s.pool j rs n ≡ after_work w l (work w l)

    -- AN ACT
    module _ (d : Command) (y : Option Stop) (s : State) (acted : stopping y s ≡ act (want (get_or i.run.commands l d)) l (state w)) where
      by_wants : stopping y s ≡ act (wants (notes i.run).commands l) l (state w)
      by_wants = acted ∙ ap (λ k. act k l (state w)) (wants_here d)

      pub act_works : None ≡ record_for w l → stopping y s ≡ work w l
      act_works f = by_wants ∙ ap (λ o. work_by o (notes i.run).commands l (state w)) f

      pub act_leaves : Kept i → Grown l (held i.entries) s.entries
      act_leaves kept =
          let same : (reached (act (wants (notes i.run).commands l) l (state w))).entries ≡ s.entries = ap (λ o. (reached o).entries) (sym by_wants) ∙ ap (λ z. z.entries) (reached_is y s) in
          rw same at (act_grows (notes i.run).commands l (state w) not_ended (one_more kept))

      -- what an act leaves, once the line is turned
      pub after_act : Kept i → None ≡ record_for w l → (j : Inner) → Turned y s j → LeftBy y s j
      after_act kept none j t =
          let works = act_works none in
          record {
            kept = kept_again kept y s j t.entries t.rooms t.lines t.noted (act_leaves kept);
            stop = stops_as y s works;
            world = world_after y s works j t.entries t.rooms t.opened t.noted;
          }

    -- A SKIP by a record: the line has made no act
    module _ (q : Record) (found : Some q ≡ record_for w l) (us : List Use) (are_reads : us ≡ q.reads) (few : length us ≤ 16) where
      is_fresh : fresh l (held i.entries) ≡ true
      is_fresh = by (fresh l (held i.entries)) _ (found ∙ record_is q.command)
        where
          by : (b : Bool) (o : Option Record) → Some q ≡ cond b o None → b ≡ true
          by true o k = refl
          by false o k = let z : ◌≡◌ {A = ℕ} 0 1 = cc in absurd (omega arith)

      fits : made l (held i.entries) + (length us + 1) ≤ 17
      fits = let z = fresh_none l (held i.entries) is_fresh in omega arith

      pub skip_room : Kept i → length (held i.entries) + length us < room i.entries
      skip_room kept = omega (arith, rooms kept (length us + 1) fits)

      module _ (y : Option Stop) (s : State) (skipped : stopping y s ≡ skip l us q.write (state w)) where
        pub skip_works : stopping y s ≡ work w l
        skip_works = skipped ∙ ap (λ z. skip l z q.write (state w)) are_reads ∙ ap (λ o. work_by o (notes i.run).commands l (state w)) found

        pub skip_leaves : Grown l (held i.entries) s.entries
        skip_leaves =
            let same : (reached (skip l us q.write (state w))).entries ≡ s.entries = ap (λ o. (reached o).entries) (sym skipped) ∙ ap (λ z. z.entries) (reached_is y s) in
            let z = fits in
            rw same at (skip_grows l us q.write (held i.entries) (state w) (only_same l (held i.entries)) not_ended (omega arith))

        -- what a skip leaves, once the line is turned
        pub after_skip : Kept i → (j : Inner) → Turned y s j → LeftBy y s j
        after_skip kept j t =
            record {
              kept = kept_again kept y s j t.entries t.rooms t.lines t.noted skip_leaves;
              stop = stops_as y s skip_works;
              world = world_after y s skip_works j t.entries t.rooms t.opened t.noted;
            }
