-- After a run is kept, each of its lines could be skipped at once by the record that it gave.
use Rattle.std.proofs.Common.{◌≡◌, ℕ, suc, ◌+◌, ◌<◌, ◌≤◌, Bool, true, false, ◌||◌, List, [], ◌∷◌, ◌++◌, length, Some, Ok, sym, refl, ap, ◌∙◌, ⊎_elim, arith}
use Rattle.std.proofs.lemmas.Bool.{cases_Bool, both_ways, and_parts, and_from}
use Rattle.model.specs.declared.command.Command.{Command}
use Rattle.model.specs.declared.answers.Closed.TheVariants.{Kept}
use Rattle.model.specs.Contents.{Content, Pool, holds, content}
use Rattle.model.specs.Commands.{Want, want}
use Rattle.model.specs.Acts.{State}
use Rattle.model.specs.Records.{Use, Record}
use Rattle.model.specs.Truth.{asks, follows}
use Rattle.model.specs.Book.{own, same_command, record_of, in_script, recorded}
use Rattle.model.specs.World.{state, lines}
use Rattle.model.specs.Step.{all_held, match, usable}
use Rattle.model.specs.Calls.{on_close}
use Rattle.model.specs.Past.{call, found}
use Rattle.model.specs.Laws.{KeptLinesRecorded}
use Rattle.model.proofs.Trace as Trace
use Rattle.model.proofs.Correspond.{start, ended_is}
use Rattle.model.proofs.Keys.{same_is}
use Rattle.model.proofs.Skip.{record_is}
use Rattle.model.proofs.Changes.{ending}
use Rattle.model.proofs.Sound.{sound, all_below}
use Rattle.model.proofs.Closing.{keeps_by, own_records_true}
use Rattle.model.proofs.Books.{good}
use Rattle.model.proofs.States.{table}
use Rattle.model.proofs.Writers.{target, target_at, aims, one_writer}
use Rattle.model.proofs.Placing.{Different, keeps_found, in_here}
use Rattle.model.proofs.Current.{current, match_current}

-- the numbers of a true record are in the pool
follows_held : (p : Pool) (k : List Content → Want) (rs : List Use) (xs : List Content) (u : Use) → follows p k xs rs u ≡ true → all_held p (u ∷ rs) ≡ true
follows_held p k [] xs u h = and_from _ _ (and_parts (holds p u.number) _ h).0 refl
follows_held p k (r ∷ rs) xs u h =
    let a = and_parts (holds p r.number) _ h in
    let b = and_parts (asks (k xs) r.file) _ a.1 in
    let ih = and_parts (holds p u.number) (all_held p rs) (follows_held p k rs (xs ++ content p r.number ∷ []) u b.1) in
    and_from _ _ ih.0 (and_from _ _ a.0 ih.1)

-- no two lines that write different files have the same command
in_at : (c : Command) (cs : List Command) → in_script c cs ≡ true → (j : ℕ) × (j < length cs) × (target_at cs j ≡ target c)
in_at c [] h = absurd (both_ways false refl h)
in_at c (d ∷ cs) h = by (same_command c d) refl h (in_at c cs)
  where
    by : (b : Bool) → same_command c d ≡ b → (b || in_script c cs) ≡ true → (in_script c cs ≡ true → (j : ℕ) × (j < length cs) × (target_at cs j ≡ target c)) → (j : ℕ) × (j < suc (length cs)) × (target_at (d ∷ cs) j ≡ target c)
    by true e h ih = (0, omega arith, ap target (sym (same_is c d e)))
    by false e h ih = let k = ih h in (suc k.0, omega (arith, k.1), k.2)

different : (cs : List Command) → ((i j : ℕ) → (i ≡ j → ⊥) → i < length cs → j < length cs → target_at cs i ≡ target_at cs j → ⊥) → Different cs
different [] h = tt
different (c ∷ cs) h = (
  ⊎_elim (λ e. let k = in_at c cs e in absurd (h 0 (suc k.0) (λ i. omega arith) (omega arith) (omega (arith, k.1)) (sym k.2))) (λ e. e) (cases_Bool (in_script c cs)),
  different cs (λ i j ne a b. h (suc i) (suc j) (λ e. ne (omega arith)) (omega arith) (omega arith)),
)

usable_is : (s : State) (q : Record) → own q.standing ≡ true → all_held s.pool (q.write ∷ q.reads) ≡ true → match s.files q.reads ≡ true → usable s (Some q) ≡ Some q
usable_is s q a b c = rw (a, b, c)

pub kept_lines_recorded : KeptLinesRecorded
kept_lines_recorded w v p t wish d l c at =
    let k = keeps_by t w v (ending t (Ok Kept) w v wish d.does) in
    let b = found p in
    let o = (sound p).open_run k.is_open in
    let g = o.going k.going in
    let cs = w.notes.commands in
    let same = ap length o.commands in
    let over : (i : ℕ) → i < length b.commands → Trace.ended i g.acts ≡ true = λ i lt. ended_is b.commands b.files b.pool (state w) g.acts g.corresponds i ∙ all_below (lines w) w.entries k.all i (omega arith) in
    let apart : Different b.commands = different b.commands (λ i j ne x y. one_writer (start b.commands b.files b.pool) (target_at b.commands) (aims b.commands) g.acts g.steps i j ne (over i x) (over j y)) in
    let few : length cs ≤ w.book_places = omega (arith, (table p k.is_open).few, o.book_room) in
    let none : 0 + l ≡ l = omega arith in
    let found_it : record_of c v.records ≡ Some (recorded l c w.entries) = ap (λ x. record_of c x.records) k.world ∙ rw none at (keeps_found cs w.book_places w.entries few 0 cs w.records (good p) (rw o.commands apart) (in_here cs) l c at) in
    let q = recorded l c w.entries in
    let noted = record_is v.pool c v.records q (own_records_true v (call p (on_close t wish (Ok Kept)) d)) found_it in
    let held = follows_held v.pool (want c) q.reads [] q.write (noted.true_if refl) in
    let match_now : match w.files q.reads ≡ true = match_current w.files l w.entries (current p k.is_open k.going) in
    let files_are : w.files ≡ v.files = sym (ap (λ x. x.files) k.world) in
    let entries_are : w.entries ≡ v.entries = sym (ap (λ x. x.entries) k.world) in
    ap (usable (state v)) found_it ∙ usable_is (state v) q refl held (rw files_are at match_now) ∙ ap (λ es. Some (recorded l c es)) entries_are
