-- What is reported of a script that is laid and built from nothing is what its text prints.
use Rattle.std.proofs.Common.{◌≡◌, ℕ, ◌≤◌, false, List, length, replicate, Some, None, Ok, Err, Option, Result, sym, refl, ap, ◌∙◌, subst, append-nil, arith}
use Rattle.model.specs.Begin.{some_above}
use Rattle.model.specs.Calls.{on_lay, Did}
use Rattle.model.specs.Contents.{Pool, count}
use Rattle.model.specs.Lay.{Stock, laid, Laid}
use Rattle.model.specs.Past.{new, call}
use Rattle.model.specs.Promise.{BuildPromised}
use Rattle.model.specs.World.{World, stocked, UnlessOpen}
use Rattle.model.specs.declared.answers.BuildRefusal.{BuildRefusal}
use Rattle.model.specs.declared.answers.BuildRefusal.TheVariants.{By}
use Rattle.model.specs.declared.answers.Built.{Built}
use Rattle.model.specs.declared.refusal.Refusal.{Refusal}
use Rattle.model.specs.declared.refusal.Refusal.TheVariants.{NoRoomToLay}
use Rattle.report.specs.Report.{report_bytes}
use Rattle.script.specs.Haves.{haves_of}
use Rattle.script.specs.Text.{Meaning, reading}
use Rattle.script.specs.declared.answer.Refused.{Refused}
use Rattle.releasing.specs.Printed.{empty_pool, refusal_line, stock_report, script_report, printed}
use Rattle.releasing.specs.Starts.{AtStart}
use Rattle.releasing.specs.Words.{refused_words, text_line}
use Rattle.releasing.proofs.Begins.{laid_filed, begin_accepted}
use Rattle.releasing.proofs.Reports.{reported}

-- a laying that is refused is told as a build that is
abbrev pub as_build : Result (Unit {0}) Refusal → Result (Unit {0}) BuildRefusal
as_build (Ok x) = Ok x
as_build (Err r) = Err (By r)

-- absent files have no lines
absent_report : (r : Refusal) (labels : List (List ℕ)) (p : Pool) (fs : List ℕ) → fs ≡ replicate 64 0 → report_bytes (Err (By r)) labels p fs ≡ refusal_line r
absent_report r labels p fs absent = ap (report_bytes (Err (By r)) labels p) absent ∙ append-nil (text_line (refused_words r))

module _ (text : List ℕ) where
  -- a refused text, over absent files
  pub text_printed : (e : Refused) (labels : List (List ℕ)) (p : Pool) (fs : List ℕ) → Err e ≡ reading text → fs ≡ replicate 64 0 → report_bytes (Err (By e.refusal)) labels p fs ≡ printed text
  text_printed e labels p fs read absent = absent_report e.refusal labels p fs absent ∙ ap script_report read

  module _ (m : Meaning) (read : Ok m ≡ reading text) (w u : World) (start : AtStart w) where
    from_nothing : laid (haves_of m.haves) w.files w.pool ≡ laid (haves_of m.haves) (replicate 64 0) empty_pool
    from_nothing = ap (λ fs. laid (haves_of m.haves) fs w.pool) start.fresh.files ∙ ap (laid (haves_of m.haves) (replicate 64 0)) start.pool

    stock_printed : (o : Option Stock) → laid (haves_of m.haves) w.files w.pool ≡ o → stock_report m o ≡ printed text
    stock_printed o e = ap (stock_report m) (sym e ∙ from_nothing) ∙ ap script_report read

    -- no run is open
    lays : (a : Result (Unit {0}) Refusal) → Did (on_lay (haves_of m.haves) a) w u → Laid (laid (haves_of m.haves) w.files w.pool) a w u
    lays a d = subst (λ b. UnlessOpen b a w u (Laid (laid (haves_of m.haves) w.files w.pool) a w u)) start.fresh.is_open d.does

    -- a script that has no room
    lay_printed : (r : Refusal) → Did (on_lay (haves_of m.haves) (Err r)) w u → report_bytes (Err (By r)) m.labels u.pool u.files ≡ printed text
    lay_printed r d = by (laid (haves_of m.haves) w.files w.pool) refl (lays (Err r) d)
      where
        by : (o : Option Stock) → laid (haves_of m.haves) w.files w.pool ≡ o → Laid o (Err r) w u → report_bytes (Err (By r)) m.labels u.pool u.files ≡ printed text
        by None e f =
            let why : r ≡ NoRoomToLay = cc in
            absent_report r m.labels u.pool u.files (ap (λ x. x.files) f.1 ∙ start.fresh.files) ∙ ap refusal_line why ∙ stock_printed None e
        by (Some s) e f = let z : ◌≡◌ {A = ℕ} 0 1 = cc in absurd (omega arith)

    pub laying_printed : (a : Result (Unit {0}) Refusal) (x : BuildRefusal) → as_build a ≡ Err x → Did (on_lay (haves_of m.haves) a) w u → report_bytes (Err x) m.labels u.pool u.files ≡ printed text
    laying_printed (Ok y) x e d = let z : ◌≡◌ {A = ℕ} 0 1 = cc in absurd (omega arith)
    laying_printed (Err r) x e d =
        let why : x ≡ By r = cc in
        ap (λ b. report_bytes (Err b) m.labels u.pool u.files) why ∙ lay_printed r d

    -- a script that is built
    pub build_printed : {v : World} {k : ℕ} (a : Result Built BuildRefusal) → length m.commands ≤ 64 → Did (on_lay (haves_of m.haves) (Ok tt)) w u → BuildPromised m.commands 0 0 a k u v → length v.files ≡ length u.files → report_bytes a m.labels v.pool v.files ≡ printed text
    build_printed {v} a few d b long = by (laid (haves_of m.haves) w.files w.pool) refl (lays (Ok tt) d)
      where
        none_above : some_above (count w.pool) w.files ≡ false
        none_above = rw (start.fresh.files, start.pool)

        by : (o : Option Stock) → laid (haves_of m.haves) w.files w.pool ≡ o → Laid o (Ok (tt {0})) w u → report_bytes a m.labels v.pool v.files ≡ printed text
        by None e f = let z : ◌≡◌ {A = ℕ} 0 1 = cc in absurd (omega arith)
        by (Some s) e f =
            let is : u ≡ stocked w s.files s.pool w.records = f.1 in
            let closed = ap (λ x. x.is_open) is ∙ start.fresh.is_open in
            let log = ap (λ x. x.log_places) is ∙ start.log_places in
            let book = ap (λ x. x.book_places) is ∙ start.book_places in
            let filed : some_above (count u.pool) u.files ≡ false = rw is (laid_filed (haves_of m.haves) w.files w.pool s none_above e) in
            let accepted = begin_accepted m.commands u closed (omega arith) (omega arith) filed in
            reported m.labels m.commands u v (call (new start.fresh) (on_lay (haves_of m.haves) (Ok tt)) d) (ap (λ x. x.records) is ∙ start.fresh.records) accepted long a b
            ∙ ap (λ x. stock_report m (Some (record { files = x.files; pool = x.pool }))) is
            ∙ stock_printed (Some s) e
