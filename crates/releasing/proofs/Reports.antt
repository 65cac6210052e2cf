-- The report of a build that asked a policy of patience 0, from a book without records, is the one that script order gives.
use Rattle.std.proofs.Common.{◌≡◌, ℕ, suc, List, [], ◌∷◌, ◌++◌, length, get_or, Some, None, Ok, Err, Option, Result, sym, refl, ap, ◌∙◌, arith}
use Rattle.model.specs.Acts.{Outcome, goes, stops}
use Rattle.model.specs.Begin.{begin_refusal}
use Rattle.model.specs.Build.{answer, Builds, refused, once, twice}
use Rattle.model.specs.Contents.{Pool, told}
use Rattle.model.specs.Order.{in_order}
use Rattle.model.specs.Past.{Past}
use Rattle.model.specs.Promise.{EndsAs, BuildPromised}
use Rattle.model.specs.World.{World}
use Rattle.model.specs.declared.answers.BuildRefusal.{BuildRefusal}
use Rattle.model.specs.declared.answers.BuildRefusal.TheVariants.{By, Stopped}
use Rattle.model.specs.declared.answers.Built.{Built}
use Rattle.model.specs.declared.command.Command.{Command}
use Rattle.model.specs.declared.run.Stop.{Stop}
use Rattle.model.proofs.Plain.{front_build_counted}
use Rattle.report.specs.Report.{held_line, file_lines, report_bytes}
use Rattle.releasing.specs.Printed.{build_report}
use Rattle.releasing.specs.Words.{kept_words, stopped_words, text_line, report_with}
use Rattle.releasing.proofs.Widths.{order_width}

-- the lines of the files depend on nothing but what each file's number stands for
same_lines : (labels : List (List ℕ)) (p q : Pool) (f : ℕ) (ms ns : List ℕ) → length ms ≡ length ns → ((i : ℕ) → told p (get_or ms i 0) ≡ told q (get_or ns i 0)) → file_lines labels p f ms ≡ file_lines labels q f ns
same_lines labels p q f [] [] long same = refl
same_lines labels p q f [] (n ∷ ns) long same = absurd (omega arith)
same_lines labels p q f (m ∷ ms) [] long same = absurd (omega arith)
same_lines labels p q f (m ∷ ms) (n ∷ ns) long same =
    ap (λ o. held_line f (get_or labels f []) o ++ file_lines labels p (suc f) ms) (same 0)
    ∙ ap (λ bytes. held_line f (get_or labels f []) (told q n) ++ bytes) (same_lines labels p q (suc f) ms ns (omega arith) (λ i. same (suc i)))

-- a build whose begin is accepted is not refused
abbrev NotRefused : Result Built BuildRefusal → Type 0
NotRefused (Ok b) = Unit {0}
NotRefused (Err (Stopped y b)) = Unit {0}
NotRefused (Err (By r)) = ⊥

not_refused : {cs : List Command} {m n k : ℕ} {u v : World} {a : Result Built BuildRefusal} → begin_refusal cs u ≡ None → Builds cs m n u a k v → NotRefused a
not_refused accepted (refused r d) = let wrong = d.does.0 in let z : ◌≡◌ {A = ℕ} 0 1 = cc in omega arith
not_refused accepted (once r) = tt
not_refused accepted (twice y e r q) = by e _
  where
    by : (e : Option Stop) (b : Built) → NotRefused (answer e b)
    by None b = tt
    by (Some x) b = tt

module _ (labels : List (List ℕ)) (cs : List Command) (u v : World) (past : Past u) (empty : u.records ≡ []) (accepted : begin_refusal cs u ≡ None) (long : length v.files ≡ length u.files) where
  pub reported : {k : ℕ} (a : Result Built BuildRefusal) → BuildPromised cs 0 0 a k u v → report_bytes a labels v.pool v.files ≡ build_report labels (length cs) (record { files = u.files; pool = u.pool }) (in_order cs u.files u.pool)
  reported {k} a h = by a (in_order cs u.files u.pool) refl h.calls (h.order past) (h.back past)
    where
      by :
          (a : Result Built BuildRefusal) (t : Outcome) → in_order cs u.files u.pool ≡ t → Builds cs 0 0 u a k v → EndsAs a v t →
          ((y : Stop) (b : Built) → a ≡ Err (Stopped y b) → (v.files ≡ u.files) × (v.pool ≡ u.pool)) →
          report_bytes a labels v.pool v.files ≡ build_report labels (length cs) (record { files = u.files; pool = u.pool }) t
      by (Ok b) (goes s) e calls agrees back =
          let width : length v.files ≡ length s.files = long ∙ sym (order_width cs u.files u.pool s e) in
          ap (λ o. report_with (kept_words o.executed o.skipped) labels v.pool v.files) (front_build_counted u v past empty cs k b calls)
          ∙ ap (λ bytes. text_line (kept_words (length cs) 0) ++ bytes) (same_lines labels v.pool s.pool 0 v.files s.files width agrees.0)
      by (Ok b) (stops s y) e calls agrees back = absurd agrees
      by (Err (Stopped y b)) (goes s) e calls ends back = absurd ends
      by (Err (Stopped y b)) (stops s x) e calls ends back =
          let found = back y b refl in
          ap (λ z. report_with (stopped_words z) labels v.pool v.files) ends.0
          ∙ ap (λ p. report_with (stopped_words x) labels p v.files) found.1
          ∙ ap (report_with (stopped_words x) labels u.pool) found.0
      by (Err (By r)) t e calls ends back = absurd (not_refused accepted calls)
