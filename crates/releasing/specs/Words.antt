-- The report by the words of its first line, where they do not come from a build.
use Rattle.std.specs.Prelude.{ℕ, List, [], ◌∷◌, ◌++◌, codes}
use Rattle.model.specs.Answers.{fault_refusal}
use Rattle.model.specs.Contents.{Pool}
use Rattle.model.specs.Numbers.{number_of}
use Rattle.model.specs.declared.refusal.Refusal.{Refusal}
use Rattle.model.specs.declared.run.Stop.{Stop}
use Rattle.report.specs.Report.{then_number, where_stopped, file_lines}

-- how many lines a kept build executed and skipped
abbrev pub kept_words : ℕ → ℕ → List ℕ
kept_words executed skipped = codes "kept executed" ++ then_number executed ++ codes " skipped" ++ then_number skipped

abbrev pub stopped_words : Stop → List ℕ
stopped_words y = codes "stopped" ++ then_number (number_of (fault_refusal y.fault)) ++ where_stopped y.line y.fault

abbrev pub refused_words : Refusal → List ℕ
refused_words r = codes "refused" ++ then_number (number_of r)

abbrev pub text_line : List ℕ → List ℕ
text_line words = words ++ 10 ∷ []

-- the first line, by its words, and the files
abbrev pub report_with : List ℕ → List (List ℕ) → Pool → List ℕ → List ℕ
report_with words labels p fs = text_line words ++ file_lines labels p 0 fs
