-- What `release` prints for a text: a function of the text alone, by script order.
use Rattle.std.specs.Prelude.{ℕ, List, [], length, replicate, Some, None, Ok, Err, Option, Result}
use Rattle.model.specs.Acts.{Outcome, goes, stops}
use Rattle.model.specs.Contents.{Pool}
use Rattle.model.specs.Lay.{Stock, laid}
use Rattle.model.specs.Order.{in_order}
use Rattle.model.specs.declared.refusal.Refusal.{Refusal}
use Rattle.model.specs.declared.refusal.Refusal.TheVariants.{NoRoomToLay}
use Rattle.script.specs.Haves.{haves_of}
use Rattle.script.specs.Text.{Meaning, reading}
use Rattle.script.specs.declared.answer.Refused.{Refused}
use Rattle.releasing.specs.Words.{kept_words, stopped_words, refused_words, text_line, report_with}

-- the pool that it begins with
abbrev pub empty_pool : Pool
empty_pool = record { contents = []; places = 1024; room = 65536 }

-- a refusal is told in one line
abbrev pub refusal_line : Refusal → List ℕ
refusal_line r = text_line (refused_words r)

-- The report of a build of n lines from a stock, by what script order comes to there: it is kept and each line is executed, or it stops and the stock is as it was.
abbrev pub build_report : List (List ℕ) → ℕ → Stock → Outcome → List ℕ
build_report labels n found (goes s) = report_with (kept_words n 0) labels s.pool s.files
build_report labels n found (stops s y) = report_with (stopped_words y) labels found.pool found.files

-- by the stock that the starting contents give
abbrev pub stock_report : Meaning → Option Stock → List ℕ
stock_report m None = refusal_line NoRoomToLay
stock_report m (Some s) = build_report m.labels (length m.commands) s (in_order m.commands s.files s.pool)

-- by what the text means; all 64 files are absent at first
abbrev pub script_report : Result Meaning Refused → List ℕ
script_report (Err e) = refusal_line e.refusal
script_report (Ok m) = stock_report m (laid (haves_of m.haves) (replicate 64 0) empty_pool)

abbrev pub printed : List ℕ → List ℕ
printed text = script_report (reading text)
