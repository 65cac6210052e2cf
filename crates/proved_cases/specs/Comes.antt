-- A case: a text and starting contents, a policy, and what a build is expected to come to; and what it does come to.
use Rattle.std.specs.Prelude.{◌≡◌, ◌∷◌, ◌++◌}
use Rattle.std.specs.List.{range_with_len}
use Rattle.model.specs.Words.{false, List, [], map, ℕ, suc, replicate, Option, Some, None, Result, Ok, Err}
use Rattle.model.specs.declared.command.Command.{Command}
use Rattle.model.specs.declared.refusal.Refusal.{Refusal}
use Rattle.model.specs.declared.answers.Built.{Built}
use Rattle.model.specs.declared.answers.BuildRefusal.{BuildRefusal}
use Rattle.model.specs.declared.answers.BuildRefusal.TheVariants.{By}
use Rattle.model.specs.declared.refusal.Refusal.TheVariants.{NoRoomToLay}
use Rattle.model.specs.Numbers.{number_of}
use Rattle.model.specs.Contents.{Content, Pool, told}
use Rattle.model.specs.Answers.{unbuilt}
use Rattle.model.specs.World.{World, lines}
use Rattle.model.specs.Lay.{Have, Stock, laid}
use Rattle.model.specs.Order.{in_order}
use Rattle.model.specs.Past.{Past}
use Rattle.model.specs.Build.{Builds}
use Rattle.model.specs.Promise.{Act, acts_of, EndsAs}
use Rattle.script.specs.Haves.{haves_of}
use Rattle.script.specs.Text.{Meaning, reading}
use Rattle.script.specs.declared.answer.Refused.{Refused}
use Rattle.proved_cases.specs.Runs.{Policy, Build, build}

-- What a build comes to.
pub record Ending : Type 0 where
  pub answer : Result Built BuildRefusal  -- with the first stop, and how many lines were executed and skipped
  pub number : Option ℕ  -- by which a refusal is told
  pub acts : List (List Act)  -- of each line in the last run
  pub files : List Have  -- that have a content after it

pub record Case : Type 0 where
  pub text : List ℕ
  pub start : List Have
  pub policy : Policy
  pub expected : Ending

-- WHAT IS TOLD OF A BUILD

abbrev pub number_told : Result Built BuildRefusal → Option ℕ
number_told (Ok b) = None
number_told (Err why) = Some (number_of (unbuilt why))

-- the acts of each line in the log
abbrev pub line_acts : World → List (List Act)
line_acts w = map (λ l. acts_of w.pool l w.entries) (range_with_len 0 (lines w))

abbrev pub with_bytes : ℕ → Option Content → List Have → List Have
with_bytes f None hs = hs
with_bytes f (Some x) hs = record { file = f; bytes = x } ∷ hs

-- the files that have a content, of those from f up whose numbers are given
abbrev pub present : Pool → ℕ → List ℕ → List Have
present p f [] = []
present p f (n ∷ ns) = with_bytes f (told p n) (present p (suc f) ns)

abbrev pub ending : Build → Ending
ending b = record { answer = b.answer; number = number_told b.answer; acts = line_acts b.last; files = present b.world.pool 0 b.world.files }

-- FROM A CASE TO ITS BUILD

-- nothing of a past, and room enough
abbrev pub nothing_laid : Stock
nothing_laid = record { files = replicate 64 0; pool = record { contents = []; places = 1024; room = 65536 } }

abbrev pub world_with : Stock → World
world_with s = record {
  files = s.files;
  pool = s.pool;
  entries = [];
  log_places = 1088;
  notes = record { commands = []; files = []; count = 0; stop = None; states = [] };
  is_open = false;
  records = [];
  book_places = 256;
}

-- a text or starting contents that are refused are told as a build that is
abbrev pub refused : Refusal → Build
refused why = record { answer = Err (By why); passes = 0; last = world_with nothing_laid; world = world_with nothing_laid }

abbrev pub built_on : Option Stock → Policy → List Command → Build
built_on None p cs = refused NoRoomToLay
built_on (Some s) p cs = build p 0 cs (world_with s)

-- what a case lays: its starting contents, and those of its text
abbrev pub starts : Case → Meaning → List Have
starts c m = c.start ++ haves_of m.haves

abbrev pub built_from : Result Meaning Refused → Case → Build
built_from (Err e) c = refused e.refusal
built_from (Ok m) c = built_on (laid (starts c m) nothing_laid.files nothing_laid.pool) c.policy m.commands

abbrev pub built : Case → Build
built c = built_from (reading c.text) c

abbrev pub comes_to : Case → Ending
comes_to c = ending (built c)

-- The text of a case is read and its contents are laid; what is computed is then a build of the model over a past, which is kept or stops as script order does.
pub record IsBuild (c : Case) : Type 0 where
  pub meaning : Meaning
  pub stock : Stock
  pub read : reading c.text ≡ Ok meaning
  pub lays : laid (starts c meaning) nothing_laid.files nothing_laid.pool ≡ Some stock
  pub past : Past (world_with stock)
  pub builds : Builds meaning.commands c.policy.patience 0 (world_with stock) (built c).answer (built c).passes (built c).world
  pub order : EndsAs (built c).answer (built c).world (in_order meaning.commands stock.files stock.pool)
