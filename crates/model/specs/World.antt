-- The world that the calls change: the files, the pool, the log and the book.
use Rattle.std.specs.Prelude.{◌≡◌}
use Rattle.model.specs.Words.{Bool, true, false, List, [], ℕ, length, replicate, Option, Result, Err, Command, Refusal, Entry, LineState, Stop}
use Rattle.model.specs.declared.refusal.Refusal.TheVariants.{RunOpen}
use Rattle.model.specs.Contents.{Pool}
use Rattle.model.specs.Acts.{State}
use Rattle.model.specs.Records.{Record}

-- What the log notes of its run: the commands, what begin found, the stop that it met, and a state for each of 64 lines.
pub record Notes : Type 0 where
  pub commands : List Command
  pub files : List ℕ
  pub count : ℕ  -- of the contents in the pool
  pub stop : Option Stop
  pub states : List LineState

pub record World : Type 0 where
  pub files : List ℕ  -- the number of each of the 64 files
  pub pool : Pool
  pub entries : List Entry  -- of the log, the oldest first
  pub log_places : ℕ
  pub notes : Notes  -- of the log's run; they stay when it is closed
  pub is_open : Bool  -- the log has an open run
  pub records : List Record  -- of the book
  pub book_places : ℕ

abbrev pub state : World → State
state w = record { files = w.files; pool = w.pool; entries = w.entries }

-- how many lines the log's run has
abbrev pub lines : World → ℕ
lines w = length w.notes.commands

-- Without any past.
pub record Fresh (w : World) : Type 0 where
  pub files : w.files ≡ replicate 64 0
  pub pool : w.pool.contents ≡ []
  pub entries : w.entries ≡ []
  pub is_open : w.is_open ≡ false
  pub records : w.records ≡ []

-- the world with other files, pool and records
abbrev pub stocked : World → List ℕ → Pool → List Record → World
stocked w fs p rs = record { files = fs; pool = p; entries = w.entries; log_places = w.log_places; notes = w.notes; is_open = w.is_open; records = rs; book_places = w.book_places }

-- A call is refused and nothing changes.
abbrev pub Refused : {A : Type 0} → Refusal → Result A Refusal → World → World → Type 0
Refused r a w v = (a ≡ Err r) × (v ≡ w)

-- Lay, load and audit are refused while a run is open; else they do as given.
abbrev pub UnlessOpen : {A : Type 0} → Bool → Result A Refusal → World → World → Type 0 → Type 0
UnlessOpen true a w v d = Refused RunOpen a w v
UnlessOpen false a w v d = d
