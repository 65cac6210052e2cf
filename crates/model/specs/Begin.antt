-- BEGIN opens a run: it empties the log and notes the commands, the files and the pool's extent.
use Rattle.std.specs.Prelude.{◌≡◌, ◌||◌, ◌∷◌, ◌*◌, ◌≤◌}
use Rattle.model.specs.Words.{Bool, true, false, cond, List, [], ℕ, ltb, length, replicate, Option, Some, None, Command, Refusal}
use Rattle.model.specs.declared.refusal.Refusal.TheVariants.{RunOpen, LogTooSmall, BookTooSmall, UnknownContent}
use Rattle.model.specs.declared.run.LineState.TheVariants.{Waiting}
use Rattle.model.specs.Contents.{count}
use Rattle.model.specs.World.{World}

-- A ticket is live, or blank with the refusal of its begin.
abbrev pub Ticket : Type 0
Ticket = Option Refusal

-- the least number of places that a book must have
abbrev pub least_places : ℕ
least_places = 64

-- some file has a number above n
abbrev pub some_above : ℕ → List ℕ → Bool
some_above n [] = false
some_above n (f ∷ fs) = ltb n f || some_above n fs

abbrev pub begin_refusal : List Command → World → Option Refusal
begin_refusal cs w =
    cond w.is_open (Some RunOpen)
    (cond (ltb w.log_places (17 * length cs)) (Some LogTooSmall)
    (cond (ltb w.book_places least_places) (Some BookTooSmall)
    (cond (some_above (count w.pool) w.files) (Some UnknownContent) None)))

abbrev pub begun : List Command → World → World
begun cs w = record {
  files = w.files;
  pool = w.pool;
  entries = [];
  log_places = w.log_places;
  notes = record { commands = cs; files = w.files; count = count w.pool; stop = None; states = replicate 64 Waiting };
  is_open = true;
  records = w.records;
  book_places = w.book_places;
}

-- by the ticket that it hands out; a script has at most 64 lines
abbrev pub Begins : List Command → Ticket → World → World → Type 0
Begins cs None w v = (begin_refusal cs w ≡ None) × (length cs ≤ 64) × (v ≡ begun cs w)
Begins cs (Some r) w v = (begin_refusal cs w ≡ Some r) × (v ≡ w)
