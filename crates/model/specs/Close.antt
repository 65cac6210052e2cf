-- CLOSE ends a run: it is kept, or put back to what begin found.
use Rattle.std.specs.Prelude.{◌≡◌}
use Rattle.model.specs.Words.{Bool, true, false, Option, Some, None, Result, Ok, Err, Refusal, Stop, Wish, Closed, CloseRefusal}
use Rattle.model.specs.declared.refusal.Refusal.TheVariants.{LinesLeft, NoRun}
use Rattle.model.specs.declared.answers.Wish.TheVariants as Wishes
use Rattle.model.specs.declared.answers.Closed.TheVariants.{Kept, PutBack}
use Rattle.model.specs.declared.answers.CloseRefusal.TheVariants.{By, Stopped}
use Rattle.model.specs.Contents.{cut}
use Rattle.model.specs.Book.{keeps}
use Rattle.model.specs.World.{World, lines}
use Rattle.model.specs.Begin.{Ticket}
use Rattle.model.specs.Step.{all_ended}

-- files and pool extent return to what begin noted; entries and notes stay
abbrev pub put_back : World → World
put_back w = record {
  files = w.notes.files;
  pool = cut w.notes.count w.pool;
  entries = w.entries;
  log_places = w.log_places;
  notes = w.notes;
  is_open = false;
  records = w.records;
  book_places = w.book_places;
}

-- each line in order gives an own record
abbrev pub kept : World → World
kept w = record {
  files = w.files;
  pool = w.pool;
  entries = w.entries;
  log_places = w.log_places;
  notes = w.notes;
  is_open = false;
  records = keeps w.notes.commands w.book_places w.entries 0 w.notes.commands w.records;
  book_places = w.book_places;
}

-- What a close does: nothing, or all is put back with an answer, or all is kept.
pub data Closing : Type 0 where
  nothing : Refusal → Closing
  back : Result Closed CloseRefusal → Closing
  keeping : Closing

-- of an open run, by its stop, the wish, and whether its lines have ended
abbrev pub closing_open : Option Stop → Wish → Bool → Closing
closing_open (Some y) wish done = back (Err (Stopped y))
closing_open None Wishes.PutBack done = back (Ok PutBack)
closing_open None Wishes.Keep false = back (Err (By LinesLeft))
closing_open None Wishes.Keep true = keeping

abbrev pub closing_live : Bool → Wish → World → Closing
closing_live false wish w = nothing NoRun
closing_live true wish w = closing_open w.notes.stop wish (all_ended (lines w) w.entries)

abbrev pub closing : Ticket → Wish → World → Closing
closing (Some r) wish w = nothing r
closing None wish w = closing_live w.is_open wish w

abbrev pub ClosesBy : Closing → Result Closed CloseRefusal → World → World → Type 0
ClosesBy (nothing r) a w v = (a ≡ Err (By r)) × (v ≡ w)
ClosesBy (back b) a w v = (a ≡ b) × (v ≡ put_back w)
ClosesBy keeping a w v = (a ≡ Ok Kept) × (v ≡ kept w)

abbrev pub Closes : Ticket → Wish → Result Closed CloseRefusal → World → World → Type 0
Closes t wish a w v = ClosesBy (closing t wish w) a w v
