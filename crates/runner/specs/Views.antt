-- The world that the parts stand for: what is free is dropped.
use Rattle.std.specs.Prelude.{ℕ, Bool, List, map, take}
use Rattle.files.specs.Tables.{numbers_of}
use Rattle.lists.specs.Held.{held, room}
use Rattle.model.specs.Contents.{Pool}
use Rattle.model.specs.Records.{Record, said}
use Rattle.model.specs.World.{Notes, World}
use Rattle.model.specs.declared.run.Entry.{Entry}
use Rattle.runner.specs.declared.book.Book.{Book}
use Rattle.runner.specs.declared.log.Inner.{Inner}
use Rattle.runner.specs.declared.log.Log.{Log}
use Rattle.runner.specs.declared.run.Run.{Run}

-- what is noted of a run
abbrev pub notes : Run → Notes
notes r = record { commands = take r.lines r.commands; files = numbers_of r.files; count = r.count; stop = r.stop; states = r.states }

-- what a log notes, its entries, how many it may have, and whether its run is open
abbrev pub notes_of : Log → Notes
notes_of l = notes l.inner.run

abbrev pub entries_of : Log → List Entry
entries_of l = held l.inner.entries

abbrev pub log_places : Log → ℕ
log_places l = room l.inner.entries

abbrev pub is_open : Log → Bool
is_open l = l.inner.run.opened

-- the records of a book, and how many it may have
abbrev pub records : Book → List Record
records b = map said (held b.list)

abbrev pub places : Book → ℕ
places b = room b.list

-- the world of files, a pool, a log without its facts, and the records and places of a book
abbrev pub world_of : List ℕ → Pool → Inner → List Record → ℕ → World
world_of fs p i rs n =
    record {
      files = fs;
      pool = p;
      entries = held i.entries;
      log_places = room i.entries;
      notes = notes i.run;
      is_open = i.run.opened;
      records = rs;
      book_places = n;
    }

-- the same of a log
abbrev pub world_with : List ℕ → Pool → Log → List Record → ℕ → World
world_with fs p l rs n = world_of fs p l.inner rs n

-- the same of a log and a book
abbrev pub world : List ℕ → Pool → Log → Book → World
world fs p l b = world_with fs p l (records b) (places b)
