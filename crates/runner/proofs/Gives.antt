-- Each line of a run gives its record to the book: it has at most sixteen reads, and what is left gives the records.
use Rattle.std.proofs.Common.{◌≡◌, ℕ, suc, ◌+◌, ◌≤◌, Bool, true, false, cond, ◌&&◌, ◌||◌, eqb, List, [], ◌∷◌, length, drop, ap, ◌∙◌, arith}
use Rattle.lists.specs.Held.{held, room}
use Rattle.model.specs.Book.{use_of, reads_of, keeps}
use Rattle.model.specs.Contents.{Pool}
use Rattle.model.specs.Hazards.{ended}
use Rattle.model.specs.Records.{Record}
use Rattle.model.specs.World.{World}
use Rattle.model.specs.declared.command.Command.{Command}
use Rattle.model.specs.declared.record.Use.{Use}
use Rattle.model.specs.declared.run.Entry.{Entry}
use Rattle.runner.specs.Inner.{made}
use Rattle.runner.specs.Views.{notes, records, places}
use Rattle.runner.specs.declared.book.Book.{Book}
use Rattle.runner.specs.declared.log.Inner.{Inner}

-- A line that has ended has an entry more than it has reads.

reads_step : (a b e : Bool) (u : Use) (us : List Use) (m : ℕ) → length us + cond e 1 0 ≤ m → length (cond a (cond b us (u ∷ us)) us) + cond ((a && b) || e) 1 0 ≤ cond a (suc m) m
reads_step true true true u us m h = omega arith
reads_step true true false u us m h = omega arith
reads_step true false true u us m h = omega arith
reads_step true false false u us m h = omega arith
reads_step false b e u us m h = h

reads_made : (l : ℕ) (es : List Entry) → length (reads_of l es) + cond (ended l es) 1 0 ≤ made l es
reads_made l [] = omega arith
reads_made l (e ∷ es) =
    reads_step (eqb l e.line) e.wrote (ended l es) (use_of e) (reads_of l es) (made l es) (reads_made l es)

few_by : (e : Bool) (n m : ℕ) → n + cond e 1 0 ≤ m → m + cond e 0 1 ≤ 17 → n ≤ 16
few_by true n m h k = omega arith
few_by false n m h k = omega arith

pub few_reads : (l : ℕ) (es : List Entry) → made l es + cond (ended l es) 0 1 ≤ 17 → length (reads_of l es) ≤ 16
few_reads l es h = few_by (ended l es) (length (reads_of l es)) (made l es) (reads_made l es) h

-- the first `line` lines have given their records: the book that began as b is b' now
pub record Given (cs : List Command) (es : List Entry) (b b' : Book) (line : ℕ) : Type 0 where
  pub rest : keeps cs (places b) es line (drop line cs) (records b') ≡ keeps cs (places b) es 0 cs (records b)
  pub room : places b' ≡ places b

-- the world of a run that is closed, with these records in the book
abbrev closed : List ℕ → Pool → Inner → List Record → ℕ → World
closed fs p i rs n =
    record {
      files = fs;
      pool = p;
      entries = held i.entries;
      log_places = room i.entries;
      notes = notes i.run;
      is_open = false;
      records = rs;
      book_places = n;
    }

pub same_closed : (fs : List ℕ) (p : Pool) (i : Inner) (rs qs : List Record) (m n : ℕ) → rs ≡ qs → m ≡ n → closed fs p i rs m ≡ closed fs p i qs n
same_closed fs p i rs qs m n e f = ap (λ l. closed fs p i l m) e ∙ ap (closed fs p i qs) f
