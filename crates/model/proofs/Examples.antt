-- The definitions at small scripts: what lines do, stops, a run out of order, a build with a second run, a skip and a wrong hint.
use Rattle.std.proofs.Common.{◌≡◌, ℕ, ◌+◌, ◌<◌, ◌≤◌, Bool, true, false, List, [], ◌∷◌, replicate, Some, None, Ok, refl, arith}
use Rattle.std.proofs.lemmas.Bool.{both_ways}
use Rattle.model.specs.declared.command.Kind.TheVariants.{Copy, Join, Gather}
use Rattle.model.specs.declared.command.Command.{Command}
use Rattle.model.specs.declared.run.Entry.{Entry}
use Rattle.model.specs.declared.run.HazardKind.TheVariants.{ReadWrite, SpeculativeWriteRead}
use Rattle.model.specs.declared.run.Fault.TheVariants.{NoRoom, Hazard, Absent, BadList}
use Rattle.model.specs.declared.run.Stop.{Stop}
use Rattle.model.specs.declared.run.LineState.TheVariants.{Waiting, Writing, Ended}
use Rattle.model.specs.declared.record.Standing.TheVariants.{Hint, Own, Struck}
use Rattle.model.specs.declared.answers.Stepped.{Stepped}
use Rattle.model.specs.Contents.{Pool}
use Rattle.model.specs.Commands.{listed, is_yes, sheets}
use Rattle.model.specs.Acts.{goes, stops, stop_of, stop_at}
use Rattle.model.specs.Order.{in_order}
use Rattle.model.specs.Records.{Record}
use Rattle.model.specs.Policies.{Asked, Front}
use Rattle.model.specs.World.{World, lines}
use Rattle.model.specs.Lay.{Have}
use Rattle.model.specs.Load.{Traced}
use Rattle.model.specs.Begin.{begun}
use Rattle.model.specs.Step.{left, record_for, skipping, work, after_work}
use Rattle.model.specs.Close.{put_back, kept}
use Rattle.model.specs.Calls.{on_lay, on_load, on_audit, on_begin, on_step, Did}
use Rattle.model.specs.Past.{Past, new, call, found, fronts}
use Rattle.model.specs.Build.{no_step, a_step, Whole, Builds, twice}

abbrev copies : ℕ → ℕ → Command
copies a b = record { kind = Copy; a = a; b = b; c = 0; d = 0 }

abbrev reads : ℕ → ℕ → ℕ → Entry
reads l f n = record { line = l; wrote = false; file = f; number = n }

abbrev writes : ℕ → ℕ → ℕ → Entry
writes l f n = record { line = l; wrote = true; file = f; number = n }

-- LINES

-- a tally of 63 bytes is 0 sheets, one of 100 bytes is 1
tallies : (sheets 63 ≡ 0 ∷ 0 ∷ 0 ∷ 0 ∷ []) × (sheets 100 ≡ 0 ∷ 0 ∷ 0 ∷ 1 ∷ [])
tallies = (refl, refl)

-- the lists ``, `0203`, `010` and `64`
lists : (listed [] ≡ Some []) × (listed (48 ∷ 50 ∷ 48 ∷ 51 ∷ []) ≡ Some (2 ∷ 3 ∷ [])) × (listed (48 ∷ 49 ∷ 48 ∷ []) ≡ None) × (listed (54 ∷ 52 ∷ []) ≡ None)
lists = (refl, refl, refl, refl)

-- a choose reads its second file where the first begins with `y`, and its third where it is empty
choices : (is_yes (121 ∷ 101 ∷ []) ≡ true) × (is_yes [] ≡ false)
choices = (refl, refl)

-- FILES: file 0 has `0203`, file 2 has `b`, file 3 has `c`

abbrev pool : Pool
pool = record { contents = (48 ∷ 50 ∷ 48 ∷ 51 ∷ []) ∷ (98 ∷ []) ∷ (99 ∷ []) ∷ []; places = 9; room = 99 }

abbrev files : List ℕ
files = 1 ∷ 0 ∷ 2 ∷ 3 ∷ replicate 60 0

-- `copy a a`: a read, a write, then read-write, lines 0 and 0
itself : in_order (copies 2 2 ∷ []) files pool ≡
    stops (record { files = files; pool = pool; entries = reads 0 2 2 ∷ writes 0 2 2 ∷ [] }) (stop_at 0 (Hazard (record { kind = ReadWrite; file = 2; earlier = reads 0 2 2; later = writes 0 2 2 })))
itself = refl

-- a gather reads its list, then each listed file, and writes `bc`, which is new to the pool
gathered : in_order (record { kind = Gather; a = 0; b = 1; c = 0; d = 0 } ∷ []) files pool ≡
    goes (record {
      files = 1 ∷ 4 ∷ 2 ∷ 3 ∷ replicate 60 0;
      pool = record { contents = (48 ∷ 50 ∷ 48 ∷ 51 ∷ []) ∷ (98 ∷ []) ∷ (99 ∷ []) ∷ (98 ∷ 99 ∷ []) ∷ []; places = 9; room = 99 };
      entries = reads 0 0 1 ∷ reads 0 2 2 ∷ reads 0 3 3 ∷ writes 0 1 4 ∷ [];
    })
gathered = refl

-- a gather of `b`, which is no list: the read is noted
bad_list : in_order (record { kind = Gather; a = 2; b = 1; c = 0; d = 0 } ∷ []) files pool ≡ stops (record { files = files; pool = pool; entries = reads 0 2 2 ∷ [] }) (stop_at 0 BadList)
bad_list = refl

-- an absent file: its read is noted
absent : in_order (copies 7 8 ∷ []) files pool ≡ stops (record { files = files; pool = pool; entries = reads 0 7 0 ∷ [] }) (stop_at 0 Absent)
absent = refl

-- a pool with no place for what a join writes: no act
full : stop_of (in_order (record { kind = Join; a = 2; b = 3; c = 9; d = 0 } ∷ []) files (record { contents = pool.contents; places = 3; room = 99 })) ≡ Some (stop_at 0 NoRoom)
full = refl

-- STEPS OF A RUN

abbrev next : World → ℕ → World
next w l = after_work w l (work w l)

abbrev did : World → ℕ → Stepped
did w l = record { line = l; skipped = skipping (record_for w l); stop = stop_of (work w l) }

abbrev asked : ℕ → ℕ → ℕ → Asked
asked m b a = record { patience = m; before = b; after = a }

front_zero : (left : ℕ → Bool) → left 0 ≡ true → Front left 0
front_zero left h = record { member = h; lowest = λ k lt. absurd (omega arith) }

front_one : (left : ℕ → Bool) → left 1 ≡ true → left 0 ≡ false → Front left 1
front_one left h e = record { member = h; lowest = λ k lt i. let zero_is : k ≡ 0 = omega arith in both_ways _ e (rw zero_is at i) }

-- the policy answers the front
takes : (w : World) (f m b : ℕ) → w.is_open ≡ true → w.notes.stop ≡ None → Front (left (lines w) w.entries) f → b ≤ m → Did (on_step None (asked m b 0) (Ok (did w f))) w (next w f)
takes w f m b o g h le = record {
  does = record {
    live = refl;
    is_open = o;
    going = g;
    front = f;
    leads = h;
    answer = record { bound = le; member = λ _. h.member; due = λ _. refl; astray = λ _. refl; taken = λ _. refl; passed = λ ne. absurd (ne refl) };
    skipped = refl;
    stop = refl;
    world = refl;
  };
}

-- it answers another line that is left
passes : (w : World) (f l m b : ℕ) → w.is_open ≡ true → w.notes.stop ≡ None → Front (left (lines w) w.entries) f → left (lines w) w.entries l ≡ true → (l ≡ f → ⊥) → b < m → Did (on_step None (asked m b (b + 1)) (Ok (did w l))) w (next w l)
passes w f l m b o g h in-set ne lt = record {
  does = record {
    live = refl;
    is_open = o;
    going = g;
    front = f;
    leads = h;
    answer = record { bound = omega arith; member = λ _. in-set; due = λ e. absurd (omega arith); astray = λ no. absurd (no h); taken = λ e. absurd (ne e); passed = λ _. refl };
    skipped = refl;
    stop = refl;
    world = refl;
  };
}

one_not_zero : ◌≡◌ {A = ℕ} 1 0 → ⊥
one_not_zero e = omega arith

-- without any past, and after a lay of those files
abbrev empty : World
empty = record {
  files = replicate 64 0;
  pool = record { contents = []; places = 9; room = 99 };
  entries = [];
  log_places = 34;
  notes = record { commands = []; files = []; count = 0; stop = None; states = [] };
  is_open = false;
  records = [];
  book_places = 64;
}

abbrev laid_out : World
laid_out = record { files = files; pool = pool; entries = []; log_places = 34; notes = empty.notes; is_open = false; records = []; book_places = 64 }

abbrev haves : List Have
haves = record { file = 0; bytes = 48 ∷ 50 ∷ 48 ∷ 51 ∷ [] } ∷ record { file = 2; bytes = 98 ∷ [] } ∷ record { file = 3; bytes = 99 ∷ [] } ∷ []

lays : Did (on_lay haves (Ok tt)) empty laid_out
lays = record { does = (refl, refl) }

-- TWO LINES OUT OF ORDER: file 2 to file 1, and file 3 to file 2, the highest line first

abbrev crossed : List Command
crossed = copies 2 1 ∷ copies 3 2 ∷ []

abbrev x₀ : World
x₀ = begun crossed laid_out

abbrev x₁ : World
x₁ = next x₀ 1

abbrev x₂ : World
x₂ = next x₁ 1

begins : Did (on_begin crossed None) laid_out x₀
begins = record { does = (refl, omega arith, refl) }

-- line 1 reads and writes; the front is line 0, which is passed twice
passed_once : Did (on_step None (asked 8 0 1) (Ok (did x₀ 1))) x₀ x₁
passed_once = passes x₀ 0 1 8 0 refl refl (front_zero _ refl) refl one_not_zero (omega arith)

passed_twice : Did (on_step None (asked 8 1 2) (Ok (did x₁ 1))) x₁ x₂
passed_twice = passes x₁ 0 1 8 1 refl refl (front_zero _ refl) refl one_not_zero (omega arith)

halfway : x₁.notes.states ≡ Waiting ∷ Writing ∷ replicate 62 Waiting
halfway = refl

-- line 0 reads what the higher line wrote: speculative write-read, lines 1 and 0; the read is in the log
too_late : ((did x₂ 0).stop ≡ Some (stop_at 0 (Hazard (record { kind = SpeculativeWriteRead; file = 2; earlier = writes 1 2 3; later = reads 0 2 3 })))) ×
    ((next x₂ 0).entries ≡ reads 1 3 3 ∷ writes 1 2 3 ∷ reads 0 2 3 ∷ [])
too_late = (refl, refl)

line_states : (next x₂ 0).notes.states ≡ Writing ∷ Ended ∷ replicate 62 Waiting
line_states = refl

-- script order of the same stops with read-write, lines 0 and 1
in_script_order : stop_of (in_order crossed files pool) ≡ Some (stop_at 1 (Hazard (record { kind = ReadWrite; file = 2; earlier = reads 0 2 2; later = writes 1 2 3 })))
in_script_order = refl

-- A BUILD THAT NEEDS ITS SECOND RUN: file 2 to file 3, and file 3 to file 1, by the same policy

abbrev chain : List Command
chain = copies 2 3 ∷ copies 3 1 ∷ []

abbrev a₀ : World
a₀ = begun chain laid_out

abbrev a₁ : World
a₁ = next a₀ 1

abbrev a₂ : World
a₂ = next a₁ 1

abbrev a₃ : World
a₃ = next a₂ 0

-- line 0 writes the file that line 1 has read
abbrev clash : Stop
clash = stop_at 0 (Hazard (record { kind = ReadWrite; file = 3; earlier = reads 1 3 3; later = writes 0 3 2 }))

abbrev first_run : Whole chain 8 0 (Some clash) laid_out (put_back (next a₃ 0))
first_run = record {
  opened = a₀;
  begin = record { does = (refl, omega arith, refl) };
  passes = 0;
  last = next a₃ 0;
  steps =
      a_step (a_step (a_step (a_step no_step
      1 (did a₀ 1) (passes a₀ 0 1 8 0 refl refl (front_zero _ refl) refl one_not_zero (omega arith)))
      2 (did a₁ 1) (passes a₁ 0 1 8 1 refl refl (front_zero _ refl) refl one_not_zero (omega arith)))
      0 (did a₂ 0) (takes a₂ 0 8 2 refl refl (front_zero _ refl) (omega arith)))
      0 (did a₃ 0) (takes a₃ 0 8 0 refl refl (front_zero _ refl) (omega arith));
  close = record { does = (refl, refl) };
}

abbrev b₀ : World
b₀ = begun chain (put_back (next a₃ 0))

abbrev b₁ : World
b₁ = next b₀ 0

abbrev b₂ : World
b₂ = next b₁ 0

abbrev b₃ : World
b₃ = next b₂ 1

abbrev done : World
done = kept (next b₃ 1)

abbrev second_run : Whole chain 0 0 None (put_back (next a₃ 0)) done
second_run = record {
  opened = b₀;
  begin = record { does = (refl, omega arith, refl) };
  passes = 0;
  last = next b₃ 1;
  steps =
      a_step (a_step (a_step (a_step no_step
      0 (did b₀ 0) (takes b₀ 0 0 0 refl refl (front_zero _ refl) (omega arith)))
      0 (did b₁ 0) (takes b₁ 0 0 0 refl refl (front_zero _ refl) (omega arith)))
      0 (did b₂ 1) (takes b₂ 1 0 0 refl refl (front_one _ refl refl) (omega arith)))
      0 (did b₃ 1) (takes b₃ 1 0 0 refl refl (front_one _ refl refl) (omega arith));
  close = record { does = (refl, refl) };
}

-- kept after a second run, executed 4, skipped 0
needs_two : Builds chain 8 0 laid_out (Ok (record { first = Some clash; executed = 4; skipped = 0 })) 0 done
needs_two = twice clash None first_run second_run

-- each line gave an own record
noted_down : done.records ≡
    record { command = copies 2 3; reads = record { file = 2; number = 2 } ∷ []; write = record { file = 3; number = 2 }; standing = Own } ∷
    record { command = copies 3 1; reads = record { file = 3; number = 2 } ∷ []; write = record { file = 1; number = 2 }; standing = Own } ∷ []
noted_down = refl

-- A SKIP: the same script again, and both lines are skipped, each in one step
abbrev again : World
again = begun chain done

skips_both : ((did again 0).skipped ≡ true) × ((did (next again 0) 1).skipped ≡ true) ×
    ((next (next again 0) 1).entries ≡ reads 0 2 2 ∷ writes 0 3 2 ∷ reads 1 3 2 ∷ writes 1 1 2 ∷ [])
skips_both = (refl, refl, refl)

-- A WRONG HINT: that the copy of file 2 to file 1 wrote `c`; it counts its contents from 1
abbrev wrong : Traced
wrong = record {
  contents = (98 ∷ []) ∷ (99 ∷ []) ∷ [];
  records = record { command = copies 2 1; reads = record { file = 2; number = 1 } ∷ []; write = record { file = 1; number = 2 }; standing = Hint } ∷ [];
}

abbrev hinted : Record
hinted = record { command = copies 2 1; reads = record { file = 2; number = 2 } ∷ []; write = record { file = 1; number = 3 }; standing = Hint }

abbrev with_hint : World
with_hint = record { files = files; pool = pool; entries = []; log_places = 34; notes = empty.notes; is_open = false; records = hinted ∷ []; book_places = 64 }

loads : Did (on_load (Ok wrong) (Ok tt)) laid_out with_hint
loads = record { does = (refl, refl) }

-- its reads match the files, and yet no line is skipped by it; an audit strikes it
not_trusted : (did (begun crossed with_hint) 0).skipped ≡ false
not_trusted = refl

strikes : Did (on_audit 0 (Ok Struck)) with_hint (record {
  files = files;
  pool = pool;
  entries = [];
  log_places = 34;
  notes = empty.notes;
  is_open = false;
  records = record { command = hinted.command; reads = hinted.reads; write = hinted.write; standing = Struck } ∷ [];
  book_places = 64;
})
strikes = record { does = (refl, refl) }

-- A PAST: what begin found is read off it, and how often a line was the front
abbrev past : Past x₂
past = call (call (call (call (new (record { files = refl; pool = refl; entries = refl; is_open = refl; records = refl })) _ lays) _ begins) _ passed_once) _ passed_twice

front_twice : (fronts 0 past ≡ 2) × ((found past).files ≡ files)
front_twice = (refl, refl)
