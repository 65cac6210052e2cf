-- The cases, each with what it is expected to come to.
use Rattle.std.specs.Prelude.{◌∷◌, ◌++◌, codes}
use Rattle.model.specs.Words.{true, false, List, [], ℕ, replicate, Option, Some, None, Ok, Err}
use Rattle.model.specs.declared.run.Entry.{Entry}
use Rattle.model.specs.declared.run.HazardKind.{HazardKind}
use Rattle.model.specs.declared.run.Stop.{Stop}
use Rattle.model.specs.declared.run.HazardKind.TheVariants.{ReadWrite, SpeculativeWriteRead}
use Rattle.model.specs.declared.run.Fault.TheVariants.{Hazard, BadList}
use Rattle.model.specs.declared.answers.BuildRefusal.TheVariants.{Stopped}
use Rattle.model.specs.Contents.{Content}
use Rattle.model.specs.Acts.{stop_at}
use Rattle.model.specs.Lay.{Have}
use Rattle.model.specs.Promise.{Act}
use Rattle.proved_cases.specs.Runs.{script_order, highest_line_first}
use Rattle.proved_cases.specs.Comes.{Ending, Case}

-- FILES: four with labels, and their contents

abbrev a : ℕ
a = 0

abbrev b : ℕ
b = 1

abbrev c : ℕ
c = 2

abbrev d : ℕ
d = 3

-- a, b, c and d with these contents; they get the numbers 1 to 4 if no two are equal
abbrev four : Content → Content → Content → Content → List Have
four w x y z = record { file = a; bytes = w } ∷ record { file = b; bytes = x } ∷ record { file = c; bytes = y } ∷ record { file = d; bytes = z } ∷ []

-- a with this content, and each other file with its letter
abbrev having : Content → List Have
having x = four x (codes "B") (codes "C") (codes "D")

-- a text of the labels and these lines
abbrev script : List ℕ → List ℕ
script lines = codes "file 00 a\nfile 01 b\nfile 02 c\nfile 03 d\n" ++ lines

-- ACTS AND ENTRIES

abbrev reads : ℕ → Content → Act
reads f x = record { wrote = false; file = f; bytes = Some x }

abbrev writes : ℕ → Content → Act
writes f x = record { wrote = true; file = f; bytes = Some x }

-- entries of line l for file f and the content with the number n
abbrev read : ℕ → ℕ → ℕ → Entry
read l f n = record { line = l; wrote = false; file = f; number = n }

abbrev write : ℕ → ℕ → ℕ → Entry
write l f n = record { line = l; wrote = true; file = f; number = n }

-- line l stops at the later of two entries
abbrev hazard : HazardKind → ℕ → ℕ → Entry → Entry → Stop
hazard k l f e n = stop_at l (Hazard (record { kind = k; file = f; earlier = e; later = n }))

-- ENDINGS

-- kept, by the first stop if there was one, and how many lines were executed; none is skipped
abbrev kept : Option Stop → ℕ → List (List Act) → List Have → Ending
kept first executed acts files = record { answer = Ok (record { first = first; executed = executed; skipped = 0 }); number = None; acts = acts; files = files }

-- stopped, by the number that tells it, the last stop, the first one, and how many lines were executed; none is skipped
abbrev stopped : ℕ → Stop → Stop → ℕ → List (List Act) → List Have → Ending
stopped number y first executed acts files = record {
  answer = Err (Stopped y (record { first = Some first; executed = executed; skipped = 0 }));
  number = Some number;
  acts = acts;
  files = files;
}

-- THE CASES

-- a read, a write, then read-write, lines 0 and 0; the second run stops as the first
abbrev copy_itself : Case
copy_itself =
    let y = hazard ReadWrite 0 a (read 0 a 1) (write 0 a 1) in
    record {
      text = script (codes "copy a a");
      start = having (codes "A");
      policy = script_order;
      expected = stopped 33 y y 2 ((reads a (codes "A") ∷ writes a (codes "A") ∷ []) ∷ []) (having (codes "A"));
    }

-- a tally of a file of n bytes writes this content
abbrev tally : ℕ → Content → Case
tally n sheets =
    let x = replicate n 65 in
    record {
      text = script (codes "tally a b");
      start = having x;
      policy = script_order;
      expected = kept None 1 ((reads a x ∷ writes b sheets ∷ []) ∷ []) (four x sheets (codes "C") (codes "D"));
    }

-- a gather of an empty list reads nothing but the list, and writes the empty content
abbrev gather_nothing : Case
gather_nothing = record {
  text = script (codes "gather a b");
  start = having [];
  policy = script_order;
  expected = kept None 1 ((reads a [] ∷ writes b [] ∷ []) ∷ []) (four [] [] (codes "C") (codes "D"));
}

-- a gather of a bad list reads it and stops with 35
abbrev bad_list : Content → Case
bad_list x = record {
  text = script (codes "gather a b");
  start = having x;
  policy = script_order;
  expected = stopped 35 (stop_at 0 BadList) (stop_at 0 BadList) 2 ((reads a x ∷ []) ∷ []) (having x);
}

-- a choose reads its first file, which has the content x, then this one, and writes what it read there
abbrev choose : Content → ℕ → Content → Case
choose x f y = record {
  text = script (codes "choose a b c d");
  start = having x;
  policy = script_order;
  expected = kept None 1 ((reads a x ∷ reads f y ∷ writes d y ∷ []) ∷ []) (four x (codes "B") (codes "C") y);
}

-- the first run stops with speculative write-read, lines 1 and 0, the second with read-write, lines 0 and 1
abbrev written_too_early : Case
written_too_early = record {
  text = script (codes "copy a b\ncopy c a");
  start = having (codes "A");
  policy = highest_line_first 8;
  expected =
      stopped 33 (hazard ReadWrite 1 a (read 0 a 1) (write 1 a 3)) (hazard SpeculativeWriteRead 0 a (write 1 a 3) (read 0 a 3)) 4
      ((reads a (codes "A") ∷ writes b (codes "A") ∷ []) ∷ (reads c (codes "C") ∷ writes a (codes "C") ∷ []) ∷ [])
      (having (codes "A"));
}

-- the first run stops with read-write, lines 1 and 0; the second is kept
abbrev read_too_early : Case
read_too_early = record {
  text = script (codes "copy a b\ncopy b c");
  start = having (codes "A");
  policy = highest_line_first 8;
  expected =
      kept (Some (hazard ReadWrite 0 b (read 1 b 2) (write 0 b 1))) 4
      ((reads a (codes "A") ∷ writes b (codes "A") ∷ []) ∷ (reads b (codes "A") ∷ writes c (codes "A") ∷ []) ∷ [])
      (four (codes "A") (codes "A") (codes "A") (codes "D"));
}

abbrev pub table : List Case
table =
    copy_itself ∷
    tally 63 (0 ∷ 0 ∷ 0 ∷ 0 ∷ []) ∷
    tally 100 (0 ∷ 0 ∷ 0 ∷ 1 ∷ []) ∷
    gather_nothing ∷
    bad_list (codes "010") ∷
    bad_list (codes "64") ∷
    choose (codes "yellow") b (codes "B") ∷
    choose [] c (codes "C") ∷
    written_too_early ∷
    read_too_early ∷
    []
