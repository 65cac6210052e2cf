-- The numbers of refusals; the numbers and names of kinds of commands, and how many files each names.
use Rattle.std.specs.Prelude.{◌≡◌, ℕ, List, cond, Option, Some, None, Ok, Err, Result, codes, ◌==◌}
use Rattle.model.specs.declared.command.Kind.{Kind}
use Rattle.model.specs.declared.command.Kind.TheVariants.{Copy, Join, Gather, Choose, Tally, Check}
use Rattle.model.specs.declared.command.UnknownKind.{UnknownKind}
use Rattle.model.specs.declared.refusal.Refusal.{Refusal}
use Rattle.model.specs.declared.refusal.Refusal.TheVariants.{
  TextTooLong,
  BadTextLine,
  BadLabel,
  ScriptFull,
  HaveTooLong,
  ImageSize,
  ImageLayout,
  TraceLength,
  TraceRule,
  NoRoomToLoad,
  SaveBufferShort,
  NoSuchRecord,
  ReportBufferShort,
  RunOpen,
  NoRoomToLay,
  LogTooSmall,
  BookTooSmall,
  UnknownContent,
  RunStopped,
  LinesEnded,
  LinesLeft,
  NoRun,
  WriteTooLong,
  PoolFull,
  HazardMet,
  FileAbsent,
  BadList,
}

-- the number by which a refusal is told
abbrev pub number_of : Refusal → ℕ
number_of TextTooLong = 1
number_of BadTextLine = 2
number_of BadLabel = 3
number_of ScriptFull = 4
number_of HaveTooLong = 5
number_of ImageSize = 6
number_of ImageLayout = 7
number_of TraceLength = 11
number_of TraceRule = 12
number_of NoRoomToLoad = 13
number_of SaveBufferShort = 14
number_of NoSuchRecord = 15
number_of ReportBufferShort = 16
number_of RunOpen = 20
number_of NoRoomToLay = 21
number_of LogTooSmall = 22
number_of BookTooSmall = 23
number_of UnknownContent = 24
number_of RunStopped = 26
number_of LinesEnded = 27
number_of LinesLeft = 28
number_of NoRun = 29
number_of WriteTooLong = 31
number_of PoolFull = 32
number_of HazardMet = 33
number_of FileAbsent = 34
number_of BadList = 35

-- the number of a kind of command
abbrev pub kind_number : Kind → ℕ
kind_number Copy = 1
kind_number Join = 2
kind_number Gather = 3
kind_number Choose = 4
kind_number Tally = 5
kind_number Check = 6

-- the kind that a number tells
abbrev pub kind_of : ℕ → Option Kind
kind_of n =
    cond (n == 1) (Some Copy)
    (cond (n == 2) (Some Join)
    (cond (n == 3) (Some Gather) (cond (n == 4) (Some Choose) (cond (n == 5) (Some Tally) (cond (n == 6) (Some Check) None)))))

-- the kind of a number, or an error with that number
abbrev pub kind_result : ℕ → Option Kind → Result Kind UnknownKind
kind_result n (Some k) = Ok k
kind_result n None = Err (record { number = n })

abbrev pub TellsKind : ℕ → Result Kind UnknownKind → Type 0
TellsKind n r = r ≡ kind_result n (kind_of n)

-- the word by which scripts name a kind
abbrev pub kind_name : Kind → List ℕ
kind_name Copy = codes "copy"
kind_name Join = codes "join"
kind_name Gather = codes "gather"
kind_name Choose = codes "choose"
kind_name Tally = codes "tally"
kind_name Check = codes "check"

-- how many files a command of a kind names
abbrev pub arity : Kind → ℕ
arity Copy = 2
arity Join = 3
arity Gather = 2
arity Choose = 4
arity Tally = 2
arity Check = 3
