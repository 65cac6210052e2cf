-- The refusal by which each answer that is no success is told.
use Rattle.model.specs.Words.{Refusal, Fault}
use Rattle.model.specs.declared.refusal.Refusal.TheVariants as R
use Rattle.model.specs.declared.run.Fault.TheVariants.{TooLong, NoRoom, Hazard, Absent, BadList}
use Rattle.model.specs.declared.answers.StepRefusal as Step
use Rattle.model.specs.declared.answers.StepRefusal.TheVariants as S
use Rattle.model.specs.declared.answers.CloseRefusal as Close
use Rattle.model.specs.declared.answers.CloseRefusal.TheVariants as C
use Rattle.model.specs.declared.answers.BuildRefusal as Build
use Rattle.model.specs.declared.answers.BuildRefusal.TheVariants as B

-- a fault of a line: 31 to 35
abbrev pub fault_refusal : Fault → Refusal
fault_refusal TooLong = R.WriteTooLong
fault_refusal NoRoom = R.PoolFull
fault_refusal (Hazard h) = R.HazardMet
fault_refusal Absent = R.FileAbsent
fault_refusal BadList = R.BadList

-- a step of a stopped run: 26
abbrev pub unstepped : Step.StepRefusal → Refusal
unstepped (S.By r) = r
unstepped (S.Stopped y) = R.RunStopped

-- a close of a stopped run: the number of its stop
abbrev pub unclosed : Close.CloseRefusal → Refusal
unclosed (C.By r) = r
unclosed (C.Stopped y) = fault_refusal y.fault

-- a build whose last run stopped: likewise
abbrev pub unbuilt : Build.BuildRefusal → Refusal
unbuilt (B.By r) = r
unbuilt (B.Stopped y b) = fault_refusal y.fault
