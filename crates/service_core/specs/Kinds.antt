-- The kinds of steps, and the first step of a kind. (Our own choice.)
use Rattle.std.specs.Prelude.{ℕ, ◌==◌, Bool, List, Option, find}
use Rattle.run_model.specs.declared.step.Kind.{Kind}
use Rattle.run_model.specs.declared.step.Kind.TheVariants as kind
use Rattle.run_model.specs.declared.step.StepName.{StepName}
use Rattle.run_model.specs.declared.step.StepName.TheVariants.{Send, Release, Signal, Client, DropQueued, Fail, ReturnFailed, Shutter, SensorDone, Partial, TakeFill, FillDone, Deliver, Early, Finish}

abbrev pub kind_of : StepName → Kind
kind_of Send = kind.Send
kind_of (Release _) = kind.Release
kind_of (Signal _) = kind.Signal
kind_of Client = kind.Client
kind_of DropQueued = kind.DropQueued
kind_of (Fail _) = kind.Fail
kind_of (ReturnFailed _ _) = kind.ReturnFailed
kind_of Shutter = kind.Shutter
kind_of (SensorDone _) = kind.SensorDone
kind_of (Partial _) = kind.Partial
kind_of (TakeFill _ _) = kind.TakeFill
kind_of (FillDone _ _) = kind.FillDone
kind_of (Deliver _ _) = kind.Deliver
kind_of (Early _ _) = kind.Early
kind_of (Finish _ _) = kind.Finish

-- the place of a kind in the order of candidates
abbrev pub place_of : Kind → ℕ
place_of kind.Send = 0
place_of kind.Release = 1
place_of kind.Signal = 2
place_of kind.Client = 3
place_of kind.DropQueued = 4
place_of kind.Fail = 5
place_of kind.ReturnFailed = 6
place_of kind.Shutter = 7
place_of kind.SensorDone = 8
place_of kind.Partial = 9
place_of kind.TakeFill = 10
place_of kind.FillDone = 11
place_of kind.Deliver = 12
place_of kind.Early = 13
place_of kind.Finish = 14

-- the step is of the kind
abbrev pub is_of : Kind → StepName → Bool
is_of k step = place_of (kind_of step) == place_of k

-- the first of these steps that is of the kind
abbrev pub first_of : Kind → List StepName → Option StepName
first_of k steps = find (is_of k) steps
