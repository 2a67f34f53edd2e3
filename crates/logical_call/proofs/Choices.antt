-- The move of a candidate is one of a run.
use Rattle.std.proofs.Common.{◌≡◌, ℕ, Bool, true, false, List, Option, Some, None, refl, sym, subst}
use Rattle.cam_types.specs.declared.script.Script.{Script}
use Rattle.run_model.specs.State.{State}
use Rattle.run_model.specs.declared.step.Move.{Move}
use Rattle.run_model.specs.declared.step.StepName.{StepName}
use Rattle.run_model.specs.declared.step.StepName.TheVariants.{Send, Release, Signal, Client, DropQueued, Fail, ReturnFailed, Shutter, SensorDone, Partial, TakeFill, FillDone, Deliver, Early, Finish}
use Rattle.run_model.specs.Played.{move_at}
use Rattle.run_model.specs.Ready.{move_of, silent}
use Rattle.settle.specs.Stepping.{picked}
use Rattle.logical_call.specs.Turns.{choice}
use Rattle.run_rows.proofs.NeverStuckJobs.{added_step}

still : (step : StepName) (t : Bool) (m : Move) → silent step t ≡ Some m → m.step ≡ step
still step true m h = let same : record { step = step; entry = None } ≡ m = cc in rw (← same) refl
still step false m h = absurd (cc)

-- the move of a step that is ready is of that step
pub step-of : (script : Script) (h : List Move) (step : StepName) (m : Move) → move_of script h step ≡ Some m → m.step ≡ step
step-of script h Send m made = added_step Send _ m made
step-of script h (Release b) m made = added_step (Release b) _ m made
step-of script h (Signal f) m made = added_step (Signal f) _ m made
step-of script h Client m made = added_step Client _ m made
step-of script h DropQueued m made = added_step DropQueued _ m made
step-of script h (Fail n) m made = added_step (Fail n) _ m made
step-of script h (ReturnFailed n s) m made = added_step (ReturnFailed n s) _ m made
step-of script h Shutter m made = added_step Shutter _ m made
step-of script h (SensorDone n) m made = still (SensorDone n) _ m made
step-of script h (Partial n) m made = added_step (Partial n) _ m made
step-of script h (TakeFill n s) m made = still (TakeFill n s) _ m made
step-of script h (FillDone n s) m made = still (FillDone n s) _ m made
step-of script h (Deliver n s) m made = added_step (Deliver n s) _ m made
step-of script h (Early n s) m made = added_step (Early n s) _ m made
step-of script h (Finish n s) m made = added_step (Finish n s) _ m made

by-step : (script : Script) (h : List Move) (o : Option StepName) (m : Move) → move_at script h o ≡ Some m → move_of script h m.step ≡ Some m
by-step script h None m made = absurd (cc)
by-step script h (Some step) m made = subst (λ (name : StepName). move_of script h name ≡ Some m) (sym (step-of script h step m made)) made

-- the move of a candidate is ready
pub choice-ready : (s : State) (number : ℕ) (m : Move) → choice s number ≡ Some m → move_of s.script s.history m.step ≡ Some m
choice-ready s number m h = by-step s.script s.history (picked s number) m h
