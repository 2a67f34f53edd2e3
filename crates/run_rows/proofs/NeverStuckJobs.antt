-- A job that is out is of an open frame: the fill of a target that didn't come back, or the sensor's of a frame of which
-- nothing came back.
use Rattle.std.proofs.Common.{◌≡◌, ℕ, ◌==◌, Bool, true, false, ◌&&◌, not, List, [], ◌∷◌, Option, Some, None, refl, inl, inr}
use Rattle.std.proofs.lemmas.Bool.{and_parts, cases_Bool, false≢true, or_right}
use Rattle.run_model.specs.declared.step.Move.{Move}
use Rattle.run_model.specs.declared.step.StepName.{StepName}
use Rattle.run_model.specs.Ready.{adding, silent, where_entry}
use Rattle.std.proofs.lemmas.Bool.{eqb-true}
use Rattle.trace_model.specs.declared.entry.Entry.{Entry}

-- the step of a ready move is the step that was asked for
pub added_step : (step : StepName) (o : Option Entry) (m : Move) → adding step o ≡ Some m → m.step ≡ step
added_step step None m h = absurd (cc)
added_step step (Some e) m h = let same : record { step = step; entry = Some e } ≡ m = cc in rw (← same) refl

pub silent_test : (step : StepName) (t : Bool) (m : Move) → silent step t ≡ Some m → t ≡ true
silent_test step true m h = refl
silent_test step false m h = absurd (cc)

pub where_test : (step : StepName) (t : Bool) (o : Option Entry) (m : Move) → adding step (where_entry t o) ≡ Some m → t ≡ true
where_test step true o m h = refl
where_test step false o m h = absurd (cc)

-- ---- a fill that ended was taken, and a fill that was taken found the sensor done
