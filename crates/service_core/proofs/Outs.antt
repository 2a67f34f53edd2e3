-- Jobs that come back, and that no row has one out where none is.
use Rattle.std.proofs.Common.{◌≡◌, ℕ, Bool, true, false, not, List, [], ◌∷◌, Some, None, refl, sym, ap, ◌∙◌, is_some, map, subst}
use Rattle.std.specs.List.{list_all, list_any}
use Rattle.std.proofs.lemmas.Bool.{false≢true}
use Rattle.cam_types.specs.declared.job.FillTarget.{FillTarget}
use Rattle.cam_types.specs.declared.job.JobView.{JobView}
use Rattle.cam_types.specs.declared.row.RowView.{RowView}
use Rattle.cam_types.specs.declared.row.TargetView.{TargetView}
use Rattle.cam_types.specs.declared.script.Script.{Script}
use Rattle.trace_model.specs.Frames.{targets_of}
use Rattle.run_model.specs.History.{trace_of}
use Rattle.run_model.specs.Jobs.{IsJobOut, IsOutWith, is_fill_out, is_sensor_out}
use Rattle.run_model.specs.Rows.{open_frames, row_of, rows, target_view}
use Rattle.run_model.specs.Run.{IsRun}
use Rattle.run_model.specs.declared.step.Move.{Move}
use Rattle.run_rows.proofs.Fours.{row-targets}
use Rattle.run_rows.proofs.States.{place-out}
use Rattle.run_rows.proofs.Work.{sensor_is, state-busy}
use Rattle.run_rows.proofs.WorkJobs.{fill_is, fill_job_from, sensor_job_from}
use Rattle.run_rows.specs.Kept.{is_no_row}
use Rattle.trace_model.specs.Configuration.{streams}
use Rattle.device_rows.specs.Jobs.{IsFillJobOut, IsFillOutFor, IsSensorJobOut, fill_job_at, has_fill_out, has_job_out, sensor_job_at}
use Rattle.device_rows.specs.Jobs as device
use Rattle.device_rows.specs.Ready as ready
use Rattle.run_model.specs.Moves.{Moves}
use Rattle.service_state.specs.Serving.{Serving}
use Rattle.service_core.specs.Answers.{IsNoJobOut}
use Rattle.service_core.specs.Inside.{IsKept}
use Rattle.basic_lemmas.proofs.Lists.{all-map}

-- ---- the parts know the jobs that are out

pub sensor_out : (s : Serving) (log : Moves) (job : JobView) → IsKept s log → job.fill ≡ None → IsJobOut s.script log.moves job → IsSensorJobOut s.parts.rows job
sensor_out s log job kept none out =
    let is : IsOutWith s.script log.moves job None = subst (λ o. IsOutWith s.script log.moves job o) none out in
    rw kept.left (sensor_job_from s.script log.moves job kept.run is)

pub fill_out : (s : Serving) (log : Moves) (job : JobView) (target : FillTarget) → IsKept s log → job.fill ≡ Some target → IsJobOut s.script log.moves job → IsFillJobOut s.parts.client.streams s.parts.rows job
fill_out s log job target kept some out =
    let is : IsOutWith s.script log.moves job (Some target) = subst (λ o. IsOutWith s.script log.moves job o) some out in
    let held : IsFillOutFor (streams s.script (trace_of log.moves)) (rows s.script log.moves) job (Some target) = fill_job_from s.script log.moves job target kept.run is in
    rw kept.left (subst (λ o. IsFillOutFor (streams s.script (trace_of log.moves)) (rows s.script log.moves) job o) (sym some) held)

-- ---- no job is out

-- while no frame is open
no-row : (rows' : List RowView) → is_no_row rows' ≡ true → rows' ≡ []
no-row [] h = refl
no-row (row ∷ rows') h = absurd (false≢true h)

pub no_sensor_at_rest : (script : Script) (h : List Move) (n : ℕ) → IsRun script h → is_no_row (rows script h) ≡ true → is_sensor_out h n ≡ false
no_sensor_at_rest script h n run rest = sensor_is script h n run ∙ ap (λ xs. is_some (sensor_job_at n xs)) (no-row (rows script h) rest)

pub no_fill_at_rest : (script : Script) (h : List Move) (n s : ℕ) → IsRun script h → is_no_row (rows script h) ≡ true → is_fill_out h n s ≡ false
no_fill_at_rest script h n s run rest = fill_is script h n s run ∙ ap (λ xs. is_some (fill_job_at (streams script (trace_of h)) n s xs)) (no-row (rows script h) rest)

none-map : {X Y : Type 0} (p : Y → Bool) (f : X → Y) (xs : List X) → ((x : X) → p (f x) ≡ false) → list_any p (map f xs) ≡ false
none-map p f [] each = refl
none-map p f (x ∷ xs) each = rw (each x) (none-map p f xs each)

still_row : (script : Script) (h : List Move) (n : ℕ) → IsRun script h → IsNoJobOut h → not (has_job_out (row_of script h n)) ≡ true
still_row script h n run none =
    let sensor : ready.is_sensor_out (row_of script h n).sensor ≡ false = place-out h n ∙ none.sensor n in
    let stages : has_fill_out (row_of script h n) ≡ false = ap (λ ts. list_any (λ target. device.is_fill_out target.state) ts) (row-targets script h n) ∙ none-map (λ (target : TargetView). device.is_fill_out target.state) (target_view h n) (targets_of n (trace_of h)) (λ t. state-busy script h n t.stream.0 run ∙ none.stages n t.stream.0) in
    rw (sensor, stages) refl

pub all_still : (s : Serving) (log : Moves) → IsKept s log → IsNoJobOut log.moves → list_all (λ row. not (has_job_out row)) s.parts.rows ≡ true
all_still s log kept none = rw kept.left (all-map (λ row. not (has_job_out row)) (row_of s.script log.moves) (open_frames (trace_of log.moves)) (λ n. still_row s.script log.moves n kept.run none))
