-- The jobs that are out within a call are those of the rows.
use Rattle.std.proofs.Common.{◌≡◌, ℕ, ◌==◌, true, if◌then◌else◌, List, [], ◌∷◌, map, Option, Some, None, refl, sym, ap, ◌∙◌, inl, inr, IfSome}
use Rattle.std.specs.Prelude.{slice_get}
use Rattle.std.specs.List.{find}
use Rattle.std.specs.Option.{option_map}
use Rattle.std.proofs.lemmas.Bool.{cases_Bool, eqb-true}
use Rattle.cam_types.specs.Four.{four_list}
use Rattle.cam_types.specs.declared.job.JobView.{JobView}
use Rattle.cam_types.specs.declared.number.StreamIx.{StreamIx}
use Rattle.cam_types.specs.declared.row.RowView.{RowView}
use Rattle.cam_types.specs.declared.row.TargetState.TheVariants.{Out}
use Rattle.cam_types.specs.declared.row.TargetView.{TargetView}
use Rattle.cam_types.specs.declared.script.Fault.{Fault}
use Rattle.cam_types.specs.declared.stream.StreamSpec.{StreamSpec}
use Rattle.device_core.specs.View.{DeviceView, with_rows}
use Rattle.device_rows.specs.Jobs.{IsFillJobOut, fill_job, fill_job_at, fill_job_in, sensor_job, sensor_job_at, sensor_job_of}
use Rattle.device_rows.specs.Ready.{shutter_row}
use Rattle.device_rows.specs.Rows.{exposed, fill_begun, fill_ended, row_at, target_at, with_row}
use Rattle.device_core.proofs.Targets.{four-mapped}
use Rattle.device_core.proofs.Views.{found-own}
use Rattle.device_core.specs.Steps.{fill_job_for, fill_job_with}
use Rattle.device_core.specs.Stored.{specs_of}
use Rattle.device_rows.specs.Marks.{in_state}
use Rattle.hal_device_model.specs.Calls.{filled_rows}
use Rattle.basic_lemmas.proofs.Lists.{found-passes, found-changed}

pub row_changed : (n : ℕ) (change : RowView → RowView) (rows : List RowView) → ((row : RowView) → (change row).frame.0 ≡ row.frame.0) → row_at n (with_row n change rows) ≡ option_map change (row_at n rows)
row_changed n change rows same = found-changed (λ (row : RowView). row.frame.0) change n rows same

pub target_changed : (s : ℕ) (change : TargetView → TargetView) (row new : RowView) → ((t : TargetView) → (change t).stream.0 ≡ t.stream.0) → four_list new.targets ≡ map (λ (t : TargetView). if t.stream.0 == s then change t else t) (four_list row.targets) → target_at s new ≡ option_map change (target_at s row)
target_changed s change row new same are =
    ap (λ (ts : List TargetView). find (λ (t : TargetView). t.stream.0 == s) ts) are ∙ found-changed (λ (t : TargetView). t.stream.0) change s (four_list row.targets) same

-- ---- the sensor's job

pub exposed_out : (rows : List RowView) (row : RowView) (job : JobView) (time : ℕ) → row_at row.frame.0 rows ≡ Some row → job ≡ sensor_job row → sensor_job_at job.frame.0 (with_row job.frame.0 (exposed time) rows) ≡ Some job
exposed_out rows row job time found is =
    rw is (ap sensor_job_of (row_changed row.frame.0 (exposed time) rows (λ r. refl) ∙ ap (option_map (exposed time)) found))

pub exposed_job : (faults : List Fault) (rows : List RowView) (row : RowView) (job : JobView) → Some row ≡ shutter_row faults rows → Some job ≡ option_map sensor_job (shutter_row faults rows) → job ≡ sensor_job row
exposed_job faults rows row job due is =
    let k : Some job ≡ Some (sensor_job row) = is ∙ ap (option_map sensor_job) (sym due) in
    cc

-- ---- a stage's job

begun-target : (s : StreamIx) (row : RowView) (t : TargetView) → target_at s.0 row ≡ Some t → target_at s.0 (fill_begun s row) ≡ Some (in_state Out t)
begun-target s row t at =
    target_changed s.0 (in_state Out) row (fill_begun s row) (λ t'. refl) (four-mapped s.0 (in_state Out) row.targets) ∙ ap (option_map (in_state Out)) at

-- the row, target and stream of the job
pub record IsTaken (specs : List StreamSpec) (n : ℕ) (s : StreamIx) (rows : List RowView) (job : JobView) : Type 0 where
  pub row : RowView
  pub target : TargetView
  pub spec : StreamSpec
  pub found : row_at n rows ≡ Some row
  pub at : target_at s.0 row ≡ Some target
  pub stream : slice_get specs s.0 ≡ Some spec
  pub is : fill_job row target spec ≡ job

pub taken : (specs : List StreamSpec) (n : ℕ) (s : StreamIx) (rows : List RowView) (job : JobView) → fill_job_for specs s.0 (row_at n rows) ≡ Some job → IsTaken specs n s rows job
taken specs n s rows job h = by-row (row_at n rows) refl h
  where
    by-spec : (row : RowView) (t : TargetView) (o : Option StreamSpec) → row_at n rows ≡ Some row → target_at s.0 row ≡ Some t → slice_get specs s.0 ≡ o → fill_job_with row (Some t) o ≡ Some job → IsTaken specs n s rows job
    by-spec row t (Some spec) found at stream h' = record { row = row; target = t; spec = spec; found = found; at = at; stream = stream; is = cc }
    by-spec row t None found at stream h' = absurd (cc)

    by-target : (row : RowView) (o : Option TargetView) → row_at n rows ≡ Some row → target_at s.0 row ≡ o → fill_job_with row o (slice_get specs s.0) ≡ Some job → IsTaken specs n s rows job
    by-target row (Some t) found at h' = by-spec row t (slice_get specs s.0) found at refl h'
    by-target row None found at h' = absurd (cc)

    by-row : (o : Option RowView) → row_at n rows ≡ o → fill_job_for specs s.0 o ≡ Some job → IsTaken specs n s rows job
    by-row (Some row) found h' = by-target row (target_at s.0 row) found refl h'
    by-row None found h' = absurd (cc)

pub fill_out : (specs : List StreamSpec) (n : ℕ) (s : StreamIx) (rows : List RowView) (job : JobView) → fill_job_for specs s.0 (row_at n rows) ≡ Some job → IsFillJobOut specs (with_row n (fill_begun s) rows) job
fill_out specs n s rows job h =
    let k = taken specs n s rows job h in
    let frame : k.row.frame.0 ≡ n = eqb-true k.row.frame.0 n (found-own n rows k.row k.found) in
    let stream : k.target.stream.0 ≡ s.0 = eqb-true k.target.stream.0 s.0 (found-passes (λ (t : TargetView). t.stream.0 == s.0) (four_list k.row.targets) k.target k.at) in
    let row : row_at n (with_row n (fill_begun s) rows) ≡ Some (fill_begun s k.row) = row_changed n (fill_begun s) rows (λ r. refl) ∙ ap (option_map (fill_begun s)) k.found in
    let out : fill_job_at specs n s.0 (with_row n (fill_begun s) rows) ≡ Some (fill_job k.row k.target k.spec) = ap (fill_job_in specs s.0) row ∙ rw (begun-target s k.row k.target k.at, k.stream) refl in
    let here : fill_job_at specs k.row.frame.0 k.target.stream.0 (with_row n (fill_begun s) rows) ≡ Some (fill_job k.row k.target k.spec) = rw (frame, stream) out in
    rw (← k.is) here

-- and once the stage has it
pub fill_out_as : (n : ℕ) (s : StreamIx) (old begun : DeviceView) (job given : JobView) → fill_job_for (specs_of old.plan) s.0 (row_at n old.rows) ≡ Some job → given ≡ job → begun ≡ with_rows (with_row n (fill_begun s) old.rows) old → IsFillJobOut (specs_of begun.plan) begun.rows given
fill_out_as n s old begun job given h same is = rw (same, is) (fill_out (specs_of old.plan) n s old.rows job h)

-- what the stage's answer leaves
pub filled_as : (specs : List StreamSpec) (n : ℕ) (s : StreamIx) (old begun new : DeviceView) (job given : JobView) → fill_job_for specs s.0 (row_at n old.rows) ≡ Some job → given ≡ job → begun ≡ with_rows (with_row n (fill_begun s) old.rows) old → IfSome given.fill (λ target. new ≡ with_rows (with_row given.frame.0 (fill_ended target.stream) begun.rows) begun) → new ≡ with_rows (filled_rows n s old.rows) old
filled_as specs n s old begun new job given h same is ended =
    let k = taken specs n s old.rows job h in
    let frame : k.row.frame.0 ≡ n = eqb-true k.row.frame.0 n (found-own n old.rows k.row k.found) in
    let stream : k.target.stream.0 ≡ s.0 = eqb-true k.target.stream.0 s.0 (found-passes (λ (t : TargetView). t.stream.0 == s.0) (four_list k.row.targets) k.target k.at) in
    let stream' : k.target.stream ≡ s = (let e : record { 0 = k.target.stream.0 } ≡ record { 0 = s.0 } = rw stream refl in e) in
    let ended' = rw (same, ← k.is) at ended in
    let last : new ≡ with_rows (with_row k.row.frame.0 (fill_ended k.target.stream) begun.rows) begun = ended' in
    last ∙ rw (frame, stream', is) refl
