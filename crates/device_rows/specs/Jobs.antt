use Rattle.std.specs.Prelude.{◌≡◌, ℕ, Bool, true, false, ◌||◌, List, Option, Some, None, if◌then◌else◌, slice_get}
use Rattle.cam_types.specs.declared.job.FillTarget.{FillTarget}
use Rattle.std.specs.List.{list_any}
use Rattle.cam_types.specs.Four.{four_list}
use Rattle.cam_types.specs.declared.job.JobView.{JobView}
use Rattle.cam_types.specs.declared.row.RowView.{RowView}
use Rattle.cam_types.specs.declared.row.TargetState.{TargetState}
use Rattle.cam_types.specs.declared.row.TargetState.TheVariants.{Out, ReturnedEarly}
use Rattle.cam_types.specs.declared.row.TargetView.{TargetView}
use Rattle.cam_types.specs.declared.stream.StreamSpec.{StreamSpec}
use Rattle.device_rows.specs.Ready.{is_sensor_out}
use Rattle.device_rows.specs.Rows.{row_at, target_at}

-- Which jobs are out: the rows say it. The sensor's job of a frame is out from the shutter on until it is given back, a
-- fill's from its taking on (our own choice).

-- a stage fills the target's buffer
abbrev pub is_fill_out : TargetState → Bool
is_fill_out Out = true
is_fill_out ReturnedEarly = true
is_fill_out _ = false

-- some stage fills a buffer of the row
abbrev pub has_fill_out : RowView → Bool
has_fill_out row = list_any (λ target. is_fill_out target.state) (four_list row.targets)

-- some job of the row is out
abbrev pub has_job_out : RowView → Bool
has_job_out row = is_sensor_out row.sensor || has_fill_out row

-- the job of the sensor on a row
abbrev pub sensor_job : RowView → JobView
sensor_job row = record { frame = row.frame; settings = row.settings; fill = None }

-- and that of a stage on a target of it, whose stream has this specification
abbrev pub fill_job : RowView → TargetView → StreamSpec → JobView
fill_job row target spec =
    record {
      frame = row.frame;
      settings = row.settings;
      fill = Some (record { stream = target.stream; buffer = target.buffer; spec = spec });
    }

-- the sensor's job that is out on frame n
abbrev pub sensor_job_of : Option RowView → Option JobView
sensor_job_of (Some row) = if is_sensor_out row.sensor then Some (sensor_job row) else None
sensor_job_of None = None

abbrev pub sensor_job_at : ℕ → List RowView → Option JobView
sensor_job_at n rows = sensor_job_of (row_at n rows)

-- the stage's job that is out on frame n's buffer for stream s, whose specification is one of these
abbrev pub fill_job_of : RowView → Option TargetView → Option StreamSpec → Option JobView
fill_job_of row (Some target) (Some spec) = if is_fill_out target.state then Some (fill_job row target spec) else None
fill_job_of row _ _ = None

abbrev pub fill_job_in : List StreamSpec → ℕ → Option RowView → Option JobView
fill_job_in specs s (Some row) = fill_job_of row (target_at s row) (slice_get specs s)
fill_job_in specs s None = None

abbrev pub fill_job_at : List StreamSpec → ℕ → ℕ → List RowView → Option JobView
fill_job_at specs n s rows = fill_job_in specs s (row_at n rows)

-- the job is out
abbrev pub IsSensorJobOut : List RowView → JobView → Type 0
IsSensorJobOut rows job = sensor_job_at job.frame.0 rows ≡ Some job

abbrev pub IsFillOutFor : List StreamSpec → List RowView → JobView → Option FillTarget → Type 0
IsFillOutFor specs rows job (Some target) = fill_job_at specs job.frame.0 target.stream.0 rows ≡ Some job
IsFillOutFor specs rows job None = ⊥

abbrev pub IsFillJobOut : List StreamSpec → List RowView → JobView → Type 0
IsFillJobOut specs rows job = IsFillOutFor specs rows job job.fill
