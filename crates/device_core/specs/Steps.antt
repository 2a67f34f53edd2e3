use Rattle.std.specs.Prelude.{◌≡◌, ℕ, Bool, true, false, ◌&&◌, ◌||◌, not, if◌then◌else◌, List, Option, Some, None, is_some, slice_get}
use Rattle.std.specs.Option.{option_map}
use Rattle.buffer_pool.specs.declared.parked.Parked.{Parked}
use Rattle.cam_types.specs.Shown.{Shown}
use Rattle.cam_types.specs.declared.number.FenceNo.{FenceNo}
use Rattle.cam_types.specs.declared.row.RowView.{RowView}
use Rattle.cam_types.specs.declared.row.TargetState.TheVariants.{Waiting, Out, Filled, EarlyFilled}
use Rattle.cam_types.specs.declared.row.TargetView.{TargetView}
use Rattle.cam_types.specs.declared.stream.StreamSpec.{StreamSpec}
use Rattle.device_rows.specs.declared.entry.ErrorEntry.{ErrorEntry}
use Rattle.device_rows.specs.declared.entry.ErrorEntry.TheVariants.{Request, Result, Buffer, Device}
use Rattle.buffer_pool.specs.Fences.{FencesMade, is_signalled, made}
use Rattle.fill_jobs.specs.Buffers.{IsBufferFor, IsPictureFor}
use Rattle.cam_types.specs.declared.job.JobView.{JobView}
use Rattle.device_rows.specs.Jobs.{fill_job}
use Rattle.device_rows.specs.Kept.{has_made_fence, is_made}
use Rattle.device_rows.specs.Ready.{is_home, is_passed, is_same_state}
use Rattle.device_rows.specs.Rows.{row_at, target_at}

-- When a step may move what the store holds, and what it gives out (our own choice).

-- the frame has no shutter, and didn't fail whole
abbrev pub is_dark : Option RowView → Bool
is_dark (Some row) = not (is_some row.shutter) && not row.request_error
is_dark None = false

-- the frame has its shutter
abbrev pub is_lit : Option RowView → Bool
is_lit (Some row) = is_some row.shutter
is_lit None = false

-- an error is of a frame whose row stands, and that of a buffer of one that has its shutter
abbrev pub is_timely : List RowView → ErrorEntry → Bool
is_timely rows (Request n) = is_some (row_at n.0 rows)
is_timely rows (Result n) = is_some (row_at n.0 rows)
is_timely rows (Buffer n s) = is_lit (row_at n.0 rows)
is_timely rows Device = true

-- the buffer waits, and the readout is home
abbrev pub is_fillable : RowView → TargetView → Bool
is_fillable row target = is_same_state target.state Waiting && is_home row.sensor

-- the fence was made by these, and is signalled; or there is none
abbrev pub is_open_to : FencesMade → RowView → TargetView → Bool
is_open_to fences row target = is_made (made fences) target.fence && is_passed (λ f. is_signalled f fences) target.fence

-- the buffer shows its picture, and is still here
abbrev pub is_filled : RowView → TargetView → Bool
is_filled row target = is_same_state target.state Filled || is_same_state target.state EarlyFilled

-- a stage fills the buffer, and it didn't come back
abbrev pub is_in_fill : RowView → TargetView → Bool
is_in_fill row target = is_same_state target.state Out

-- a buffer that waits has the waiter of one of so many fences
abbrev pub has_made : ℕ → RowView → TargetView → Bool
has_made made row target = has_made_fence made target

-- ---- what comes out

abbrev pub fill_job_with : RowView → Option TargetView → Option StreamSpec → Option JobView
fill_job_with row (Some target) (Some spec) = Some (fill_job row target spec)
fill_job_with row _ _ = None

-- the job of a stage on the row's target of stream s
abbrev pub fill_job_for : List StreamSpec → ℕ → Option RowView → Option JobView
fill_job_for specs s (Some row) = fill_job_with row (target_at s row) (slice_get specs s)
fill_job_for specs s None = None

-- the waiter, where its fence isn't signalled
abbrev pub waiter_kept : FencesMade → Option ℕ → Option ℕ
waiter_kept fences (Some f) = if is_signalled f fences then None else Some f
waiter_kept fences None = None

-- the target's buffer, which shows the picture of the row's frame for the stream
abbrev pub ShowsTarget : RowView → Option TargetView → Option StreamSpec → Shown → List ℕ → Type 0
ShowsTarget row (Some target) (Some spec) pixels digest =
    IsPictureFor spec row.settings row.frame.0 target.buffer pixels digest
ShowsTarget row _ _ pixels digest = ⊥

abbrev pub ShowsRow : List StreamSpec → ℕ → Option RowView → Shown → List ℕ → Type 0
ShowsRow specs s (Some row) pixels digest = ShowsTarget row (target_at s row) (slice_get specs s) pixels digest
ShowsRow specs s None pixels digest = ⊥

-- the buffer is that of frame n for stream s and shows its picture; the digest is that picture's
abbrev pub ShowsAt : List StreamSpec → ℕ → ℕ → List RowView → Shown → List ℕ → Type 0
ShowsAt specs n s rows pixels digest = ShowsRow specs s (row_at n rows) pixels digest

-- the waiter that is left: that of a target that waits, whose fence isn't signalled
abbrev pub waiter_left : FencesMade → TargetView → Option ℕ
waiter_left fences target =
    if is_same_state target.state Waiting then waiter_kept fences (option_map (λ (f : FenceNo). f.0) target.fence) else None

-- the target's buffer, with that waiter
pub record IsBack (fences : FencesMade) (spec : StreamSpec) (target : TargetView) (parked : Parked) : Type 0 where
  pub pixels : IsBufferFor spec target.buffer parked.pixels
  pub waiter : parked.waiter ≡ waiter_left fences target

abbrev pub IsBackTarget : FencesMade → Option TargetView → Option StreamSpec → Parked → Type 0
IsBackTarget fences (Some target) (Some spec) parked = IsBack fences spec target parked
IsBackTarget fences _ _ parked = ⊥

abbrev pub IsBackRow : FencesMade → List StreamSpec → ℕ → Option RowView → Parked → Type 0
IsBackRow fences specs s (Some row) parked = IsBackTarget fences (target_at s row) (slice_get specs s) parked
IsBackRow fences specs s None parked = ⊥

abbrev pub IsBackAt : FencesMade → List StreamSpec → ℕ → ℕ → List RowView → Parked → Type 0
IsBackAt fences specs n s rows parked = IsBackRow fences specs s (row_at n rows) parked
