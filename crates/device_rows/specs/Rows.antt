use Rattle.std.specs.Prelude.{ℕ, ◌==◌, not, if◌then◌else◌, List, filter, map, find, Option, Some, None}
use Rattle.std.specs.Option.{option_and_then}
use Rattle.cam_types.specs.Four.{four_list}
use Rattle.cam_types.specs.declared.number.StreamIx.{StreamIx}
use Rattle.cam_types.specs.declared.row.RowView.{RowView}
use Rattle.cam_types.specs.declared.row.SensorPlace.TheVariants.{Out as SensorOut, Home, WithFill}
use Rattle.cam_types.specs.declared.row.TargetState.{TargetState}
use Rattle.cam_types.specs.declared.row.TargetState.TheVariants.{Out, Filled, ReturnedEarly, EarlyFilled, ReturnedOk, ReturnedFailed}
use Rattle.cam_types.specs.declared.row.TargetView.{TargetView}
use Rattle.device_rows.specs.declared.entry.ErrorEntry.{ErrorEntry}
use Rattle.device_rows.specs.declared.entry.ErrorEntry.TheVariants.{Request, Result, Buffer, Device}
use Rattle.device_rows.specs.declared.mark.Mark.TheVariants.{Shutter, PartialResult, RequestError, ResultError, Announced, Target, Sensor, Stopped}
use Rattle.device_rows.specs.Marks.{marked}

-- The rows of the open frames, the oldest first, and what each of the device's steps makes of them. Each step changes
-- the row of one frame alone, but for a stop, which marks them all.

-- the row of frame n, if it stands
abbrev pub row_at : ℕ → List RowView → Option RowView
row_at n rows = find (λ row. row.frame.0 == n) rows

-- the target of stream s in a row, if it has one
abbrev pub target_at : ℕ → RowView → Option TargetView
target_at s row = find (λ target. target.stream.0 == s) (four_list row.targets)

abbrev pub target_in : ℕ → ℕ → List RowView → Option TargetView
target_in n s rows = option_and_then (target_at s) (row_at n rows)

-- the rows with the one of frame n changed
abbrev pub with_row : ℕ → (RowView → RowView) → List RowView → List RowView
with_row n change rows = map (λ row. if row.frame.0 == n then change row else row) rows

-- the rows without the one of frame n
abbrev pub without : ℕ → List RowView → List RowView
without n rows = filter (λ row. not (row.frame.0 == n)) rows

-- ---- what a step makes of its frame's row

-- the exposure begins (camera3.h, camera3_shutter_msg)
abbrev pub exposed : ℕ → RowView → RowView
exposed time row = marked (Sensor SensorOut) (marked (Shutter time) row)

-- the sensor gives the readout back
abbrev pub sensor_home : RowView → RowView
sensor_home row = marked (Sensor Home) row

-- partial result k is sent (camera3.h, camera3_capture_result.partial_result)
abbrev pub with_part : ℕ → RowView → RowView
with_part k row = marked (PartialResult k) row

-- a stage takes the buffer, and the readout with it
abbrev pub fill_begun : StreamIx → RowView → RowView
fill_begun s row = marked (Sensor WithFill) (marked (Target s Out) row)

-- what becomes of a target whose fill ends: it came back early, or not yet
abbrev pub filled_from : TargetState → TargetState
filled_from ReturnedEarly = EarlyFilled
filled_from _ = Filled

abbrev pub filled_after : Option TargetView → TargetState
filled_after (Some target) = filled_from target.state
filled_after None = Filled

-- the stage gives the buffer and the readout back
abbrev pub fill_ended : StreamIx → RowView → RowView
fill_ended s row = marked (Sensor Home) (marked (Target s (filled_after (target_at s.0 row))) row)

-- the buffer comes back with its picture (camera3.h, process_capture_result), early, or in error
abbrev pub delivered : StreamIx → RowView → RowView
delivered s row = marked (Target s ReturnedOk) row

abbrev pub gone_early : StreamIx → RowView → RowView
gone_early s row = marked (Target s ReturnedEarly) row

abbrev pub returned_failed : StreamIx → RowView → RowView
returned_failed s row = marked (Target s ReturnedFailed) row

-- ---- stops and errors (camera3.h, S6 and flush)

-- a flush, a disconnect or a device failure takes all rows
abbrev pub all_stopped : List RowView → List RowView
all_stopped rows = map (marked Stopped) rows

abbrev pub with_error : ErrorEntry → List RowView → List RowView
with_error (Request n) rows = with_row n.0 (marked RequestError) rows
with_error (Result n) rows = with_row n.0 (marked ResultError) rows
with_error (Buffer n s) rows = with_row n.0 (marked (Announced s)) rows
with_error Device rows = all_stopped rows
