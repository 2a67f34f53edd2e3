use Rattle.std.specs.Prelude.{◌≡◌, ℕ, ◌==◌, Bool, true, false, ◌&&◌, ◌||◌, not, List, [], ◌∷◌, is_none, nat_le, nat_lt, count_by, if◌then◌else◌}
use Rattle.std.specs.List.{list_all, list_any}
use Rattle.cam_types.specs.Four.{four_list}
use Rattle.cam_types.specs.Metadata.{range_fault}
use Rattle.cam_types.specs.declared.row.RowView.{RowView}
use Rattle.cam_types.specs.declared.row.SensorPlace.{SensorPlace}
use Rattle.cam_types.specs.declared.row.SensorPlace.TheVariants.{Home, WithFill}
use Rattle.cam_types.specs.declared.row.TargetState.{TargetState}
use Rattle.cam_types.specs.declared.row.TargetState.TheVariants.{Filled, EarlyFilled, ReturnedOk}
use Rattle.device_rows.specs.Jobs.{is_fill_out}
use Rattle.device_rows.specs.Kept.{is_made, is_with_fill, rise_from}
use Rattle.cam_types.specs.declared.script.Script.{Script}
use Rattle.run_model.specs.declared.step.Move.{Move}
use Rattle.run_model.specs.Run.{IsRun}
use Rattle.run_model.specs.Rows.{rows}

-- What the rows of a run meet, which the device asks of those that it is given.

-- each row of a run passes the test
abbrev pub EachRow : (RowView → Bool) → Script → List Move → Type 0
EachRow test script h = IsRun script h → list_all test (rows script h) ≡ true

-- no frame is open
abbrev pub is_no_row : List RowView → Bool
is_no_row [] = true
is_no_row _ = false

abbrev pub is_same : Bool → Bool → Bool
is_same true b = b
is_same false b = not b

-- each row is stopped where the service is stopping, and none else
abbrev pub are_stopped_with : Bool → List RowView → Bool
are_stopped_with stopping rows = list_all (λ row. is_same row.stopped stopping) rows

-- the frames rise from row to row
abbrev pub frames_rise : List RowView → Bool
frames_rise [] = true
frames_rise (row ∷ later) = list_all (λ other. nat_lt row.frame.0 other.frame.0) later && frames_rise later

-- each row is of a frame below
abbrev pub are_below : ℕ → List RowView → Bool
are_below n rows = list_all (λ row. nat_lt row.frame.0 n) rows

-- the frame has a target (camera3.h, camera3_capture_request.num_output_buffers)
abbrev pub has_some_target : RowView → Bool
has_some_target row = list_any (λ target. true) (four_list row.targets)

-- the streams of the targets rise, and are among so many
abbrev pub has_streams : ℕ → RowView → Bool
has_streams streams row = rise_from 0 streams (four_list row.targets)

-- the settings are in their ranges
abbrev pub is_in_range : RowView → Bool
is_in_range row = is_none (range_fault row.settings)

-- at most three partial results were sent (camera3.h, partial_result_count)
abbrev pub has_few_parts : RowView → Bool
has_few_parts row = nat_le row.parts 3

-- each acquire fence is one of so many that were released (camera3.h, camera3_stream_buffer, acquire_fence)
abbrev pub has_given_fences : ℕ → RowView → Bool
has_given_fences released row = list_all (λ target. is_made released target.fence) (four_list row.targets)

-- how many buffers of the row a stage fills
abbrev pub fills_out : RowView → ℕ
fills_out row = count_by (λ target. is_fill_out target.state) (four_list row.targets)

-- a stage has the readout exactly where it fills one buffer of the row, and no other stage fills another
abbrev pub has_its_readout : RowView → Bool
has_its_readout row = fills_out row == (if is_with_fill row.sensor then 1 else 0)

-- the buffer has its picture
abbrev pub has_picture : TargetState → Bool
has_picture Filled = true
has_picture EarlyFilled = true
has_picture ReturnedOk = true
has_picture _ = false

-- the sensor's work on the frame is done
abbrev pub is_read_out : SensorPlace → Bool
is_read_out Home = true
is_read_out WithFill = true
is_read_out _ = false

-- a buffer has its picture only once the sensor's work is done
abbrev pub has_pictures_late : RowView → Bool
has_pictures_late row =
    list_all (λ target. not (has_picture target.state) || is_read_out row.sensor) (four_list row.targets)

-- the row has a target, its streams are among so many, and its settings are in their ranges
pub record IsSound (streams : ℕ) (row : RowView) : Type 0 where
  pub targets : has_some_target row ≡ true
  pub streams_rise : has_streams streams row ≡ true
  pub range : is_in_range row ≡ true
