use Rattle.std.specs.Prelude.{ℕ, ◌==◌, Bool, false, ◌&&◌, List, Option, Some, filter, map, reverse, if◌then◌else◌}
use Rattle.std.specs.List.{list_any}
use Rattle.cam_types.specs.declared.number.RequestId.{RequestId}
use Rattle.cam_types.specs.declared.row.RowView.{RowView}
use Rattle.cam_types.specs.declared.row.SensorPlace.{SensorPlace}
use Rattle.cam_types.specs.declared.row.SensorPlace.TheVariants.{NotYet, Out as SensorOut, Home, WithFill}
use Rattle.cam_types.specs.declared.row.TargetState.{TargetState}
use Rattle.cam_types.specs.declared.row.TargetState.TheVariants.{Waiting, Out as FillOut, Filled as IsFilled, ReturnedEarly, EarlyFilled, ReturnedOk, ReturnedFailed}
use Rattle.cam_types.specs.declared.row.TargetView.{TargetView}
use Rattle.cam_types.specs.declared.script.Script.{Script}
use Rattle.trace_model.specs.declared.entry.Entry.{Entry}
use Rattle.trace_model.specs.declared.entry.Entry.TheVariants.{Send, Filled, Failed, Early}
use Rattle.trace_model.specs.declared.entry.Sent.{Sent}
use Rattle.trace_model.specs.Frames.{frames, send_of, targets_of, shutter_time, settings_of, has_error_request}
use Rattle.trace_model.specs.Open.{is_open, is_settled, has_error_result, has_error_buffer}
use Rattle.trace_model.specs.Partial.{partial_count}
use Rattle.cam_types.specs.Four.{four_of}
use Rattle.trace_model.specs.Stopping.{is_stopped}
use Rattle.run_model.specs.declared.step.Move.{Move}
use Rattle.run_model.specs.History.{trace_of}
use Rattle.run_model.specs.Jobs.{is_sensor_out, is_any_fill_out, is_readout_home, is_fill_out, is_filled_in}

-- The rows of the open frames, in the order of frames: what the device's table must hold after a history.

abbrev pub request_of : Option Entry → RequestId
request_of (Some (Send _ r _ _ _)) = r
request_of _ = record { 0 = 0 }

abbrev pub sensor_place : List Move → ℕ → SensorPlace
sensor_place h n =
    if is_sensor_out h n then SensorOut
    else (if is_any_fill_out h n then WithFill else (if is_readout_home h n then Home else NotYet))

abbrev pub is_ok_return : ℕ → ℕ → Entry → Bool
is_ok_return n s (Filled m t _ _ _) = (m.0 == n) && (t.0 == s)
is_ok_return n s _ = false

abbrev pub is_failed_return : ℕ → ℕ → Entry → Bool
is_failed_return n s (Failed m t _ _) = (m.0 == n) && (t.0 == s)
is_failed_return n s _ = false

abbrev pub is_early_return : ℕ → ℕ → Entry → Bool
is_early_return n s (Early m t _ _) = (m.0 == n) && (t.0 == s)
is_early_return n s _ = false

-- a target that came back early: it is out until it is filled, and returned with its picture once its device fence is
-- signalled
abbrev pub early_state : List Move → ℕ → ℕ → TargetState
early_state h n s =
    if is_settled n s (trace_of h) then ReturnedOk else (if is_fill_out h n s then ReturnedEarly else EarlyFilled)

abbrev pub target_state : List Move → ℕ → ℕ → TargetState
target_state h n s =
    if list_any (is_ok_return n s) (trace_of h) then ReturnedOk
    else (if list_any (is_failed_return n s) (trace_of h) then ReturnedFailed
    else (if list_any (is_early_return n s) (trace_of h) then early_state h n s
    else (if is_fill_out h n s then FillOut
    else (if is_filled_in h n s then IsFilled
    else Waiting))))

abbrev pub target_view : List Move → ℕ → Sent → TargetView
target_view h n t =
    record {
      stream = t.stream;
      buffer = t.buffer;
      fence = t.fence;
      announced = has_error_buffer n t.stream.0 (trace_of h);
      state = target_state h n t.stream.0;
    }

-- the row of frame n
abbrev pub row_of : Script → List Move → ℕ → RowView
row_of script h n = let past = trace_of h in record {
  frame = record { 0 = n };
  request = request_of (send_of n past);
  settings = settings_of script past n;
  targets = four_of (map (target_view h n) (targets_of n past));
  shutter = shutter_time n past;
  parts = partial_count n past;
  request_error = has_error_request n past;
  result_error = has_error_result n past;
  sensor = sensor_place h n;
  stopped = is_stopped n past;
}

-- the open frames, the oldest first
abbrev pub open_frames : List Entry → List ℕ
open_frames past = filter (λ n. is_open n past) (reverse (frames past))

abbrev pub rows : Script → List Move → List RowView
rows script h = map (row_of script h) (open_frames (trace_of h))
