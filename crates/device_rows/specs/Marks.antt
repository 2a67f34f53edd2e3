use Rattle.std.specs.Prelude.{ℕ, true, ◌==◌, if◌then◌else◌, Option, Some, None}
use Rattle.cam_types.specs.declared.four.Four.{Four}
use Rattle.cam_types.specs.declared.row.RowView.{RowView}
use Rattle.cam_types.specs.declared.row.TargetState.{TargetState}
use Rattle.cam_types.specs.declared.row.TargetView.{TargetView}
use Rattle.device_rows.specs.declared.mark.Mark.{Mark}
use Rattle.device_rows.specs.declared.mark.Mark.TheVariants.{Shutter, PartialResult, RequestError, ResultError, Announced, Target, Sensor, Stopped}

-- What a mark changes in a row: the one field that it names (our own choice).

-- the target at a place, if it is of stream s
abbrev pub if_of_stream : ℕ → (TargetView → TargetView) → Option TargetView → Option TargetView
if_of_stream s change None = None
if_of_stream s change (Some target) = Some (if target.stream.0 == s then change target else target)

-- the target of stream s alone
abbrev pub with_target : ℕ → (TargetView → TargetView) → Four TargetView → Four TargetView
with_target s change targets = record {
  a = if_of_stream s change targets.a;
  b = if_of_stream s change targets.b;
  c = if_of_stream s change targets.c;
  d = if_of_stream s change targets.d;
}

abbrev pub as_announced : TargetView → TargetView
as_announced target = record target { announced = true }

abbrev pub in_state : TargetState → TargetView → TargetView
in_state state target = record target { state = state }

abbrev pub marked : Mark → RowView → RowView
marked (Shutter time) row = record row { shutter = Some time }
marked (PartialResult parts) row = record row { parts = parts }
marked RequestError row = record row { request_error = true }
marked ResultError row = record row { result_error = true }
marked (Announced stream) row = record row { targets = with_target stream.0 as_announced row.targets }
marked (Target stream state) row = record row { targets = with_target stream.0 (in_state state) row.targets }
marked (Sensor place) row = record row { sensor = place }
marked Stopped row = record row { stopped = true }
