use Rattle.std.specs.Prelude.{Bool, true, false, ◌&&◌, not, nat_lt, Option, Some, None}
use Rattle.cam_types.specs.declared.four.Four.{Four}
use Rattle.cam_types.specs.declared.row.RowView.{RowView}
use Rattle.cam_types.specs.declared.row.TargetState.{TargetState}
use Rattle.cam_types.specs.declared.row.TargetState.TheVariants.{Waiting, Out, Filled, ReturnedOk, ReturnedFailed}
use Rattle.cam_types.specs.declared.row.TargetView.{TargetView}

-- What the row of an open frame says of it (camera3.h, process_capture_result).

-- the buffer came back, filled, failed or early: it isn't with the device any more
abbrev pub is_returned : TargetState → Bool
is_returned Waiting = false
is_returned Out = false
is_returned Filled = false
is_returned _ = true

-- the device is done with the buffer: it came back with its picture, or failed
abbrev pub is_settled : TargetState → Bool
is_settled ReturnedOk = true
is_settled ReturnedFailed = true
is_settled _ = false

-- the metadata of the frame hasn't ended: its last part and an error that ends it are still to come
abbrev pub awaits_metadata : RowView → Bool
awaits_metadata row = nat_lt row.parts 3 && (not row.result_error && not row.request_error)

-- the device is done with the target at a place, if there is one
abbrev pub is_settled_at : Option TargetView → Bool
is_settled_at None = true
is_settled_at (Some target) = is_settled target.state

abbrev pub are_settled : Four TargetView → Bool
are_settled targets =
    is_settled_at targets.a && (is_settled_at targets.b && (is_settled_at targets.c && is_settled_at targets.d))

-- the frame is open: its metadata hasn't ended, or the device isn't done with all its targets
abbrev pub is_open : RowView → Bool
is_open row = not (not (awaits_metadata row) && are_settled row.targets)
