-- Which steps of an open frame are ready: those that the calls would make now.
use Rattle.std.specs.Prelude.{ℕ, ◌==◌, Bool, false, Option, Some, None, is_some}
use Rattle.std.specs.Option.{option_map}
use Rattle.cam_types.specs.declared.row.RowView.{RowView}
use Rattle.cam_types.specs.declared.row.TargetView.{TargetView}
use Rattle.device_rows.specs.Ready.{is_delivery_ready}
use Rattle.hal_device_model.specs.Calls.{error_in, exposure_in, may_fill, may_return_failed, part_in}
use Rattle.hal_device_model.specs.State.{HalDeviceState}
use Rattle.hal_device.specs.declared.ready.ReadyRow.{ReadyRow}
use Rattle.hal_device.specs.declared.ready.ReadyTarget.{ReadyTarget}

-- it is a row, and of frame n
abbrev pub is_of : ℕ → Option RowView → Bool
is_of n (Some row) = row.frame.0 == n
is_of n None = false

-- of frame n for stream s; a delivery is ready into memory of the picture's length (may_deliver)
abbrev pub ready_target : HalDeviceState → ℕ → ℕ → TargetView → ReadyTarget
ready_target state n s target = record {
  buffer = target.buffer;
  may_fill = may_fill n s state;
  may_deliver = is_delivery_ready state.device.faults state.device.rows n s;
  may_return_failed = may_return_failed n s state;
}

abbrev pub ready_row : HalDeviceState → RowView → ReadyRow
ready_row state row = record {
  frame = row.frame;
  may_expose = is_of row.frame.0 (exposure_in state);
  may_send_part = is_some (part_in row.frame.0 state);
  may_tell_error = is_some (error_in row.frame.0 state);
  targets = record {
    a = option_map (ready_target state row.frame.0 0) row.targets.a;
    b = option_map (ready_target state row.frame.0 1) row.targets.b;
    c = option_map (ready_target state row.frame.0 2) row.targets.c;
    d = option_map (ready_target state row.frame.0 3) row.targets.d;
  };
}
