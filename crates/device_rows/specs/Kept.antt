use Rattle.std.specs.Prelude.{ℕ, ◌==◌, ◌+◌, Bool, true, false, ◌&&◌, ◌||◌, not, List, [], ◌∷◌, Option, Some, None, is_none, nat_le, nat_lt}
use Rattle.std.specs.List.{list_all}
use Rattle.cam_types.specs.Four.{four_list}
use Rattle.cam_types.specs.declared.number.FenceNo.{FenceNo}
use Rattle.cam_types.specs.declared.row.RowView.{RowView}
use Rattle.cam_types.specs.declared.row.SensorPlace.{SensorPlace}
use Rattle.cam_types.specs.declared.row.SensorPlace.TheVariants.{NotYet, WithFill}
use Rattle.cam_types.specs.declared.row.TargetState.TheVariants.{Waiting}
use Rattle.cam_types.specs.declared.row.TargetView.{TargetView}
use Rattle.device_rows.specs.Ready.{is_same_state}

-- What the device's rows meet: as it admits them, and ever after.

abbrev pub is_not_yet : SensorPlace → Bool
is_not_yet NotYet = true
is_not_yet _ = false

abbrev pub is_with_fill : SensorPlace → Bool
is_with_fill WithFill = true
is_with_fill _ = false

abbrev pub is_fresh_target : TargetView → Bool
is_fresh_target target = is_same_state target.state Waiting && not target.announced

-- a row as it is just sent: nothing of it began
abbrev pub is_fresh : RowView → Bool
is_fresh row =
    ((is_none row.shutter && (row.parts == 0))
    && ((not row.request_error && not row.result_error) && (is_not_yet row.sensor && not row.stopped)))
    && list_all is_fresh_target (four_list row.targets)

-- the streams of the targets rise, and are among so many
abbrev pub rise_from : ℕ → ℕ → List TargetView → Bool
rise_from low streams [] = true
rise_from low streams (target ∷ targets) =
    (nat_le low target.stream.0 && nat_lt target.stream.0 streams) && rise_from (target.stream.0 + 1) streams targets

-- ---- fences (camera3.h, camera3_stream_buffer, acquire_fence)

-- the fence is none, or one of so many that were made
abbrev pub is_made : ℕ → Option FenceNo → Bool
is_made made (Some f) = nat_lt f.0 made
is_made made None = true

-- a buffer that waits has the waiter of such a fence
abbrev pub has_made_fence : ℕ → TargetView → Bool
has_made_fence made target = not (is_same_state target.state Waiting) || is_made made target.fence

abbrev pub have_made_fences : ℕ → RowView → Bool
have_made_fences made row = list_all (has_made_fence made) (four_list row.targets)
