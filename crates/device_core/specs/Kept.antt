use Rattle.std.specs.Prelude.{◌≡◌, ◌≤◌, ℕ, ◌+◌, ◌==◌, Bool, true, false, ◌&&◌, ◌||◌, not, List, length, map, filter, Option, Some, None, is_some, is_none, slice_get}
use Rattle.std.specs.List.{list_all, list_any}
use Rattle.std.specs.Option.{option_map}
use Rattle.cam_types.specs.Four.{four_list}
use Rattle.cam_types.specs.Metadata.{range_fault}
use Rattle.cam_types.specs.Picture.{is_offered}
use Rattle.cam_types.specs.declared.four.Four.{Four}
use Rattle.cam_types.specs.declared.number.FenceNo.{FenceNo}
use Rattle.cam_types.specs.declared.row.RowView.{RowView}
use Rattle.cam_types.specs.declared.row.SensorPlace.{SensorPlace}
use Rattle.cam_types.specs.declared.row.SensorPlace.TheVariants.{NotYet, Out as SensorOut, Home, WithFill}
use Rattle.cam_types.specs.declared.row.TargetState.{TargetState}
use Rattle.cam_types.specs.declared.row.TargetState.TheVariants.{Waiting, ReturnedFailed, Filled, EarlyFilled}
use Rattle.cam_types.specs.declared.row.TargetView.{TargetView}
use Rattle.cam_types.specs.declared.stream.StreamSpec.{StreamSpec}
use Rattle.device_rows.specs.Jobs.{fill_job, is_fill_out, sensor_job}
use Rattle.device_rows.specs.Kept.{rise_from}
use Rattle.device_rows.specs.declared.table_row.Row.{Row}
use Rattle.request_checks.specs.declared.plan.Plan.{Plan}
use Rattle.device_core.specs.declared.buffers.Held.{Held}
use Rattle.device_core.specs.declared.buffers.Held.TheVariants.{Waiting as HeldWaiting, Filled as HeldFilled}
use Rattle.device_core.specs.declared.readouts.Slot.{Slot}
use Rattle.device_core.specs.declared.readouts.Slot.TheVariants.{Spare, Home as SlotHome, Away}
use Rattle.device_core.specs.Stored.{frame_number, is_some_target, rises, specs_of, views}

-- What is held for a row: it follows from the row and the streams (our own choice).

abbrev pub fence_number : Option FenceNo → Option ℕ
fence_number fence = option_map (λ f. f.0) fence

-- the buffer of a target that waits
abbrev pub waiting_for : TargetView → StreamSpec → Held
waiting_for target spec =
    HeldWaiting (record { buffer = target.buffer; spec = spec; fence = fence_number target.fence })

abbrev pub waiting_with : TargetView → Option StreamSpec → Option Held
waiting_with target (Some spec) = Some (waiting_for target spec)
waiting_with target None = None

abbrev pub waiting_at : List StreamSpec → Option TargetView → Option Held
waiting_at specs (Some target) = waiting_with target (slice_get specs target.stream.0)
waiting_at specs None = None

-- those of targets that all wait
abbrev pub waiting_in : List StreamSpec → Four TargetView → Four Held
waiting_in specs targets = record {
  a = waiting_at specs targets.a;
  b = waiting_at specs targets.b;
  c = waiting_at specs targets.c;
  d = waiting_at specs targets.d;
}

abbrev pub filled_for : RowView → TargetView → StreamSpec → Held
filled_for row target spec = HeldFilled (fill_job row target spec)

-- nothing is held of a buffer that a stage has or that came back
abbrev pub held_by : TargetState → RowView → TargetView → Option StreamSpec → Option Held
held_by Waiting row target (Some spec) = Some (waiting_for target spec)
held_by Filled row target (Some spec) = Some (filled_for row target spec)
held_by EarlyFilled row target (Some spec) = Some (filled_for row target spec)
held_by Waiting row target None = None
held_by Filled row target None = None
held_by EarlyFilled row target None = None
held_by _ row target spec = None

abbrev pub held_for : List StreamSpec → RowView → TargetView → Option Held
held_for specs row target = held_by target.state row target (slice_get specs target.stream.0)

abbrev pub held_at : List StreamSpec → RowView → Option TargetView → Option Held
held_at specs row (Some target) = held_for specs row target
held_at specs row None = None

-- the buffers that are held for the row's targets, in their places
abbrev pub held_in : List StreamSpec → RowView → Four Held
held_in specs row = record {
  a = held_at specs row row.targets.a;
  b = held_at specs row row.targets.b;
  c = held_at specs row row.targets.c;
  d = held_at specs row row.targets.d;
}

-- the row with them
abbrev pub full : List StreamSpec → RowView → Row Held
full specs row = record { view = row; parked = held_in specs row }

-- the readout of a frame: a spare one until the exposure, then that of the frame while nobody has it
abbrev pub slot_by : SensorPlace → RowView → Slot
slot_by NotYet row = Spare 0
slot_by Home row = SlotHome (sensor_job row)
slot_by _ row = Away

abbrev pub slot_of : RowView → Slot
slot_of row = slot_by row.sensor row

-- ---- what each row meets

abbrev pub is_waiting : TargetState → Bool
is_waiting Waiting = true
is_waiting _ = false

abbrev pub waits : TargetView → Bool
waits target = is_waiting target.state

abbrev pub is_kept_back : TargetState → Bool
is_kept_back Waiting = true
is_kept_back ReturnedFailed = true
is_kept_back _ = false

-- nothing came of the target but its failure, and its error isn't announced
abbrev pub is_unbegun : TargetView → Bool
is_unbegun target = is_kept_back target.state && not target.announced

-- a stage fills the target's buffer
abbrev pub is_out : TargetView → Bool
is_out target = is_fill_out target.state

-- how many fills of the row are out
abbrev pub fills_out : RowView → ℕ
fills_out row = length (filter is_out (four_list row.targets))

-- where the sensor's work is and what became of the targets agree
abbrev pub agree_at : SensorPlace → RowView → Bool
agree_at NotYet row =
    is_none row.shutter
    && (list_all is_unbegun (four_list row.targets) && (row.request_error || list_all waits (four_list row.targets)))
agree_at SensorOut row =
    is_some row.shutter && (list_any waits (four_list row.targets) && list_all waits (four_list row.targets))
agree_at Home row = is_some row.shutter && (fills_out row == 0)
agree_at WithFill row = is_some row.shutter && (fills_out row == 1)

abbrev pub agree : RowView → Bool
agree row = agree_at row.sensor row

-- the settings are in range, the streams of the targets rise and are among so many, and there is a target
abbrev pub is_placed : ℕ → RowView → Bool
is_placed streams row =
    is_none (range_fault row.settings)
    && (rise_from 0 streams (four_list row.targets) && is_some_target (four_list row.targets))

abbrev pub is_kept : ℕ → RowView → Bool
is_kept streams row = is_placed streams row && agree row

-- ---- what the store meets

-- what is held follows from the rows, their frames rise, there is a readout for each row that may stand, and each row
-- is as it must be
pub record IsKept (plan : Plan) (rows : List (Row Held)) (capacity : ℕ) (slots : List Slot)
    (spares slot_room spare_room : ℕ) : Type 0 where
  pub filled : rows ≡ map (full (specs_of plan)) (views rows)
  pub shown : slots ≡ map slot_of (views rows)
  pub order : rises frame_number (views rows) ≡ true
  pub enough : spares + length rows ≡ capacity
  pub room : (capacity ≤ slot_room) × (capacity ≤ spare_room)
  pub each : list_all (is_kept (length (specs_of plan))) (views rows) ≡ true
  pub offered : list_all is_offered (specs_of plan) ≡ true
