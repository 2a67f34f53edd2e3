use Rattle.std.specs.Prelude.{ℕ, List}
use Rattle.cam_types.specs.declared.row.RowView.{RowView}
use Rattle.cam_types.specs.declared.script.Fault.{Fault}
use Rattle.device_core.specs.Stored.{Stored}
use Rattle.request_checks.specs.declared.plan.Plan.{Plan}

-- What a contract sees of the device (our own choice): its plan, the faults that it shall have, how many rows may
-- stand, and the rows that stand.
pub record DeviceView : Type 0 where
  pub plan : Plan
  pub faults : List Fault
  pub capacity : ℕ
  pub rows : List RowView

-- the same with these rows
abbrev pub with_rows : List RowView → DeviceView → DeviceView
with_rows rows device = record { plan = device.plan; faults = device.faults; capacity = device.capacity; rows = rows }

abbrev pub with_plan : Plan → DeviceView → DeviceView
with_plan plan device = record { plan = plan; faults = device.faults; capacity = device.capacity; rows = device.rows }

abbrev pub device_of : Stored → List Fault → DeviceView
device_of store faults = record { plan = store.plan; faults = faults; capacity = store.capacity; rows = store.rows }
