use Rattle.std.specs.Prelude.{Bool, ◌&&◌, ◌||◌, ◌==◌, not, is_some, length}
use Rattle.std.specs.List.{list_any}
use Rattle.cam_types.specs.Four.{four_list}
use Rattle.cam_types.specs.Rows.{awaits_metadata}
use Rattle.cam_types.specs.declared.row.RowView.{RowView}
use Rattle.cam_types.specs.declared.row.TargetState.TheVariants.{Waiting, Out, Filled, EarlyFilled}
use Rattle.cam_types.specs.declared.row.TargetView.{TargetView}
use Rattle.cam_types.specs.declared.script.Script.{Script}
use Rattle.device_rows.specs.Jobs.{is_fill_out}
use Rattle.device_rows.specs.Ready.{is_home, is_sensor_out, is_same_state}
use Rattle.service_core.specs.declared.frames.OfFrame.{OfFrame}
use Rattle.service_core.specs.declared.frames.OfFrame.TheVariants as frame
use Rattle.service_core.specs.declared.frames.OfTarget.{OfTarget}
use Rattle.service_core.specs.declared.frames.OfTarget.TheVariants as target

-- What the row of an open frame tells at one look: where it speaks against a kind of step, no step of the kind is ready
-- for the frame. It needn't speak against each that isn't. (Our own choice.)

-- an error needs a stop or a fault line; the end of an exposure the sensor's job; metadata a shutter
abbrev pub may_have : Script → OfFrame → RowView → Bool
may_have script frame.Fail row = row.stopped || not (length script.faults == 0)
may_have script frame.SensorDone row = is_sensor_out row.sensor
may_have script frame.Partial row = is_some row.shutter && awaits_metadata row

-- a failed return needs an announced error; each other step the buffer's own state
abbrev pub fits : Script → OfTarget → RowView → TargetView → Bool
fits script target.ReturnFailed row t = row.request_error || t.announced
fits script target.TakeFill row t = is_home row.sensor && is_same_state t.state Waiting
fits script target.FillDone row t = is_fill_out t.state
fits script target.Deliver row t = is_same_state t.state Filled
fits script target.Early row t = script.early && is_same_state t.state Out
fits script target.Finish row t = is_same_state t.state EarlyFilled

-- one of the row's targets doesn't speak against the step of the kind
abbrev pub may_have_some : Script → OfTarget → RowView → Bool
may_have_some script kind row = list_any (fits script kind row) (four_list row.targets)
