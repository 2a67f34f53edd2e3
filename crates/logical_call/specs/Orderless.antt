use Rattle.std.specs.Prelude.{◌≡◌, ◌==◌, Bool, true, false, ◌&&◌, not, [], nat_le, sum_by}
use Rattle.std.specs.List.{list_all, list_any}
use Rattle.cam_types.specs.Limits.{queue_limit}
use Rattle.cam_types.specs.declared.script.Command.{Command}
use Rattle.cam_types.specs.declared.script.Command.TheVariants.{Repeat, Stop, Await}
use Rattle.cam_types.specs.declared.script.Fault.{Fault}
use Rattle.cam_types.specs.declared.script.Fault.TheVariants.{Device}
use Rattle.cam_types.specs.declared.script.Script.{Script}
use Rattle.trace_laws.specs.Bounds.{queued_by}

-- Scripts of which no reply depends on the order of steps (our own choice of what one client may ask of two cameras).

-- nothing repeats, so nothing hangs on whether a list repeats or on how many of its frames are done
abbrev pub is_plain : Command → Bool
is_plain (Repeat _) = false
is_plain Stop = false
is_plain (Await _) = false
is_plain _ = true

abbrev pub is_device_fault : Fault → Bool
is_device_fault (Device _) = true
is_device_fault _ = false

-- nothing repeats, the device doesn't fail, and the queue has room for all items of the script at once
abbrev pub is_orderless : Script → Bool
is_orderless script =
    not (list_any is_device_fault script.faults)
    && (list_all is_plain script.commands && nat_le (sum_by queued_by script.commands) queue_limit)

-- a script that may be run on two cameras side by side
abbrev pub is_logical : Script → Bool
is_logical script = (script.version == 1) && (not script.early && is_orderless script)

-- two scripts that differ in their faults and picks at most
pub record AreTwins (one two : Script) : Type 0 where
  pub profile : one.profile ≡ two.profile
  pub commands : one.commands ≡ two.commands

-- the script of the second camera, which has no faults
abbrev pub without_faults : Script → Script
without_faults script = record script { faults = [] }
