use Rattle.std.specs.Prelude.{ℕ, ◌+◌, ◌*◌, Some, length, max, sum_by}
use Rattle.cam_types.specs.Script.{awaited_by}
use Rattle.cam_types.specs.declared.script.Command.{Command}
use Rattle.cam_types.specs.declared.script.Script.{Script}
use Rattle.trace_model.specs.Queue.{queued_items}

-- How much a legal run of a script can hold, whatever the order of its entries.

-- how many items a command puts into the queue at most
abbrev pub queued_by : Command → ℕ
queued_by c = length (queued_items (Some c))

-- the bound on frames: 64 repeating ones a command and a few more, those that awaits wait for, and the queued items
abbrev pub frame_bound : Script → ℕ
frame_bound script =
    64 * (length script.commands + 2) + (sum_by awaited_by script.commands + sum_by queued_by script.commands)

-- the bound on fences: each is of a release, which follows the filling of a buffer of a frame, and a frame has at most
-- four
abbrev pub fence_bound : Script → ℕ
fence_bound script = 4 * frame_bound script

-- the bound on shutter times: the first is at one second, and each exposure takes at most 0.1 s
abbrev pub time_bound : Script → ℕ
time_bound script = 1000000000 + 100000000 * frame_bound script

-- the bound on device fences: each is of an early return of a buffer of a frame
abbrev pub early_bound : Script → ℕ
early_bound script = 4 * frame_bound script

-- the bound on buffers: a configuration makes at most two more than may be at the device, for each of at most four
-- streams
abbrev pub configuration_bound : Script → ℕ
configuration_bound script = 4 * (max script.profile.raw script.profile.yuv + 2)

abbrev pub buffer_bound : Script → ℕ
buffer_bound script = configuration_bound script * length script.commands
