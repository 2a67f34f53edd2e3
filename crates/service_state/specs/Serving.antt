use Rattle.std.specs.Prelude.{◌≡◌, ℕ, ◌+◌, Bool, true, false, List, [], ◌∷◌, Option, length, IsTrue, if◌then◌else◌}
use Rattle.cam_types.specs.Script.{is_valid}
use Rattle.cam_types.specs.declared.item.Settings.{Settings}
use Rattle.cam_types.specs.declared.script.Script.{Script}
use Rattle.trace_laws.specs.Bounds.{early_bound, fence_bound}
use Rattle.trace_laws.specs.Typed.{is_typed}
use Rattle.run_model.specs.declared.step.Move.{Move}
use Rattle.run_model.specs.Run.{IsRun}
use Rattle.state_facts.specs.Clients.{Clients}
use Rattle.buffer_pool.specs.Fences.{FencesMade}
use Rattle.buffer_pool.specs.Pending.{Pending}
use Rattle.client_calls.specs.Captures.{Captures}
use Rattle.buffer_manager.specs.Managed.{Managed, homes_with}
use Rattle.device_core.specs.View.{DeviceView}
use Rattle.device_core.specs.Stored.{specs_of}
use Rattle.cam_types.specs.declared.row.RowView.{RowView}
use Rattle.device_rows.specs.Ready.{is_retire_ready}
use Rattle.device_rows.specs.Rows.{without}
use Rattle.service_parts.specs.Parts.{Parts, no_parts, parts}

-- What a contract sees of the parts of a service, and when they serve their script.

-- the script, and the parts
pub record Serving : Type 0 where
  pub script : Script
  pub parts : Parts

-- the parts are those that a run of the script leaves
pub record IsOfRun (script : Script) (p : Parts) : Type 0 where
  pub history : List Move
  pub run : IsRun script history
  pub left : p ≡ parts script history

-- the parts serve a valid script: they are those that a run of it leaves
pub record IsServing (s : Serving) : Type 0 where
  pub typed : IsTrue (is_typed s.script)
  pub valid : IsTrue (is_valid s.script)
  pub run : IsOfRun s.script s.parts

-- as they are opened
abbrev pub opened : Script → Serving
opened script = record { script = script; parts = no_parts }

-- ---- release fences (camera3.h, camera3_stream_buffer, release_fence)

-- the numbers, from n on, of the fences that aren't signalled
abbrev pub unsignalled : ℕ → List Bool → List ℕ
unsignalled n [] = []
unsignalled n (true ∷ signalled) = unsignalled (n + 1) signalled
unsignalled n (false ∷ signalled) = n ∷ unsignalled (n + 1) signalled

-- ---- what is held, and what a contract sees of it

abbrev pub parts_of : Clients → Captures → Managed → FencesMade → DeviceView → Option Settings → ℕ → Parts
parts_of client captures buffers fences device last clock = record {
  client = client;
  queue = captures.turns;
  kinds = captures.kinds;
  buffers = homes_with fences.signalled buffers;
  pictures = buffers.pictures;
  rows = device.rows;
  last = last;
  clock = clock;
}

-- the parts are made for the script, and agree: the device and the buffers have the client's streams, and each fence
-- that isn't signalled has its signaller
pub record IsKept (script : Script) (client : Clients) (captures : Captures) (buffers : Managed) (fences : FencesMade)
    (signals : Pending) (device : DeviceView) : Type 0 where
  pub faults : device.faults ≡ script.faults
  pub depth : device.capacity ≡ script.profile.depth
  pub profile : buffers.profile ≡ script.profile
  pub requests : captures.room ≡ length script.commands
  pub fence_room : fences.room ≡ fence_bound script
  pub signal_room : signals.room ≡ fence_bound script
  pub early_room : buffers.room ≡ early_bound script
  pub plan : specs_of device.plan ≡ client.streams
  pub specs : buffers.specs ≡ client.streams
  pub signallers : signals.numbers ≡ unsignalled 0 fences.signalled

-- ---- frames that end

-- the rows without that of frame n, if it is done
abbrev pub left : ℕ → List RowView → List RowView
left n rows = if is_retire_ready rows n then without n rows else rows
