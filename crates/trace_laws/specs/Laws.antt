use Rattle.std.specs.Prelude.{ℕ, ◌^◌, ◌<◌, ◌≤◌, Bool, true, List, length, nat_le, IsTrue}
use Rattle.std.specs.List.{list_all}
use Rattle.cam_types.specs.Script.{is_valid}
use Rattle.cam_types.specs.declared.script.Script.{Script}
use Rattle.trace_model.specs.declared.entry.Entry.{Entry}
use Rattle.trace_model.specs.declared.entry.Entry.TheVariants.{Shutter}
use Rattle.trace_model.specs.Calls.{request_count}
use Rattle.trace_model.specs.Configuration.{made_count}
use Rattle.trace_model.specs.Frames.{frames}
use Rattle.trace_model.specs.Legal.{IsLegal}
use Rattle.trace_model.specs.Numbers.{call_count, next_early, next_fence, next_number}
use Rattle.trace_model.specs.Printable.{is_printable}
use Rattle.trace_laws.specs.Typed.{is_typed}
use Rattle.trace_laws.specs.Bounds.{buffer_bound, early_bound, fence_bound, frame_bound, time_bound}

-- What a legal run of a script holds at most. The bounds hold of every script, valid or not; those of a valid one fit
-- the fields of the entries.

-- sends and drops together give away no more numbers than the bound on frames
abbrev pub BoundsFrames : Script → List Entry → Type 0
BoundsFrames script past = IsLegal script past → next_number past ≤ frame_bound script

-- so no more frames are sent
abbrev pub BoundsSends : Script → List Entry → Type 0
BoundsSends script past = IsLegal script past → length (frames past) ≤ frame_bound script

-- no more calls are answered than there are commands, and no more requests are accepted
abbrev pub BoundsCalls : Script → List Entry → Type 0
BoundsCalls script past = IsLegal script past → call_count past ≤ length script.commands

abbrev pub BoundsRequests : Script → List Entry → Type 0
BoundsRequests script past = IsLegal script past → request_count past ≤ length script.commands

-- releases give away no more numbers than the bound on fences
abbrev pub BoundsFences : Script → List Entry → Type 0
BoundsFences script past = IsLegal script past → next_fence past ≤ fence_bound script

-- early returns give away no more device fences than the bound on them
abbrev pub BoundsEarlies : Script → List Entry → Type 0
BoundsEarlies script past = IsLegal script past → next_early past ≤ early_bound script

-- configurations make no more buffers than the bound on buffers
abbrev pub BoundsBuffers : Script → List Entry → Type 0
BoundsBuffers script past = IsLegal script past → made_count past ≤ buffer_bound script

-- the entry isn't a shutter at a later time
abbrev pub is_until : ℕ → Entry → Bool
is_until time (Shutter _ t) = nat_le t time
is_until time _ = true

-- no shutter is later than the bound on times
abbrev pub BoundsTimes : Script → List Entry → Type 0
BoundsTimes script past = IsLegal script past → IsTrue (list_all (is_until (time_bound script)) past)

-- the bounds of a valid script are at most these
abbrev pub BoundsMost : Script → Type 0
BoundsMost script =
    IsTrue (is_valid script) →
    (frame_bound script ≤ 65664) × (fence_bound script ≤ 262656) × (early_bound script ≤ 262656)
    × (buffer_bound script ≤ 36864) × (time_bound script ≤ 6567400000000)

-- so they fit the fields of the entries
abbrev pub BoundsFit : Script → Type 0
BoundsFit script =
    IsTrue (is_valid script) →
    (frame_bound script < 2 ^ 32) × (fence_bound script < 2 ^ 32) × (early_bound script < 2 ^ 32)
    × (buffer_bound script < 2 ^ 32) × (time_bound script < 2 ^ 63)

-- ---- every entry has a line

-- in a legal run of a valid script each entry has a line in the trace's text: all its numbers fit their fields, and its
-- parts have a packed form
abbrev pub PrintsTyped : Script → List Entry → Type 0
PrintsTyped script past =
    IsTrue (is_typed script) → IsTrue (is_valid script) → IsLegal script past → IsTrue (list_all is_printable past)
