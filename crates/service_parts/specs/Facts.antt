use Rattle.std.specs.Prelude.{◌≡◌, ◌<◌, ◌^◌, ℕ, ◌+◌, Bool, true, false, List, ◌∷◌, Option, Some, None, length, slice_get, IsTrue}
use Rattle.std.specs.List.{list_all}
use Rattle.cam_types.specs.Four.{four_of}
use Rattle.cam_types.specs.Refusals.{specs_refusal}
use Rattle.cam_types.specs.Rows.{is_returned}
use Rattle.cam_types.specs.Script.{is_valid}
use Rattle.cam_types.specs.declared.four.Four.{Four}
use Rattle.cam_types.specs.declared.number.BufferId.{BufferId}
use Rattle.cam_types.specs.declared.number.DeviceFenceNo.{DeviceFenceNo}
use Rattle.cam_types.specs.declared.number.FenceNo.{FenceNo}
use Rattle.cam_types.specs.declared.number.FrameNo.{FrameNo}
use Rattle.cam_types.specs.declared.number.StreamIx.{StreamIx}
use Rattle.cam_types.specs.declared.number.RequestId.{RequestId}
use Rattle.cam_types.specs.declared.reply.Made.{Made}
use Rattle.cam_types.specs.declared.reply.Reply.{Reply}
use Rattle.cam_types.specs.declared.reply.Reply.TheVariants.{Configured, Submitted}
use Rattle.cam_types.specs.declared.row.TargetState.{TargetState}
use Rattle.cam_types.specs.declared.row.TargetState.TheVariants.{ReturnedEarly, EarlyFilled}
use Rattle.cam_types.specs.declared.row.TargetView.{TargetView}
use Rattle.cam_types.specs.declared.script.Command.{Command}
use Rattle.cam_types.specs.declared.script.Command.TheVariants.{Configure}
use Rattle.cam_types.specs.declared.script.Script.{Script}
use Rattle.cam_types.specs.declared.script.Word.{Word}
use Rattle.cam_types.specs.declared.stream.StreamSpec.{StreamSpec}
use Rattle.trace_laws.specs.Bounds.{early_bound, fence_bound}
use Rattle.trace_laws.specs.Typed.{is_typed}
use Rattle.trace_model.specs.declared.entry.Entry.{Entry}
use Rattle.trace_model.specs.declared.entry.Entry.TheVariants.{Call, Early, Release}
use Rattle.trace_model.specs.Calls.{command_at, word_of}
use Rattle.trace_model.specs.Configuration.{is_made}
use Rattle.trace_model.specs.Legal.{IsLegal}
use Rattle.trace_model.specs.Place.{Client, Device, is_at}
use Rattle.trace_model.specs.Reply.{made_for}
use Rattle.run_model.specs.declared.step.Move.{Move}
use Rattle.run_model.specs.History.{trace_of}
use Rattle.run_model.specs.Rows.{rows}
use Rattle.run_model.specs.Run.{IsRun}
use Rattle.state_facts.specs.Turns.{turns}
use Rattle.state_facts.specs.Homes.{Homes, all_home, held_in, homes, late_in, place_in}
use Rattle.client_calls.specs.Captures.{CanTake}
use Rattle.device_rows.specs.Kept as fences
use Rattle.device_rows.specs.Rows.{target_in}
use Rattle.run_rows.specs.Kept.{is_no_row}

-- What holds of a service's parts in every run, which the calls of its parts ask for.

-- ---- buffers and their fences (camera3.h, camera3_stream_buffer)

-- each fence with which a buffer came home was released
abbrev pub HasGivenFences : Script → List Entry → Type 0
HasGivenFences script past =
    IsLegal script past → IsTrue (list_all (fences.is_made (length (homes past).signalled)) (homes past).fences)

-- the buffer is one of the stream's
abbrev pub is_of : Option Made → ℕ → Bool
is_of (Some m) b = is_made b m
is_of None b = false

-- the buffer came back early, and its picture isn't with the client yet
abbrev pub is_early : TargetState → Bool
is_early ReturnedEarly = true
is_early EarlyFilled = true
is_early _ = false

-- the client has the buffer, with a device fence that isn't signalled
pub record IsAwaited (t : Homes) (b : ℕ) (d : DeviceFenceNo) : Type 0 where
  pub place : is_at (place_in t b) Client ≡ true
  pub fence : held_in t b ≡ Some d
  pub awaited : late_in t d.0 ≡ false

-- where the buffer of a row's target is: it is the stream's, and at the device until it came back
pub record IsPlaced (t : Homes) (s : ℕ) (target : TargetView) : Type 0 where
  pub own : is_of (slice_get t.made s) target.buffer.0 ≡ true
  pub device : is_returned target.state ≡ false → is_at (place_in t target.buffer.0) Device ≡ true
  pub early : is_early target.state ≡ true → (d : DeviceFenceNo) × IsAwaited t target.buffer.0 d

-- in every run
abbrev pub PlacesTargets : Script → List Move → Type 0
PlacesTargets script h =
    IsRun script h → (n s : ℕ) → (target : TargetView) →
    target_in n s (rows script h) ≡ Some target → IsPlaced (homes (trace_of h)) s target

-- ---- room (our own choice, as all numbers)

-- a fence of a release is below the bound, and a device fence of an early return
abbrev pub HasRoomForFences : Script → List Entry → BufferId → FenceNo → Type 0
HasRoomForFences script past b f =
    IsLegal script (Release b f ∷ past) → length (homes past).signalled < fence_bound script

abbrev pub HasRoomForEarly : Script → List Entry → FrameNo → StreamIx → BufferId → DeviceFenceNo → Type 0
HasRoomForEarly script past n s b d =
    IsLegal script (Early n s b d ∷ past) → length (homes past).late < early_bound script

-- one more request is one of the script's commands
abbrev pub HasRoomForRequests : Script → List Entry → ℕ → Word → RequestId → Type 0
HasRoomForRequests script past i word r =
    IsLegal script (Call i word (Submitted r) ∷ past) → (turns script past).requests < length script.commands

-- the numbers of one more configuration's buffers fit their type
abbrev pub HasRoomForBuffers : Script → List Entry → Type 0
HasRoomForBuffers script past =
    IsTrue (is_typed script) → IsTrue (is_valid script) → IsLegal script past →
    (homes past).first + (length (homes past).places + 72) < 2 ^ 32

-- ---- calls

-- a call is of its command, and what it submits can be taken
abbrev pub CallsCanBeTaken : Script → List Entry → ℕ → Word → Reply → Command → Type 0
CallsCanBeTaken script past i word reply c =
    IsTrue (is_valid script) → IsLegal script (Call i word reply ∷ past) → command_at script i ≡ Some c →
    (word ≡ word_of c) × CanTake (turns script past) c reply

-- an accepted configuration is of a configure that isn't refused, while every buffer is in its pool
pub record IsConfigured (script : Script) (t : Homes) (specs : List StreamSpec) (each : Four Made) : Type 0 where
  pub accepted : specs_refusal specs ≡ None
  pub made : each ≡ four_of (made_for script.profile (t.first + length t.places) specs)
  pub home : all_home t ≡ true

abbrev pub IsConfiguredBy : Script → Homes → Option Command → Four Made → Type 0
IsConfiguredBy script t (Some (Configure specs)) each = IsConfigured script t specs each
IsConfiguredBy script t _ each = ⊥

abbrev pub ConfiguresAtHome : Script → List Entry → ℕ → Word → Four Made → Type 0
ConfiguresAtHome script past i word each =
    IsLegal script (Call i word (Configured each) ∷ past) →
    IsConfiguredBy script (homes past) (command_at script i) each

-- and no frame is open then
abbrev pub ConfiguresAtRest : Script → List Move → Move → ℕ → Word → Four Made → Type 0
ConfiguresAtRest script h m i word each =
    IsRun script (m ∷ h) → m.entry ≡ Some (Call i word (Configured each)) → is_no_row (rows script h) ≡ true
