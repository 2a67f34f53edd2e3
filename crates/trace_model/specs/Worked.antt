-- Short words for what worked traces are written with.
use Rattle.std.specs.Prelude.{ℕ, Option, Some, None}
use Rattle.cam_types.specs.declared.four.Four.{Four}
use Rattle.cam_types.specs.declared.number.BufferId.{BufferId}
use Rattle.cam_types.specs.declared.number.DeviceFenceNo.{DeviceFenceNo}
use Rattle.cam_types.specs.declared.number.FenceNo.{FenceNo}
use Rattle.cam_types.specs.declared.number.FrameNo.{FrameNo}
use Rattle.cam_types.specs.declared.number.RequestId.{RequestId}
use Rattle.cam_types.specs.declared.number.StreamIx.{StreamIx}
use Rattle.cam_types.specs.declared.reply.Made.{Made}
use Rattle.trace_model.specs.declared.entry.Sent.{Sent}

abbrev pub frame : ℕ → FrameNo
frame n = record { 0 = n }

abbrev pub buffer : ℕ → BufferId
buffer n = record { 0 = n }

abbrev pub fence : ℕ → FenceNo
fence n = record { 0 = n }

abbrev pub device_fence : ℕ → DeviceFenceNo
device_fence n = record { 0 = n }

abbrev pub stream : ℕ → StreamIx
stream n = record { 0 = n }

abbrev pub request : ℕ → RequestId
request n = record { 0 = n }

abbrev pub made : ℕ → ℕ → Made
made first count = record { first = record { 0 = first }; count = count }

abbrev pub with : ℕ → ℕ → Option FenceNo → Sent
with s b f = record { stream = record { 0 = s }; buffer = record { 0 = b }; fence = f }

-- four places, of which the first ones are filled
abbrev pub one : {T : Type 0} → T → Four T
one a = record { a = Some a; b = None; c = None; d = None }

abbrev pub two : {T : Type 0} → T → T → Four T
two a b = record { a = Some a; b = Some b; c = None; d = None }

abbrev pub three : {T : Type 0} → T → T → T → Four T
three a b c = record { a = Some a; b = Some b; c = Some c; d = None }
