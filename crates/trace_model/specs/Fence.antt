use Rattle.std.specs.Prelude.{ℕ, ◌==◌, Bool, true, false, List, Option, Some, None, find}
use Rattle.std.specs.List.{list_any}
use Rattle.cam_types.specs.Four.{four_list}
use Rattle.cam_types.specs.declared.number.DeviceFenceNo.{DeviceFenceNo}
use Rattle.cam_types.specs.declared.number.FenceNo.{FenceNo}
use Rattle.trace_model.specs.declared.entry.Entry.{Entry}
use Rattle.trace_model.specs.declared.entry.Entry.TheVariants.{Send, Failed, Release, Early}
use Rattle.trace_model.specs.declared.entry.Sent.{Sent}
use Rattle.trace_model.specs.Entry.{signals, is_late_with}
use Rattle.trace_model.specs.Place.{last_naming}

-- Fences: who uses a buffer next waits for the fence that came with it (camera3.h, camera3_stream_buffer).

abbrev pub fence_after : Option Entry → Option FenceNo
fence_after (Some (Release _ f)) = Some f
fence_after (Some (Failed _ _ _ f)) = f
fence_after _ = None

-- the fence of a buffer at home: of its release, or the one with which it failed
abbrev pub fence_of : ℕ → List Entry → Option FenceNo
fence_of b past = fence_after (last_naming b past)

abbrev pub is_signalled : ℕ → List Entry → Bool
is_signalled f past = list_any (signals f) past

-- there is no fence to wait for, or it is signalled
abbrev pub is_passed : Option FenceNo → List Entry → Bool
is_passed None past = true
is_passed (Some f) past = is_signalled f.0 past

-- device fence d is signalled: the picture of its early return is there
abbrev pub is_late : ℕ → List Entry → Bool
is_late d past = list_any (is_late_with d) past

abbrev pub early_fence_after : Option Entry → Option DeviceFenceNo
early_fence_after (Some (Early _ _ _ d)) = Some d
early_fence_after _ = None

-- the device fence of a buffer that went to the client early
abbrev pub early_fence_of : ℕ → List Entry → Option DeviceFenceNo
early_fence_of b past = early_fence_after (last_naming b past)

-- there is no device fence to wait for, or it is signalled
abbrev pub is_there : Option DeviceFenceNo → List Entry → Bool
is_there None past = true
is_there (Some d) past = is_late d.0 past

abbrev pub fence_in : Option Sent → Option FenceNo
fence_in (Some t) = t.fence
fence_in None = None

abbrev pub acquired_in : ℕ → Option Entry → Option FenceNo
acquired_in b (Some (Send _ _ _ _ targets)) = fence_in (find (λ t. t.buffer.0 == b) (four_list targets))
acquired_in b _ = None

-- the acquire fence of a buffer that is at the device: the one with which it was sent
abbrev pub acquire_fence : ℕ → List Entry → Option FenceNo
acquire_fence b past = acquired_in b (last_naming b past)

abbrev pub is_same_fence : Option FenceNo → Option FenceNo → Bool
is_same_fence None None = true
is_same_fence (Some f) (Some g) = f.0 == g.0
is_same_fence _ _ = false
