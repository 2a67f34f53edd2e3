use Rattle.std.specs.Prelude.{ℕ, ◌-◌, ◌==◌, ◌&&◌, Bool, true, false, not, List, Option, Some, None, length, nat_le, nat_lt, slice_index_or, if◌then◌else◌}
use Rattle.cam_types.specs.Picture.{length_in}
use Rattle.cam_types.specs.Shown.{Shown}
use Rattle.cam_types.specs.declared.number.DeviceFenceNo.{DeviceFenceNo}
use Rattle.cam_types.specs.declared.number.FenceNo.{FenceNo}
use Rattle.cam_types.specs.declared.stream.StreamSpec.{StreamSpec}
use Rattle.buffer_pool.specs.Blocks.{block_length}
use Rattle.trace_model.specs.Place.{Place, Pool, Device, Client}
use Rattle.buffer_manager.specs.declared.slot.Slot.{Slot}
use Rattle.buffer_manager.specs.declared.slot.Slot.TheVariants.{Home, Away, Filled, Early, Late}

-- What is kept for each buffer (our own choice).

abbrev pub place_of : Slot → Place
place_of (Home fence) = Pool
place_of Away = Device
place_of (Filled pixels) = Client
place_of (Early signaller waiter) = Client
place_of (Late pixels waiter) = Client

-- the fence with which it came home
abbrev pub fence_of : Slot → Option FenceNo
fence_of (Home fence) = fence
fence_of _ = None

-- the device fence with which it went to the client early
abbrev pub held_of : Slot → Option DeviceFenceNo
held_of (Early signaller waiter) = Some (record { 0 = waiter })
held_of (Late pixels waiter) = Some (record { 0 = waiter })
held_of _ = None

-- the device fence that waits for the picture
abbrev pub awaited_of : Slot → Option ℕ
awaited_of (Early signaller waiter) = Some signaller
awaited_of _ = None

-- the pixels are the whole buffer of this number, of the stream
abbrev pub is_buffer_of : StreamSpec → ℕ → Shown → Bool
is_buffer_of spec b pixels =
    (pixels.id.0 == b)
    && ((length pixels.bytes == length_in spec.format spec.width spec.height)
    && (pixels.block == block_length spec.format))

-- what is kept for buffer b of the stream is its own
abbrev pub is_sound : StreamSpec → ℕ → Slot → Bool
is_sound spec b (Filled pixels) = is_buffer_of spec b pixels
is_sound spec b (Late pixels waiter) = is_buffer_of spec b pixels
is_sound spec b _ = true

-- its device fence was made, and is signalled exactly where the picture is there
abbrev pub is_timely : List Bool → Slot → Bool
is_timely late (Early signaller waiter) =
    (signaller == waiter) && (nat_lt waiter (length late) && not (slice_index_or late waiter false))
is_timely late (Late pixels waiter) = nat_lt waiter (length late) && slice_index_or late waiter false
is_timely late _ = true

-- what is kept for buffer b, where the first is kept first
abbrev pub slot_at : ℕ → List Slot → ℕ → Slot
slot_at first slots b = if nat_le first b then slice_index_or slots (b - first) Away else Away

-- the number of a buffer's fence
abbrev pub fence_number : Option FenceNo → Option ℕ
fence_number (Some fence) = Some fence.0
fence_number None = None

-- the client has it with its picture
abbrev pub has_picture : Slot → Bool
has_picture (Filled pixels) = true
has_picture (Late pixels waiter) = true
has_picture _ = false

-- the buffer that the client has with its picture
abbrev pub pixels_of : Slot → Option Shown
pixels_of (Filled pixels) = Some pixels
pixels_of (Late pixels waiter) = Some pixels
pixels_of _ = None

-- the bytes that it shows the client
abbrev pub picture_of : Slot → Option (List ℕ)
picture_of (Filled pixels) = Some pixels.bytes
picture_of (Late pixels waiter) = Some pixels.bytes
picture_of _ = None

-- its device fence is one of so many that were made
abbrev pub is_made_slot : ℕ → Slot → Bool
is_made_slot made (Early signaller waiter) = nat_lt signaller made && nat_lt waiter made
is_made_slot made (Late pixels waiter) = nat_lt waiter made
is_made_slot made _ = true
