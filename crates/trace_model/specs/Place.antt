use Rattle.std.specs.Prelude.{ℕ, ◌==◌, Bool, true, false, ◌&&◌, List, Option, Some, find}
use Rattle.std.specs.List.{list_any, list_all}
use Rattle.cam_types.specs.Four.{four_list}
use Rattle.trace_model.specs.declared.entry.Entry.{Entry}
use Rattle.trace_model.specs.declared.entry.Entry.TheVariants.{Send, Filled, Early}
use Rattle.trace_model.specs.Configuration.{made, numbers_of}
use Rattle.trace_model.specs.Entry.{names}

-- Where a buffer is, by the last entry that names it: every buffer is in one place. (camera3.h, S2 and
-- process_capture_result: a buffer that was sent is the device's until it comes back, errors or not.)

pub data Place : Type 0 where
  Pool : Place
  Device : Place
  Client : Place

-- the last entry that names buffer b
abbrev pub last_naming : ℕ → List Entry → Option Entry
last_naming b past = find (names b) past

abbrev pub place_after : Option Entry → Place
place_after (Some (Send _ _ _ _ _)) = Device
place_after (Some (Filled _ _ _ _ _)) = Client
place_after (Some (Early _ _ _ _)) = Client
place_after _ = Pool

abbrev pub place : ℕ → List Entry → Place
place b past = place_after (last_naming b past)

abbrev pub is_at : Place → Place → Bool
is_at Pool Pool = true
is_at Device Device = true
is_at Client Client = true
is_at _ _ = false

-- the entry sends frame n with buffer b for stream s
abbrev pub sends_with : ℕ → ℕ → ℕ → Option Entry → Bool
sends_with n s b (Some (Send m _ _ _ targets)) =
    (m.0 == n) && list_any (λ t. (t.stream.0 == s) && (t.buffer.0 == b)) (four_list targets)
sends_with n s b _ = false

-- buffer b is at the device by the send of frame n, for stream s
abbrev pub is_at_device_by : ℕ → ℕ → ℕ → List Entry → Bool
is_at_device_by n s b past = sends_with n s b (last_naming b past)

-- every buffer of the configuration is in the pool
abbrev pub all_in_pool : List Entry → Bool
all_in_pool past = list_all (λ m. list_all (λ b. is_at (place b past) Pool) (numbers_of (Some m))) (made past)
