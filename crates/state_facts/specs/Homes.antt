use Rattle.std.specs.Prelude.{ℕ, ◌-◌, ◌+◌, Bool, true, false, ◌&&◌, not, List, [], ◌∷◌, ◌++◌, Option, Some, None, length, map, filter, find, nat_le, nat_lt, replicate, slice_get, slice_index_or, slice_set, sum_by, if◌then◌else◌}
use Rattle.std.specs.List.{list_all, range_with_len}
use Rattle.cam_types.specs.Four.{four_list}
use Rattle.cam_types.specs.declared.number.DeviceFenceNo.{DeviceFenceNo}
use Rattle.cam_types.specs.declared.number.FenceNo.{FenceNo}
use Rattle.cam_types.specs.declared.reply.Made.{Made}
use Rattle.cam_types.specs.declared.reply.Reply.TheVariants.{Configured}
use Rattle.trace_model.specs.declared.entry.Entry.{Entry}
use Rattle.trace_model.specs.declared.entry.Entry.TheVariants.{Call, Send, Filled, Failed, Release, Signal, Early, Late}
use Rattle.trace_model.specs.declared.entry.Sent.{Sent}
use Rattle.trace_model.specs.Configuration.{made, made_count, numbers_of}
use Rattle.trace_model.specs.Fence.{early_fence_of, fence_of, is_late, is_signalled}
use Rattle.trace_model.specs.Numbers.{next_early, next_fence}
use Rattle.trace_model.specs.Place.{Place, Pool, Device, Client, is_at, place}

-- Where the configuration's buffers are, as a small state: lists with a place for each buffer, from the first number
-- on.

-- the buffers made for each stream, the number of the first, and for each buffer its place, the fence with which it
-- came home and the device fence with which it went to the client early; of each fence and each device fence whether it
-- is signalled
pub record Homes : Type 0 where
  pub made : List Made
  pub first : ℕ
  pub places : List Place
  pub fences : List (Option FenceNo)
  pub signalled : List Bool
  pub held : List (Option DeviceFenceNo)
  pub late : List Bool

-- before the first configuration
abbrev pub no_homes : Homes
no_homes = record { made = []; first = 0; places = []; fences = []; signalled = []; held = []; late = [] }

-- ---- the state that a past leaves

-- the number of the configuration's first buffer
abbrev pub first_buffer : List Entry → ℕ
first_buffer [] = 0
first_buffer (Call _ _ (Configured _) ∷ past) = made_count past
first_buffer (_ ∷ past) = first_buffer past

-- how many buffers a configuration made
abbrev pub count_in : List Made → ℕ
count_in ms = sum_by (λ m. m.count) ms

-- the numbers of the configuration's buffers
abbrev pub numbers : List Entry → List ℕ
numbers past = range_with_len (first_buffer past) (count_in (made past))

-- the buffers and fences, as a past leaves them
abbrev pub homes : List Entry → Homes
homes past = record {
  made = made past;
  first = first_buffer past;
  places = map (λ b. place b past) (numbers past);
  fences = map (λ b. fence_of b past) (numbers past);
  signalled = map (λ f. is_signalled f past) (range_with_len 0 (next_fence past));
  held = map (λ b. early_fence_of b past) (numbers past);
  late = map (λ d. is_late d past) (range_with_len 0 (next_early past));
}

-- ---- what each entry does to the state

-- the value is put at the place of each target's buffer
abbrev pub put_all : {X : Type 0} → ℕ → X → List Sent → List X → List X
put_all a v [] xs = xs
put_all a v (t ∷ targets) xs = slice_set (put_all a v targets xs) (t.buffer.0 - a) v

-- buffer b goes to a place, with a fence, and with a device fence
abbrev pub put : ℕ → Place → Option FenceNo → Option DeviceFenceNo → Homes → Homes
put b p f d t =
    record t {
      places = slice_set t.places (b - t.first) p;
      fences = slice_set t.fences (b - t.first) f;
      held = slice_set t.held (b - t.first) d;
    }

-- fresh buffers, each in its pool and with no fence; what is signalled stays
abbrev pub configured : List Made → Homes → Homes
configured ms t = record t {
  made = ms;
  first = t.first + length t.places;
  places = replicate (count_in ms) Pool;
  fences = replicate (count_in ms) None;
  held = replicate (count_in ms) None;
}

-- the buffers of the targets go to the device, and their fences with them
abbrev pub sent_with : List Sent → Homes → Homes
sent_with targets t =
    record t {
      places = put_all t.first Device targets t.places;
      fences = put_all t.first None targets t.fences;
      held = put_all t.first None targets t.held;
    }

-- the state after an entry: each that names a buffer moves it, each release and each early return gives a fence
abbrev pub homes_after : Entry → Homes → Homes
homes_after (Call _ _ (Configured each)) t = configured (four_list each) t
homes_after (Send _ _ _ _ targets) t = sent_with (four_list targets) t
homes_after (Filled _ _ b _ _) t = put b.0 Client None None t
homes_after (Failed _ _ b f) t = put b.0 Pool f None t
homes_after (Release b f) t = let back = put b.0 Pool (Some f) None t in record back { signalled = t.signalled ++ false ∷ [] }
homes_after (Signal f) t = record t { signalled = slice_set t.signalled f.0 true }
homes_after (Early _ _ b d) t = let back = put b.0 Client None (Some d) t in record back { late = t.late ++ false ∷ [] }
homes_after (Late d _) t = record t { late = slice_set t.late d.0 true }
homes_after _ t = t

-- ---- what is read from it

-- the place of a buffer: one that isn't the configuration's is in the pool
abbrev pub place_in : Homes → ℕ → Place
place_in t b = if nat_le t.first b then slice_index_or t.places (b - t.first) Pool else Pool

-- the fence of a buffer at home
abbrev pub fence_in : Homes → ℕ → Option FenceNo
fence_in t b = slice_index_or t.fences (b - t.first) None

-- a fence that was released is signalled
abbrev pub signalled_in : Homes → ℕ → Bool
signalled_in t f = slice_index_or t.signalled f false

-- there is no fence to wait for, or it is signalled
abbrev pub passed_in : Homes → Option FenceNo → Bool
passed_in t (Some f) = signalled_in t f.0
passed_in t None = true

-- the device fence of a buffer that went to the client early
abbrev pub held_in : Homes → ℕ → Option DeviceFenceNo
held_in t b = slice_index_or t.held (b - t.first) None

-- a device fence is signalled: the picture of its early return is there
abbrev pub late_in : Homes → ℕ → Bool
late_in t d = slice_index_or t.late d false

-- there is no device fence to wait for, or it is signalled
abbrev pub there_in : Homes → Option DeviceFenceNo → Bool
there_in t None = true
there_in t (Some d) = late_in t d.0

-- each buffer is in its pool
abbrev pub all_home : Homes → Bool
all_home t = list_all (λ p. is_at p Pool) t.places

-- each fence that was released is signalled
abbrev pub all_signalled : Homes → Bool
all_signalled t = list_all (λ b. b) t.signalled

-- the release and the signal that are due
abbrev pub release_in : Homes → ℕ → Option Entry
release_in t b =
    if is_at (place_in t b) Client && there_in t (held_in t b)
    then Some (Release (record { 0 = b }) (record { 0 = length t.signalled })) else None

-- the signal that is due: of a fence that was released and isn't signalled
abbrev pub signal_in : Homes → ℕ → Option Entry
signal_in t f =
    if nat_lt f (length t.signalled) && not (signalled_in t f) then Some (Signal (record { 0 = f })) else None

-- the numbers of a stream's buffers, how many of them are at the device, and the least in the pool
abbrev pub stream_in : Homes → ℕ → List ℕ
stream_in t s = numbers_of (slice_get t.made s)

-- how many of a stream's buffers are at the device
abbrev pub at_device_in : Homes → ℕ → ℕ
at_device_in t s = length (filter (λ b. is_at (place_in t b) Device) (stream_in t s))

-- a stream's least buffer in the pool
abbrev pub least_in : Homes → ℕ → Option ℕ
least_in t s = find (λ b. is_at (place_in t b) Pool) (stream_in t s)
