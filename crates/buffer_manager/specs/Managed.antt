use Rattle.std.specs.Prelude.{◌≡◌, ℕ, ◌+◌, ◌-◌, ◌&&◌, ◌||◌, not, count_by, Bool, true, false, List, [], ◌∷◌, ◌++◌, Option, Some, None, filter, length, nat_le, nat_lt, replicate, slice_get, slice_index_or, slice_set, if◌then◌else◌}
use Rattle.std.specs.List.{range_with_len}
use Rattle.cam_types.specs.Limits.{raw_limit, stream_limit, yuv_limit}
use Rattle.cam_types.specs.Profile.{pool_size}
use Rattle.cam_types.specs.Refusals.{is_raw, is_yuv}
use Rattle.cam_types.specs.Shown.{Shown}
use Rattle.cam_types.specs.declared.number.DeviceFenceNo.{DeviceFenceNo}
use Rattle.cam_types.specs.declared.number.FenceNo.{FenceNo}
use Rattle.cam_types.specs.declared.profile.Profile.{Profile}
use Rattle.cam_types.specs.declared.reply.Made.{Made}
use Rattle.cam_types.specs.declared.stream.StreamSpec.{StreamSpec}
use Rattle.fill_jobs.specs.Buffers.{IsBufferFor}
use Rattle.trace_model.specs.Configuration.{is_made}
use Rattle.trace_model.specs.Place.{Place, Pool, Device, Client, is_at}
use Rattle.trace_model.specs.Reply.{made_for}
use Rattle.trace_model.specs.declared.entry.Sent.{Sent}
use Rattle.state_facts.specs.Homes.{Homes, count_in, held_in, late_in, place_in, put_all, there_in}

-- Where the buffers of a configuration are, as the side keeps it that owns those which the device hasn't (camera3.h,
-- process_capture_result: a buffer that was sent is the device's until it comes back).

-- the buffers made for each stream, the number of the first, and for each buffer its place, the fence with which it
-- came home, the device fence with which it went to the client early and the bytes that it shows there, once its picture
-- is there; which device fences are signalled; the streams; for how many device fences there is room; and the device's
-- profile
pub record Managed : Type 0 where
  pub made : List Made
  pub first : ℕ
  pub places : List Place
  pub fences : List (Option FenceNo)
  pub held : List (Option DeviceFenceNo)
  pub pictures : List (Option (List ℕ))
  pub late : List Bool
  pub specs : List StreamSpec
  pub room : ℕ
  pub profile : Profile

-- the same as the state of a trace has it, where these fences are signalled
abbrev pub homes_with : List Bool → Managed → Homes
homes_with signalled m = record {
  made = m.made;
  first = m.first;
  places = m.places;
  fences = m.fences;
  signalled = signalled;
  held = m.held;
  late = m.late;
}

abbrev pub no_buffers : Profile → ℕ → Managed
no_buffers profile room = record {
  made = [];
  first = 0;
  places = [];
  fences = [];
  held = [];
  pictures = [];
  late = [];
  specs = [];
  room = room;
  profile = profile;
}

-- buffer b is one of stream s
abbrev pub IsOf : Managed → ℕ → ℕ → Type 0
IsOf m s b = (made : Made) × (slice_get m.made s ≡ Some made) × (is_made b made ≡ true)

-- the pixels are a whole buffer of the stream
abbrev pub IsBufferAt : Option StreamSpec → Shown → Type 0
IsBufferAt (Some spec) pixels = IsBufferFor spec pixels.id pixels
IsBufferAt None pixels = ⊥

-- buffer b goes to a place, with a fence and with a device fence (see `put` of state_facts), and shows the client these
-- bytes
abbrev pub moved : ℕ → Place → Option FenceNo → Option DeviceFenceNo → Option (List ℕ) → Managed → Managed
moved b place fence device picture m =
    record m {
      places = slice_set m.places (b - m.first) place;
      fences = slice_set m.fences (b - m.first) fence;
      held = slice_set m.held (b - m.first) device;
      pictures = slice_set m.pictures (b - m.first) picture;
    }

-- one more device fence, which isn't signalled
abbrev pub with_late : Managed → Managed
with_late m = record m { late = m.late ++ false ∷ [] }

-- a device fence is signalled, and buffer b shows the client these bytes
abbrev pub with_picture : ℕ → ℕ → List ℕ → Managed → Managed
with_picture d b picture m =
    record m {
      late = slice_set m.late d true;
      pictures = slice_set m.pictures (b - m.first) (Some picture);
    }

-- the number of a waiter's fence
abbrev pub fence_from : Option ℕ → Option FenceNo
fence_from (Some fence) = Some (record { 0 = fence })
fence_from None = None

-- the client has the buffer, and its picture is there
abbrev pub may_be_released : Managed → ℕ → Bool
may_be_released m b =
    let homes = homes_with [] m in is_at (place_in homes b) Client && there_in homes (held_in homes b)

-- the buffer went early, and its picture isn't there
abbrev pub IsAwaited : Managed → ℕ → Type 0
IsAwaited m b =
    let homes = homes_with [] m in (d : DeviceFenceNo) × (held_in homes b ≡ Some d) × (late_in homes d.0 ≡ false)

-- the bytes that buffer b shows the client; none where the client hasn't the buffer, or its picture isn't there
abbrev pub picture_in : Managed → ℕ → Option (List ℕ)
picture_in m b = if nat_le m.first b then slice_index_or m.pictures (b - m.first) None else None

-- how many of the n buffers from a on are at the device
abbrev pub away_count : Homes → ℕ → ℕ → ℕ
away_count homes a n = length (filter (λ b. is_at (place_in homes b) Device) (range_with_len a n))

-- the buffers of the targets go to the device, and their fences with them (see `sent_with` of state_facts)
abbrev pub sent_away : List Sent → Managed → Managed
sent_away targets m =
    record m {
      places = put_all m.first Device targets m.places;
      fences = put_all m.first None targets m.fences;
      held = put_all m.first None targets m.held;
      pictures = put_all m.first None targets m.pictures;
    }

-- the buffer of a target, if there is one, goes to the device
abbrev pub sent_if : Option Sent → Managed → Managed
sent_if (Some target) m = moved target.buffer.0 Device None None None m
sent_if None m = m

-- where it has a fence, this is one of so many that were made
abbrev pub is_given : ℕ → Option FenceNo → Bool
is_given made (Some fence) = nat_lt fence.0 made
is_given made None = true

-- no streams and no buffers: the next buffer is the first
abbrev pub cleared : Managed → Managed
cleared m = record m {
  made = [];
  first = m.first + length m.places;
  places = [];
  fences = [];
  held = [];
  pictures = [];
  specs = [];
}

-- one more stream, whose buffers are all at home
abbrev pub with_stream : StreamSpec → Managed → Managed
with_stream spec m =
    let count = pool_size m.profile spec.format in
    record m {
      made = m.made ++ record { first = record { 0 = m.first + length m.places }; count = count } ∷ [];
      places = m.places ++ replicate count Pool;
      fences = m.fences ++ replicate count None;
      held = m.held ++ replicate count None;
      pictures = m.pictures ++ replicate count None;
      specs = m.specs ++ spec ∷ [];
    }

-- there is a place for one more stream of this format: at most four, one of RAW16 and three of YUV
abbrev pub has_room_for : List StreamSpec → StreamSpec → Bool
has_room_for specs spec =
    nat_lt (length specs) stream_limit
    && ((not (is_raw spec.format) || nat_lt (count_by (λ s. is_raw s.format) specs) raw_limit)
    && (not (is_yuv spec.format) || nat_lt (count_by (λ s. is_yuv s.format) specs) yuv_limit))

-- these streams, where there were none
abbrev pub opened : List StreamSpec → Managed → Managed
opened specs m =
    let made = made_for m.profile m.first specs in
    record m {
      made = made;
      places = replicate (count_in made) Pool;
      fences = replicate (count_in made) None;
      held = replicate (count_in made) None;
      pictures = replicate (count_in made) None;
      specs = specs;
    }

-- fresh buffers for these streams, each at home with no fence, numbered on from the last
abbrev pub reopened : List StreamSpec → Managed → Managed
reopened specs m = opened specs (record m { first = m.first + length m.places })
