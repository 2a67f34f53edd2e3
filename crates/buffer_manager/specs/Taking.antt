use Rattle.std.specs.Prelude.{◌≡◌, ℕ, Bool, false, not, ◌||◌, ◌&&◌, is_some, slice_index_or, List, [], ◌∷◌, Option, Some, None, slice_get, if◌then◌else◌}
use Rattle.std.specs.Option.{option_map}
use Rattle.cam_types.specs.declared.four.Four.{Four}
use Rattle.cam_types.specs.declared.stream.StreamSpec.{StreamSpec}
use Rattle.buffer_pool.specs.declared.parked.Parked.{Parked}
use Rattle.fill_jobs.specs.Buffers.{IsBufferFor}
use Rattle.trace_model.specs.declared.entry.Sent.{Sent}
use Rattle.trace_model.specs.Send.{with_target}
use Rattle.state_facts.specs.Homes.{Homes, fence_in, least_in}

-- The buffers that go to the device with a frame (camera3.h, camera3_capture_request). That each stream's least goes
-- first is our own choice.

-- a buffer of stream s as a target, with its fence
abbrev pub target_with_fence : Homes → ℕ → Option ℕ → Option Sent
target_with_fence homes s (Some b) =
    Some (record { stream = record { 0 = s }; buffer = record { 0 = b }; fence = fence_in homes b })
target_with_fence homes s None = None

-- the least buffer of stream s at home, as a target
abbrev pub least_target_in : Homes → ℕ → Option Sent
least_target_in homes s = target_with_fence homes s (least_in homes s)

-- each of the streams has a buffer at home: the targets
abbrev pub least_targets_in : Homes → List ℕ → Option (List Sent)
least_targets_in homes [] = Some []
least_targets_in homes (s ∷ streams) = with_target (least_target_in homes s) (least_targets_in homes streams)

-- the buffer is whole, of the stream, with the waiter of the target's fence
pub record IsTakenWith (spec : StreamSpec) (sent : Sent) (parked : Parked) : Type 0 where
  pub pixels : IsBufferFor spec sent.buffer parked.pixels
  pub waiter : parked.waiter ≡ option_map (λ f. f.0) sent.fence

abbrev pub IsTakenFor : Option StreamSpec → Sent → Parked → Type 0
IsTakenFor (Some spec) sent parked = IsTakenWith spec sent parked
IsTakenFor None sent parked = ⊥

abbrev pub IsTakenAt : List StreamSpec → Option Sent → Option Parked → Type 0
IsTakenAt specs (Some sent) (Some parked) = IsTakenFor (slice_get specs sent.stream.0) sent parked
IsTakenAt specs None None = Unit {0}
IsTakenAt specs _ _ = ⊥

-- one buffer for each target, at its place
pub record AreTaken (specs : List StreamSpec) (targets : Four Sent) (parked : Four Parked) : Type 0 where
  pub a : IsTakenAt specs targets.a parked.a
  pub b : IsTakenAt specs targets.b parked.b
  pub c : IsTakenAt specs targets.c parked.c
  pub d : IsTakenAt specs targets.d parked.d

-- four places without a value, and a value put before those of the first three places
abbrev pub no_four : {T : Type 0} → Four T
no_four = record { a = None; b = None; c = None; d = None }

abbrev pub put_before : {T : Type 0} → Option T → Four T → Four T
put_before (Some v) four = record { a = Some v; b = four.a; c = four.b; d = four.c }
put_before None four = four

-- the least buffer of a stream that is asked for
abbrev pub target_if : Bool → Homes → ℕ → Option Sent
target_if asked homes s = if asked then least_target_in homes s else None

-- a stream that is asked for has a buffer at home
abbrev pub has_one : Homes → Bool → ℕ → Bool
has_one homes asked s = not asked || is_some (least_target_in homes s)

-- each of the four streams that is asked for has one
abbrev pub has_each : Homes → List Bool → Bool
has_each homes asked =
    has_one homes (slice_index_or asked 0 false) 0 && (has_one homes (slice_index_or asked 1 false) 1
    && (has_one homes (slice_index_or asked 2 false) 2 && has_one homes (slice_index_or asked 3 false) 3))
