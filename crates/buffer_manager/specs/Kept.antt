use Rattle.std.specs.Prelude.{◌≡◌, ℕ, ◌+◌, ◌*◌, ◌==◌, ◌≤◌, ◌<◌, ◌^◌, ◌&&◌, Bool, true, List, [], ◌∷◌, Some, length, map, slice_get, slice_index_or, if◌then◌else◌}
use Rattle.std.specs.List.{list_all}
use Rattle.cam_types.specs.Picture.{is_offered}
use Rattle.cam_types.specs.Profile.{is_profile, pool_size}
use Rattle.cam_types.specs.Refusals.{is_raw, is_yuv}
use Rattle.cam_types.specs.declared.profile.Profile.{Profile}
use Rattle.cam_types.specs.declared.stream.Format.{Format}
use Rattle.cam_types.specs.declared.stream.Format.TheVariants.{Raw16, Yuv}
use Rattle.buffer_pool.specs.Blocks.{Stock}
use Rattle.buffer_pool.specs.Parked.{number}
use Rattle.buffer_pool.specs.declared.parked.Parked.{Parked}
use Rattle.cam_types.specs.declared.stream.StreamSpec.{StreamSpec}
use Rattle.buffer_manager.specs.Resting.{listed, resting}
use Rattle.buffer_manager.specs.declared.stream.Stream.{Stream}
use Rattle.buffer_manager.specs.declared.slot.Slot.{Slot}
use Rattle.buffer_manager.specs.declared.slot.Slot.TheVariants.{Away}
use Rattle.buffer_manager.specs.Slots.{awaited_of, fence_number, fence_of, is_buffer_of, is_sound, is_timely, place_of, slot_at}

-- What is kept of streams, their pools and what is kept for each buffer (our own choice).

-- a buffer at home is the stream's own
abbrev pub is_own : StreamSpec → Parked → Bool
is_own spec parked = is_buffer_of spec (number parked) parked.pixels

-- a stream's pool holds those of its buffers that are at home, with their fences; all that is kept is its own
pub record IsStocked (first : ℕ) (slots : List Slot) (s : Stream) : Type 0 where
  pub spec : s.pool.spec ≡ s.spec
  pub low : s.pool.first ≡ s.made.first.0
  pub count : s.pool.count ≡ s.made.count
  pub home : map resting s.pool.home
      ≡ listed (λ b. place_of (slot_at first slots b)) (λ b. fence_number (fence_of (slot_at first slots b)))
      s.made.first.0 s.made.count
  pub own : list_all (is_own s.spec) s.pool.home ≡ true
  pub offered : is_offered s.spec ≡ true
  pub sound : (b : ℕ) → s.made.first.0 ≤ b → b < s.made.first.0 + s.made.count
      → is_sound s.spec b (slot_at first slots b) ≡ true

-- each stream's buffers are numbered on from those of the stream before it, up to `end`
abbrev pub follow : ℕ → ℕ → List Stream → Bool
follow end n [] = end == n
follow end n (s ∷ streams) = (s.made.first.0 == n) && follow end (n + s.made.count) streams

-- how many buffers the streams of such a format have
abbrev pub count_for : (Format → Bool) → List Stream → ℕ
count_for p [] = 0
count_for p (s ∷ streams) = (if p s.spec.format then s.made.count else 0) + count_for p streams

-- the blocks that the streams haven't are free, and there are as many as a configuration can need
pub record AreLent (profile : Profile) (streams : List Stream) (blocks : Stock) : Type 0 where
  pub raw : blocks.raw.lent ≡ count_for is_raw streams
  pub yuv : blocks.yuv.lent ≡ count_for is_yuv streams
  pub all_raw : blocks.raw.free + blocks.raw.lent ≡ pool_size profile Raw16
  pub all_yuv : blocks.yuv.free + blocks.yuv.lent ≡ 3 * pool_size profile Yuv
  pub sizes : (k : ℕ) (s : Stream) → slice_get streams k ≡ Some s
      → s.made.count ≡ pool_size profile s.spec.format

-- the buffers' device fences were made, and each awaits one picture
pub record AreTimely (late : List Bool) (slots : List Slot) : Type 0 where
  pub timely : (i : ℕ) → is_timely late (slice_index_or slots i Away) ≡ true
  pub apart : (i j d : ℕ) → awaited_of (slice_index_or slots i Away) ≡ Some d
      → awaited_of (slice_index_or slots j Away) ≡ Some d → i ≡ j

-- the streams and what is kept for each buffer, from the first on
pub record AreKept (first : ℕ) (streams : List Stream) (slots : List Slot) : Type 0 where
  pub stocked : (k : ℕ) (s : Stream) → slice_get streams k ≡ Some s → IsStocked first slots s
  pub in_turn : follow (first + length slots) first streams ≡ true

-- there is room for the largest configuration, and the numbers fit
pub record HaveRoom (first count streams_room slots_room : ℕ) (profile : Profile) : Type 0 where
  pub streams : 4 ≤ streams_room
  pub slots : 72 ≤ slots_room
  pub numbered : first + count < 2 ^ 32
  pub valid : is_profile profile ≡ true
