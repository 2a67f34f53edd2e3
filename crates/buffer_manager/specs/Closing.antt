use Rattle.std.specs.Prelude.{◌≡◌, ℕ, ◌+◌, Bool, true, List, Some, slice_get}
use Rattle.std.specs.List.{list_all}
use Rattle.cam_types.specs.Picture.{is_offered}
use Rattle.cam_types.specs.Refusals.{is_raw, is_yuv}
use Rattle.buffer_pool.specs.Blocks.{Stock}
use Rattle.buffer_pool.specs.Home.{AllHome}
use Rattle.buffer_pool.specs.Opened.{is_whole}
use Rattle.trace_model.specs.Place.{Pool, is_at}
use Rattle.buffer_manager.specs.declared.slot.Slot.{Slot}
use Rattle.buffer_manager.specs.declared.stream.Stream.{Stream}
use Rattle.buffer_manager.specs.Kept.{count_for}
use Rattle.buffer_manager.specs.Slots.{place_of}
use Rattle.buffer_manager.specs.Streams.{waits_for_made}

-- Pools that are closed (our own choice).

-- all the stream's buffers are at home, whole and with fences of so many that were made
pub record IsClosable (made : ℕ) (s : Stream) : Type 0 where
  pub spec : s.pool.spec ≡ s.spec
  pub count : s.pool.count ≡ s.made.count
  pub offered : is_offered s.spec ≡ true
  pub waiters : waits_for_made made s ≡ true
  pub home : AllHome s.pool
  pub whole : list_all (is_whole s.spec.format) s.pool.home ≡ true

abbrev pub AreClosable : ℕ → List Stream → Type 0
AreClosable made streams = (k : ℕ) (s : Stream) → slice_get streams k ≡ Some s → IsClosable made s

-- the streams' blocks are those that are lent
pub record AreCounted (streams : List Stream) (blocks : Stock) : Type 0 where
  pub raw : blocks.raw.lent ≡ count_for is_raw streams
  pub yuv : blocks.yuv.lent ≡ count_for is_yuv streams

-- as many blocks of each format as before
pub record SameTotal (old new : Stock) : Type 0 where
  pub raw : new.raw.free + new.raw.lent ≡ old.raw.free + old.raw.lent
  pub yuv : new.yuv.free + new.yuv.lent ≡ old.yuv.free + old.yuv.lent

abbrev pub homes_only : List Slot → Bool
homes_only slots = list_all (λ v. is_at (place_of v) Pool) slots
