use Rattle.std.specs.Prelude.{◌≡◌, ℕ, ◌==◌, Bool, true, List, length, map, is_none}
use Rattle.std.specs.List.{list_all, range_with_len}
use Rattle.cam_types.specs.Picture.{length_in}
use Rattle.cam_types.specs.declared.stream.Format.{Format}
use Rattle.cam_types.specs.declared.stream.StreamSpec.{StreamSpec}
use Rattle.buffer_pool.specs.declared.parked.Parked.{Parked}
use Rattle.buffer_pool.specs.Blocks.{block_length}
use Rattle.buffer_pool.specs.Home.{Buffers}
use Rattle.buffer_pool.specs.Parked.{number}

-- A pool as it is opened (camera3.h, camera3_stream: max_buffers bounds those that are at the device; that a pool has
-- two more is our own choice).

-- the buffer is a whole block of the format
abbrev pub is_whole : Format → Parked → Bool
is_whole format p = p.pixels.block == block_length format

-- it shows as many bytes as a picture of the stream has
abbrev pub shows_picture : StreamSpec → Parked → Bool
shows_picture spec p = length p.pixels.bytes == length_in spec.format spec.width spec.height

abbrev pub has_no_waiter : Parked → Bool
has_no_waiter p = is_none p.waiter

-- the buffers with the numbers from `first` on, as no one has used them yet
pub record AreFresh (spec : StreamSpec) (first count : ℕ) (home : List Parked) : Type 0 where
  pub numbers : map number home ≡ range_with_len first count
  pub unfenced : list_all has_no_waiter home ≡ true
  pub whole : list_all (is_whole spec.format) home ≡ true
  pub shown : list_all (shows_picture spec) home ≡ true

-- a pool that was just opened: all its buffers are at home
pub record IsOpened (spec : StreamSpec) (first count : ℕ) (pool : Buffers) : Type 0 where
  pub spec_is : pool.spec ≡ spec
  pub first_is : pool.first ≡ first
  pub count_is : pool.count ≡ count
  pub fresh : AreFresh spec first count pool.home
