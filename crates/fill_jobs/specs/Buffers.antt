use Rattle.std.specs.Prelude.{◌≡◌, ℕ, List, Option, Some, None, true, length}
use Rattle.cam_types.specs.Metadata.{range_fault}
use Rattle.cam_types.specs.Picture.{is_offered, length_in, picture, picture_of, readout}
use Rattle.cam_types.specs.Shown.{Shown}
use Rattle.cam_types.specs.declared.item.Settings.{Settings}
use Rattle.cam_types.specs.declared.job.FillTarget.{FillTarget}
use Rattle.cam_types.specs.declared.job.JobView.{JobView}
use Rattle.cam_types.specs.declared.number.BufferId.{BufferId}
use Rattle.cam_types.specs.declared.stream.StreamSpec.{StreamSpec}
use Rattle.buffer_pool.specs.Blocks.{block_length}
use Rattle.sha2.specs.Sha256.{sha256}

-- The buffer of a stream at the device (camera3.h, camera3_stream_buffer). How long pictures and blocks are is our own
-- choice.

-- the buffer of this number, which shows as many bytes as a picture of the stream has, over a whole block
pub record IsBufferFor (spec : StreamSpec) (buffer : BufferId) (pixels : Shown) : Type 0 where
  pub id : pixels.id ≡ buffer
  pub bytes : length pixels.bytes ≡ length_in spec.format spec.width spec.height
  pub block : pixels.block ≡ block_length spec.format

-- the buffer of this number over a whole block, which shows frame n, with the digest of what it shows
pub record IsPictureFor (spec : StreamSpec) (settings : Settings) (n : ℕ) (buffer : BufferId) (pixels : Shown)
    (digest : List ℕ) : Type 0 where
  pub id : pixels.id ≡ buffer
  pub bytes : pixels.bytes ≡ picture spec settings n
  pub block : pixels.block ≡ block_length spec.format
  pub digested : digest ≡ sha256 (picture spec settings n)

-- the buffer when a stream's picture of a readout was drawn into it
abbrev pub drawn : StreamSpec → List ℕ → Shown → Shown
drawn spec values pixels = record pixels { bytes = picture_of spec.format spec.width spec.height values }

-- what a fill of frame n has: settings in range, a stream that is offered, the frame's readout, and the target's buffer
pub record IsFillOf (settings : Settings) (n : ℕ) (target : FillTarget) (values : List ℕ)
    (pixels : Shown) : Type 0 where
  pub range : range_fault settings ≡ None
  pub offered : is_offered target.spec ≡ true
  pub exposed : values ≡ readout settings n
  pub whole : IsBufferFor target.spec target.buffer pixels

-- what it has once it is done
pub record IsFilledOf (settings : Settings) (n : ℕ) (target : FillTarget) (values : List ℕ) (pixels : Shown)
    (digest : List ℕ) : Type 0 where
  pub range : range_fault settings ≡ None
  pub offered : is_offered target.spec ≡ true
  pub exposed : values ≡ readout settings n
  pub drawn : IsPictureFor target.spec settings n target.buffer pixels digest

-- the buffer of a job that is done shows the picture of its frame, settings and stream
abbrev pub IsPictureAt : Settings → ℕ → Option FillTarget → Shown → List ℕ → Type 0
IsPictureAt settings n (Some target) pixels digest = IsPictureFor target.spec settings n target.buffer pixels digest
IsPictureAt settings n None pixels digest = ⊥

abbrev pub IsPictureOf : JobView → Shown → List ℕ → Type 0
IsPictureOf job pixels digest = IsPictureAt job.settings job.frame.0 job.fill pixels digest

-- the stream that a job fills
abbrev pub IsStreamAt : ℕ → Option FillTarget → Type 0
IsStreamAt s (Some target) = s ≡ target.stream.0
IsStreamAt s None = ⊥
