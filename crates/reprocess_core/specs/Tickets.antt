use Rattle.std.specs.Prelude.{◌≡◌, ℕ, ◌*◌, ◌/◌, true, List, length}
use Rattle.cam_types.specs.Picture.{picture}
use Rattle.cam_types.specs.declared.item.Settings.{Settings}
use Rattle.cam_types.specs.declared.number.FrameNo.{FrameNo}
use Rattle.cam_types.specs.declared.stream.StreamSpec.{StreamSpec}
use Rattle.reprocess_model.specs.Plan.{is_yuv}

-- An input at the device: which request's, and of which stream and settings its picture is.
pub record TicketView : Type 0 where
  pub frame : FrameNo
  pub spec : StreamSpec
  pub settings : Settings

-- the bytes are the request's picture, on a YUV stream
pub record IsDrawn (spec : StreamSpec) (settings : Settings) (n : ℕ) (bytes : List ℕ) : Type 0 where
  pub yuv : is_yuv spec ≡ true
  pub shown : bytes ≡ picture spec settings n
  pub long : length bytes ≡ spec.width * spec.height * 3 / 2
