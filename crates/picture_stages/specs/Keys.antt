use Rattle.std.specs.Prelude.{ℕ, ◌%◌, ◌==◌, Bool, true, false, ◌||◌, List, if◌then◌else◌}
use Rattle.cam_types.specs.Picture.{picture_of, readout}
use Rattle.cam_types.specs.declared.item.Settings.{Settings}
use Rattle.cam_types.specs.declared.stream.Format.{Format}
use Rattle.cam_types.specs.declared.stream.Format.TheVariants.{Raw16, Yuv}
use Rattle.cam_types.specs.declared.stream.StreamSpec.{StreamSpec}
use Rattle.picture_stages.specs.declared.key.PictureKey.{PictureKey}

-- What a picture depends on (our own choice, as the pictures are).

-- the ramp alone moves with the frames, and is the same again after 256 of them
abbrev pub turn_of : Settings → ℕ → ℕ
turn_of s n = if (s.pattern == 0) || (s.pattern == 1) then 0 else n % 256

abbrev pub is_raw : Format → Bool
is_raw Raw16 = true
is_raw _ = false

-- the format and size of the stream, the settings, and how far the ramp has moved
abbrev pub key_of : StreamSpec → Settings → ℕ → PictureKey
key_of spec s n = record {
  raw = is_raw spec.format;
  width = spec.width;
  height = spec.height;
  pattern = s.pattern;
  level = s.level;
  exposure = s.exposure;
  iso = s.iso;
  turn = turn_of s n;
}

abbrev pub settings_in : PictureKey → Settings
settings_in key = record { pattern = key.pattern; level = key.level; exposure = key.exposure; iso = key.iso }

-- the picture of a key: that of the frame whose number is how far the ramp has moved
abbrev pub picture_by : PictureKey → List ℕ
picture_by key =
    picture_of (if key.raw then Raw16 else Yuv) key.width key.height (readout (settings_in key) key.turn)
