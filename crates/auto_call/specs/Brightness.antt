use Rattle.std.specs.Prelude.{ℕ, ◌*◌, ◌/◌, List, take, sum, unwrap_or, nat_le}
use Rattle.std.specs.List.{find, range_with_len}
use Rattle.cam_types.specs.Picture.{readout, yuv_picture}
use Rattle.cam_types.specs.declared.item.Settings.{Settings}

-- How bright a frame is, and the least exposure at which it is bright enough. (our own choice)

-- the plane Y of the frame's YUV picture of 40 x 30 pixels: its first 1,200 bytes
unfoldable pub luma_plane : Settings → ℕ → List ℕ
luma_plane s n = take 1200 (yuv_picture 40 30 (readout s n))

-- the mean of that plane, rounded down
unfoldable pub mean : Settings → ℕ → ℕ
mean s n = sum (luma_plane s n) / 1200

-- Exposure is counted in steps of 100,000 ns, from 1 to 1,000.

-- the settings with the exposure of a step
abbrev pub at_step : Settings → ℕ → Settings
at_step s step = record s { exposure = step * 100000 }

-- the least of the steps at which the mean is at least the target, or 1,001 where there is none
unfoldable pub least : Settings → ℕ → ℕ
least s target =
    unwrap_or (find (λ step. nat_le target (mean (at_step s step) 0)) (range_with_len 1 1000)) 1001
