use Rattle.std.specs.Prelude.{◌≡◌, ℕ, ◌*◌, ◌/◌, ◌%◌, ◌<◌, ◌==◌, if◌then◌else◌, List, slice_index}
use Rattle.cam_types.specs.Picture.{sensor_value}
use Rattle.cam_types.specs.declared.item.Settings.{Settings}

-- A readout's rows are windows of one line of 320 values. Of the ramp this is a row of 320 columns, of the other
-- patterns the first two rows.
abbrev pub line_width : Settings → ℕ
line_width s = if s.pattern == 2 then 320 else 160

abbrev pub row_start : Settings → ℕ → ℕ
row_start s y = if s.pattern == 2 then y else (y % 2) * 160

-- the line of a frame
abbrev pub IsLineOf : Settings → ℕ → List ℕ → Type 0
IsLineOf s n line = (k : ℕ) → k < 320 → slice_index line k ≡ sensor_value s n (k % line_width s) (k / line_width s)
