use Rattle.std.specs.Prelude.{◌≡◌, ℕ, ◌+◌, ◌*◌, ◌/◌, ◌%◌, ◌<◌, ◌≤◌, List, length, slice_index}
use Rattle.std.specs.List.{All}
use Rattle.cam_types.specs.Picture.{red_of, green_of, blue_of, luma, chroma_blue, chroma_red}
use Rattle.picture_stages.specs.declared.strip.Colours.{Colours}
use Rattle.picture_stages.specs.declared.strip.Filters.{Filters}

-- one of the three of the colour of the cell whose first filter is at column x and row y
unfoldable pub at_cell : (ℕ → ℕ → ℕ → ℕ) → List ℕ → ℕ → ℕ → ℕ
at_cell part values x y = part (red_of values x y) (green_of values x y) (blue_of values x y)

-- each value of a strip lies as far above darkness as one of the sensor's can
abbrev pub HoldsValues : Filters → Type 0
HoldsValues filters =
    All (λ v. v ≤ 959) filters.left × All (λ v. v ≤ 959) filters.right

-- where among six rows of the sensor the k-th of every second cell of four of them begins: 40 of the first row, 40 of
-- the fifth, then those of the rows below these
abbrev pub half_place : ℕ → ℕ
half_place k = k % 80 / 40 * 640 + k / 80 * 160 + k % 40 * 4

-- each part of a strip's colours is at most 255
abbrev pub HoldsColours : Colours → Type 0
HoldsColours colours =
    All (λ v. v ≤ 255) colours.red × All (λ v. v ≤ 255) colours.green × All (λ v. v ≤ 255) colours.blue

-- one of the three of the colour at a place of a strip
abbrev pub at_place : (ℕ → ℕ → ℕ → ℕ) → Colours → ℕ → ℕ
at_place part colours k =
    part (slice_index colours.red k) (slice_index colours.green k) (slice_index colours.blue k)

-- whole rows of the plane Y of a picture of the sensor's size, from the row 2 * pair on: two rows have the same cells
abbrev pub AreWideRows : List ℕ → ℕ → List ℕ → Type 0
AreWideRows values pair rows = (k : ℕ) → k < length rows →
    slice_index rows k ≡ at_cell luma values (k % 160 / 2 * 2) ((k / 320 + pair) * 2)

-- whole rows of one of the planes Cb and Cr, from a row on: cells are so many columns and rows of the sensor apart
abbrev pub AreChromaRows : (ℕ → ℕ → ℕ → ℕ) → List ℕ → ℕ → ℕ → ℕ → List ℕ → Type 0
AreChromaRows part values step width first rows = (k : ℕ) → k < length rows →
    slice_index rows k ≡ at_cell part values (k % width * step) ((k / width + first) * step)

-- so many pairs of rows of the three planes of a picture of the sensor's size, from a pair on
abbrev pub IsBand : List ℕ → ℕ → List ℕ → List ℕ → List ℕ → Type 0
IsBand values first y blue red =
    AreWideRows values first y
    × AreChromaRows chroma_blue values 2 80 first blue
    × AreChromaRows chroma_red values 2 80 first red

-- the planes of a picture of the sensor's size have room for so many pairs of rows
abbrev pub HaveRoomFor : ℕ → List ℕ → List ℕ → List ℕ → Type 0
HaveRoomFor pairs y blue red = (length y ≡ pairs * 320) × (length blue ≡ pairs * 80) × (length red ≡ pairs * 80)

-- a readout of the sensor: 160 columns and 120 rows of values between dark and full
abbrev pub IsReadout : List ℕ → Type 0
IsReadout values = (length values ≡ 19200) × All (λ v. (64 ≤ v) × (v ≤ 1023)) values

-- eight values, each as far above darkness as that of the sensor's at its place
pub record IsLane (place : ℕ → ℕ) (values lane : List ℕ) : Type 0 where
  pub each : (k : ℕ) → k < 8 → slice_index lane k + 64 ≡ slice_index values (place k)
  pub len : length lane ≡ 8
  pub range : All (λ v. v ≤ 959) lane
