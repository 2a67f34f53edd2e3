use Rattle.std.specs.Prelude.{ℕ, ◌+◌, ◌-◌, ◌*◌, ◌/◌, ◌%◌, ◌==◌, Bool, false, ◌&&◌, nat_lt, min, List, [], ◌∷◌, ◌++◌, map, slice_index, if◌then◌else◌, Option, Some, None}
use Rattle.std.specs.List.{range_with_len, flat_map}
use Rattle.cam_types.specs.declared.item.Settings.{Settings}
use Rattle.cam_types.specs.declared.stream.Format.{Format}
use Rattle.cam_types.specs.declared.stream.Format.TheVariants.{Raw16, Yuv, Other}
use Rattle.cam_types.specs.declared.stream.StreamSpec.{StreamSpec}

-- The pictures: our own choice, position by position. All divisions are of whole numbers and round down.

-- a value for each place of a plane of so many columns and rows, row by row
unfoldable pub plane : (ℕ → ℕ → ℕ) → ℕ → ℕ → List ℕ
plane value width height = map (λ i. value (i % width) (i / width)) (range_with_len 0 (width * height))

-- ---- the scene

pub data Channel : Type 0 where
  Red : Channel
  Green : Channel
  Blue : Channel

-- the eight bars are white, yellow, cyan, green, magenta, red, blue and black: which channels each has
abbrev pub is_lit : Channel → ℕ → Bool
is_lit Red bar = nat_lt (bar % 4) 2
is_lit Green bar = nat_lt bar 4
is_lit Blue bar = bar % 2 == 0

-- the scene at a place in frame n, 0 to 255: solid, bars of 20 columns each, or a ramp that moves with the frames
abbrev pub scene : Settings → ℕ → Channel → ℕ → ℕ → ℕ
scene s n channel x y =
    if s.pattern == 0 then s.level
    else (if s.pattern == 1 then (if is_lit channel (x / 20) then s.level else 0) else (x + y + n) % 256)

-- ---- the sensor

-- the sensor's filters are in RGGB order: red where both places are even, blue where both are odd, else green
abbrev pub channel_at : ℕ → ℕ → Channel
channel_at x y = if (x % 2 == 0) && (y % 2 == 0) then Red else (if (x % 2 == 1) && (y % 2 == 1) then Blue else Green)

-- 64 for darkness, up to 1023: the scene times the exposure in steps of 100,000 ns times the sensitivity, over 2500
abbrev pub sensor_value : Settings → ℕ → ℕ → ℕ → ℕ
sensor_value s n x y = 64 + min 959 (((scene s n (channel_at x y) x y * (s.exposure / 100000)) * s.iso) / 2500)

-- the readout of frame n: 160 columns and 120 rows
unfoldable pub readout : Settings → ℕ → List ℕ
readout s n = plane (sensor_value s n) 160 120

-- ---- RAW16

-- two bytes, the low one first
abbrev pub two_bytes : ℕ → List ℕ
two_bytes value = (value % 256) ∷ ((value / 256) ∷ [])

-- each value of the readout as two bytes
unfoldable pub raw_picture : List ℕ → List ℕ
raw_picture values = flat_map two_bytes values

-- ---- YUV

-- the readout's value at column x and row y
abbrev pub value_at : List ℕ → ℕ → ℕ → ℕ
value_at values x y = slice_index values (y * 160 + x)

-- the sensor column or row that stands for place p of so many, lowered to an even one: a cell of four filters
abbrev pub cell_at : ℕ → ℕ → ℕ → ℕ
cell_at p size sensor = ((p * sensor) / size / 2) * 2

-- a sensor value as 0 to 255
abbrev pub scaled : ℕ → ℕ
scaled value = ((value - 64) * 255) / 959

-- the colour of the cell whose first filter is at column x and row y
abbrev pub red_of : List ℕ → ℕ → ℕ → ℕ
red_of values x y = scaled (value_at values x y)

abbrev pub green_of : List ℕ → ℕ → ℕ → ℕ
green_of values x y = scaled ((value_at values (x + 1) y + value_at values x (y + 1)) / 2)

abbrev pub blue_of : List ℕ → ℕ → ℕ → ℕ
blue_of values x y = scaled (value_at values (x + 1) (y + 1))

-- the brightness and the two colour differences of a colour, 16 to 240
abbrev pub luma : ℕ → ℕ → ℕ → ℕ
luma r g b = (66 * r + 129 * g + 25 * b + 128) / 256 + 16

abbrev pub chroma_blue : ℕ → ℕ → ℕ → ℕ
chroma_blue r g b = (32896 - 38 * r - 74 * g + 112 * b) / 256

abbrev pub chroma_red : ℕ → ℕ → ℕ → ℕ
chroma_red r g b = (32896 + 112 * r - 94 * g - 18 * b) / 256

-- one of the three of the colour at the picture's column and row
abbrev pub of_cell : (ℕ → ℕ → ℕ → ℕ) → List ℕ → ℕ → ℕ → ℕ → ℕ → ℕ
of_cell part values width height column row =
    let x = cell_at column width 160 in
    let y = cell_at row height 120 in
    part (red_of values x y) (green_of values x y) (blue_of values x y)

-- a plane Y, then planes Cb and Cr of half the width and height, whose place (i, j) has the colour of (2i, 2j)
unfoldable pub yuv_picture : ℕ → ℕ → List ℕ → List ℕ
yuv_picture width height values =
    plane (of_cell luma values width height) width height
    ++ (plane (λ i j. of_cell chroma_blue values width height (2 * i) (2 * j)) (width / 2) (height / 2)
    ++ plane (λ i j. of_cell chroma_red values width height (2 * i) (2 * j)) (width / 2) (height / 2))

-- ---- a stream's picture

-- the sizes that are offered: RAW16 the sensor's, YUV the sensor's, half and a quarter of it
abbrev pub is_yuv_size : ℕ → ℕ → Bool
is_yuv_size width height =
    if width == 160 then height == 120 else (if width == 80 then height == 60 else ((width == 40) && (height == 30)))

abbrev pub is_size_of : Format → ℕ → ℕ → Bool
is_size_of Raw16 width height = (width == 160) && (height == 120)
is_size_of Yuv width height = is_yuv_size width height
is_size_of (Other _) width height = false

abbrev pub is_offered : StreamSpec → Bool
is_offered spec = is_size_of spec.format spec.width spec.height

-- the picture that a readout gives in a format
abbrev pub picture_of : Format → ℕ → ℕ → List ℕ → List ℕ
picture_of Raw16 width height values = raw_picture values
picture_of Yuv width height values = yuv_picture width height values
picture_of (Other _) width height values = []

-- the bytes of frame n, captured with the settings, on a stream
unfoldable pub picture : StreamSpec → Settings → ℕ → List ℕ
picture spec s n = picture_of spec.format spec.width spec.height (readout s n)

-- how many bytes a picture has: two a pixel, or three for two pixels
abbrev pub length_in : Format → ℕ → ℕ → ℕ
length_in Raw16 width height = width * height * 2
length_in Yuv width height = (width * height * 3) / 2
length_in (Other _) width height = 0

abbrev pub frame_length : StreamSpec → Option ℕ
frame_length spec = if is_offered spec then Some (length_in spec.format spec.width spec.height) else None
