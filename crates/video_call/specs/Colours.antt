-- A YUV picture in red, green and blue: the full-range formula of BT.601 (as JFIF has it) in steps of 1 / 256, rounded to
-- the nearest number, and cut to 0 to 255. (docs/FORMATS.md, Pictures and films)
use Rattle.std.specs.Prelude.{ℕ, ◌+◌, ◌-◌, ◌*◌, ◌/◌, ◌%◌, List, [], ◌∷◌, min, slice_index}
use Rattle.std.specs.List.{flat_map, range_with_len}

-- (more - less) / 256 as a byte: `-` of whole numbers ends at 0
abbrev pub as_byte : ℕ → ℕ → ℕ
as_byte more less = min 255 ((more - less) / 256)

-- of a place's brightness y, blue difference u and red difference v
abbrev pub red_of : ℕ → ℕ → ℕ
red_of y v = as_byte (256 * y + 359 * v + 128) (359 * 128)

abbrev pub green_of : ℕ → ℕ → ℕ → ℕ
green_of y u v = as_byte (256 * y + (88 + 183) * 128 + 128) (88 * u + 183 * v)

abbrev pub blue_of : ℕ → ℕ → ℕ
blue_of y u = as_byte (256 * y + 454 * u + 128) (454 * 128)

-- where the differences of place k stand in their planes: two by two places have one of each
abbrev pub cell_of : ℕ → ℕ → ℕ
cell_of width k = (k / width / 2) * (width / 2) + (k % width) / 2

-- the three colours of place k
abbrev pub pixel : ℕ → ℕ → List ℕ → ℕ → List ℕ
pixel width height picture k =
    let y = slice_index picture k in
    let u = slice_index picture (width * height + cell_of width k) in
    let v = slice_index picture (width * height + (width / 2) * (height / 2) + cell_of width k) in
    red_of y v ∷ (green_of y u v ∷ (blue_of y u ∷ []))

-- all places, row by row
unfoldable pub colours : ℕ → ℕ → List ℕ → List ℕ
colours width height picture = flat_map (pixel width height picture) (range_with_len 0 (width * height))
