use Rattle.std.specs.Prelude.{ℕ, ◌+◌, ◌*◌, ◌/◌, List, ◌++◌, take, drop, slice_index}
use Rattle.cam_types.specs.Picture.{plane}
use Rattle.cam_types.specs.declared.stream.StreamSpec.{StreamSpec}

-- How a picture is made smaller: our own choice, position by position. All divisions are of whole numbers and round
-- down.

-- a plane of w columns and h rows, made into one of v columns and u rows: place (x, y) has the byte at the place that
-- lies as far from the first column and row, in the measure of the sizes
unfoldable pub reduced_plane : List ℕ → ℕ → ℕ → ℕ → ℕ → List ℕ
reduced_plane bytes w h v u = plane (λ x y. slice_index bytes ((y * h / u) * w + x * w / v)) v u

-- the three planes of a picture of w columns and h rows: Y, and Cb and Cr of half the width and height
abbrev pub luma_plane : ℕ → ℕ → List ℕ → List ℕ
luma_plane w h bytes = take (w * h) bytes

abbrev pub blue_plane : ℕ → ℕ → List ℕ → List ℕ
blue_plane w h bytes = take (w / 2 * (h / 2)) (drop (w * h) bytes)

abbrev pub red_plane : ℕ → ℕ → List ℕ → List ℕ
red_plane w h bytes = drop (w / 2 * (h / 2)) (drop (w * h) bytes)

-- the bytes of a YUV picture of w columns and h rows, made into one of v columns and u rows, plane by plane
unfoldable pub reduced_to : ℕ → ℕ → ℕ → ℕ → List ℕ → List ℕ
reduced_to w h v u bytes =
    reduced_plane (luma_plane w h bytes) w h v u
    ++ (reduced_plane (blue_plane w h bytes) (w / 2) (h / 2) (v / 2) (u / 2)
    ++ reduced_plane (red_plane w h bytes) (w / 2) (h / 2) (v / 2) (u / 2))

-- the picture of one stream, made into one of another
abbrev pub reduced : StreamSpec → StreamSpec → List ℕ → List ℕ
reduced from to bytes = reduced_to from.width from.height to.width to.height bytes
