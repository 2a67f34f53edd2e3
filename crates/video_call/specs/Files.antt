-- Pictures and films as files: PGM and PPM of netpbm, and YUV4MPEG2 of mjpegtools. (docs/FORMATS.md, Pictures and films)
use Rattle.std.specs.Prelude.{ℕ, List, [], ◌∷◌, ◌++◌, codes, decimal}
use Rattle.std.specs.List.{flat_map}
use Rattle.cam_types.specs.declared.stream.Format.{Format}
use Rattle.cam_types.specs.declared.stream.Format.TheVariants.{Raw16, Yuv, Other}
use Rattle.cam_types.specs.declared.stream.StreamSpec.{StreamSpec}
use Rattle.video_call.specs.Colours.{colours}
use Rattle.video_call.specs.Samples.{exchanged}

-- ---- heads

-- `WIDTH HEIGHT`, and the greatest value, each line ended
abbrev pub size_lines : ℕ → ℕ → List ℕ → List ℕ
size_lines width height greatest = decimal width ++ (32 ∷ (decimal height ++ (10 ∷ (greatest ++ 10 ∷ []))))

abbrev pub pgm_head : ℕ → ℕ → List ℕ
pgm_head width height = codes "P5\n" ++ size_lines width height (codes "1023")

abbrev pub ppm_head : ℕ → ℕ → List ℕ
ppm_head width height = codes "P6\n" ++ size_lines width height (codes "255")

-- 30 frames a second, whole frames, square pixels, and differences that stand in the middle of their places
abbrev pub y4m_head : ℕ → ℕ → List ℕ
y4m_head width height =
    codes "YUV4MPEG2 W" ++ (decimal width ++ (codes " H" ++ (decimal height ++ codes " F30:1 Ip A1:1 C420jpeg\n")))

-- ---- one picture

-- a picture of a stream as a file of its own: RAW16 as PGM, YUV as PPM
abbrev pub file_in : Format → ℕ → ℕ → List ℕ → List ℕ
file_in Raw16 width height picture = pgm_head width height ++ exchanged picture
file_in Yuv width height picture = ppm_head width height ++ colours width height picture
file_in (Other _) width height picture = []

abbrev pub picture_file : StreamSpec → List ℕ → List ℕ
picture_file spec picture = file_in spec.format spec.width spec.height picture

-- ---- a film

-- what stands before all pictures, and before each
abbrev pub film_head_in : Format → ℕ → ℕ → List ℕ
film_head_in Yuv width height = y4m_head width height
film_head_in _ width height = []

abbrev pub frame_head_in : Format → ℕ → ℕ → List ℕ
frame_head_in Raw16 width height = pgm_head width height
frame_head_in Yuv width height = codes "FRAME\n"
frame_head_in (Other _) width height = []

abbrev pub film_head : StreamSpec → List ℕ
film_head spec = film_head_in spec.format spec.width spec.height

abbrev pub frame_head : StreamSpec → List ℕ
frame_head spec = frame_head_in spec.format spec.width spec.height

-- the bytes of a picture: RAW16 as samples of PGM, YUV as its planes are
abbrev pub body_in : Format → List ℕ → List ℕ
body_in Raw16 picture = exchanged picture
body_in _ picture = picture

-- a picture within a film
abbrev pub film_frame : StreamSpec → List ℕ → List ℕ
film_frame spec picture = frame_head spec ++ body_in spec.format picture

-- pictures of one format and size as a film: RAW16 as PGM pictures one behind the other, YUV as YUV4MPEG2
abbrev pub film_file : StreamSpec → List (List ℕ) → List ℕ
film_file spec pictures = film_head spec ++ flat_map (film_frame spec) pictures
