-- How many bytes the pictures have, and what they depend on.
use Rattle.std.proofs.Common.{◌≡◌, ℕ, ◌+◌, ◌*◌, ◌/◌, List, [], ◌∷◌, length, refl, ap, ◌∙◌, arith, length-append}
use Rattle.std.proofs.Common.{◌%◌, map}
use Rattle.std.specs.List.{flat_map, range_with_len}
use Rattle.std.proofs.lemmas.List.FromFn.{length-map-range_with_len}
use Rattle.cam_types.specs.declared.item.Settings.{Settings}
use Rattle.cam_types.specs.declared.stream.StreamSpec.{StreamSpec}
use Rattle.cam_types.specs.declared.stream.Format.TheVariants.{Raw16, Yuv}
use Rattle.cam_types.specs.Picture.{picture, picture_of, plane, readout, raw_picture, yuv_picture, two_bytes, sensor_value}

pub length-plane : (value : ℕ → ℕ → ℕ) (width height : ℕ) → length (plane value width height) ≡ width * height
unfolding plane
length-plane value width height = length-map-range_with_len _ 0 (width * height)

pub length-readout : (s : Settings) (n : ℕ) → length (readout s n) ≡ 19200
unfolding readout
length-readout s n = length-plane (sensor_value s n) 160 120

length-two_bytes : (values : List ℕ) → length (flat_map two_bytes values) ≡ length values * 2
length-two_bytes [] = refl
length-two_bytes (v ∷ values) = let ih = length-two_bytes values in omega arith

pub length-raw_picture : (values : List ℕ) → length (raw_picture values) ≡ length values * 2
unfolding raw_picture
length-raw_picture values = length-two_bytes values

pub length-yuv_picture : (width height : ℕ) (values : List ℕ) → length (yuv_picture width height values) ≡ width * height + ((width / 2) * (height / 2) + (width / 2) * (height / 2))
unfolding yuv_picture
length-yuv_picture width height values = grind (arith, length-append, length-plane)

-- the length of a picture by its stream
pub length-picture-Raw16 : (spec : StreamSpec) (s : Settings) (n : ℕ) → spec.format ≡ Raw16 → length (picture spec s n) ≡ 38400
unfolding picture
length-picture-Raw16 spec s n is = rw is (length-raw_picture (readout s n) ∙ ap (λ k. k * 2) (length-readout s n))

pub length-picture-Yuv : (spec : StreamSpec) (s : Settings) (n width height : ℕ) → spec.format ≡ Yuv → spec.width ≡ width → spec.height ≡ height → length (picture spec s n) ≡ width * height + ((width / 2) * (height / 2) + (width / 2) * (height / 2))
unfolding picture
length-picture-Yuv spec s n width height is w h = rw (is, w, h) (length-yuv_picture width height (readout s n))

-- ---- what they depend on

map-same : {A B : Type 0} (f g : A → B) (xs : List A) → ((x : A) → f x ≡ g x) → map f xs ≡ map g xs
map-same f g [] h = refl
map-same f g (x ∷ xs) h = rw (h x, map-same f g xs h) refl

-- planes of equal values are equal
pub plane-same : (f g : ℕ → ℕ → ℕ) (width height : ℕ) → ((x y : ℕ) → f x y ≡ g x y) → plane f width height ≡ plane g width height
unfolding plane
plane-same f g width height h = map-same (λ i. f (i % width) (i / width)) (λ i. g (i % width) (i / width)) (range_with_len 0 (width * height)) (λ i. h (i % width) (i / width))

pub picture-of-readout : (spec : StreamSpec) (s : Settings) (n : ℕ) → picture spec s n ≡ picture_of spec.format spec.width spec.height (readout s n)
unfolding picture
picture-of-readout spec s n = refl
