-- The mean of a solid scene or of bars grows with the exposure, and is the same in each frame.
use Rattle.std.proofs.Common.{◌≡◌, ℕ, zero, suc, ◌+◌, ◌*◌, ◌/◌, ◌%◌, ◌≤◌, List, [], ◌∷◌, ◌++◌, map, length, take, get_or, min, refl, subst, inl, inr, arith}
use Rattle.std.specs.List.{range_with_len}
use Rattle.std.specs.Prelude.{sum}
use Rattle.std.proofs.Math.Nat.{mul-le-mul_left, mul-le-mul_right, le_antisymm}
use Rattle.std.proofs.Math.Seq.{take-append_seam}
use Rattle.std.proofs.lemmas.Bool.{cases_eq}
use Rattle.std.proofs.lemmas.List.Sums.{sum_by-cons}
use Rattle.cam_types.specs.declared.item.Settings.{Settings}
use Rattle.cam_types.specs.Picture.{Channel, plane, scene, sensor_value, channel_at, readout, yuv_picture, cell_at, scaled, luma, of_cell, chroma_blue, chroma_red}
use Rattle.cam_types.proofs.PictureLemmas.{length-plane}
use Rattle.auto_call.specs.Brightness.{luma_plane, mean}

-- ---- planes of values of which one is never above the other

map-at-le : (f g : ℕ → ℕ) (xs : List ℕ) (k : ℕ) → ((i : ℕ) → f i ≤ g i) → get_or (map f xs) k 0 ≤ get_or (map g xs) k 0
map-at-le f g [] k h = omega arith
map-at-le f g (x ∷ xs) zero h = h x
map-at-le f g (x ∷ xs) (suc k) h = map-at-le f g xs k h

map-sum-le : (f g : ℕ → ℕ) (xs : List ℕ) → ((i : ℕ) → f i ≤ g i) → sum (map f xs) ≤ sum (map g xs)
map-sum-le f g [] h = omega arith
map-sum-le f g (x ∷ xs) h =
    let here = h x in
    let ih = map-sum-le f g xs h in
    let one = sum_by-cons (λ (n : ℕ). n) (f x) (map f xs) in
    let other = sum_by-cons (λ (n : ℕ). n) (g x) (map g xs) in
    omega arith

plane-at-le : (f g : ℕ → ℕ → ℕ) (width height k : ℕ) → ((x y : ℕ) → f x y ≤ g x y) → get_or (plane f width height) k 0 ≤ get_or (plane g width height) k 0
unfolding plane
plane-at-le f g width height k h = map-at-le (λ i. f (i % width) (i / width)) (λ i. g (i % width) (i / width)) (range_with_len 0 (width * height)) k (λ i. h (i % width) (i / width))

plane-sum-le : (f g : ℕ → ℕ → ℕ) (width height : ℕ) → ((x y : ℕ) → f x y ≤ g x y) → sum (plane f width height) ≤ sum (plane g width height)
unfolding plane
plane-sum-le f g width height h = map-sum-le (λ i. f (i % width) (i / width)) (λ i. g (i % width) (i / width)) (range_with_len 0 (width * height)) (λ i. h (i % width) (i / width))

-- ---- the sensor

light-le : (c d e i : ℕ) → d ≤ e → 64 + min 959 (((c * (d / 100000)) * i) / 2500) ≤ 64 + min 959 (((c * (e / 100000)) * i) / 2500)
light-le c d e i h =
    let steps : d / 100000 ≤ e / 100000 = omega arith in
    let lit : c * (d / 100000) ≤ c * (e / 100000) = mul-le-mul_left c steps in
    let gained : (c * (d / 100000)) * i ≤ (c * (e / 100000)) * i = mul-le-mul_right i lit in
    sums-le _ _ gained
  where
    sums-le : (a b : ℕ) → a ≤ b → 64 + min 959 (a / 2500) ≤ 64 + min 959 (b / 2500)
    sums-le a b h = omega arith

-- neither a solid scene nor bars move
scene-same : (s : Settings) (n m x y : ℕ) (c : Channel) → s.pattern ≤ 1 → scene s n c x y ≡ scene s m c x y
scene-same s n m x y c h = elim (cases_eq s.pattern 0) [
  | inl solid ↦ rw solid refl
  | inr other ↦ (let bars : s.pattern ≡ 1 = omega arith in rw bars refl)
]

sensor-le : (s : Settings) (d e n m x y : ℕ) → s.pattern ≤ 1 → d ≤ e → sensor_value (record s { exposure = d }) n x y ≤ sensor_value (record s { exposure = e }) m x y
sensor-le s d e n m x y still h =
    let same = scene-same s n m x y (channel_at x y) still in
    subst (λ (c : ℕ). sensor_value (record s { exposure = d }) n x y ≤ 64 + min 959 (((c * (e / 100000)) * s.iso) / 2500)) same (light-le (scene s n (channel_at x y) x y) d e s.iso h)

readout-at-le : (s : Settings) (d e n m k : ℕ) → s.pattern ≤ 1 → d ≤ e → get_or (readout (record s { exposure = d }) n) k 0 ≤ get_or (readout (record s { exposure = e }) m) k 0
unfolding readout
readout-at-le s d e n m k still h = plane-at-le (sensor_value (record s { exposure = d }) n) (sensor_value (record s { exposure = e }) m) 160 120 k (λ x y. sensor-le s d e n m x y still h)

-- ---- the picture

scaled-le : (v w : ℕ) → v ≤ w → scaled v ≤ scaled w
scaled-le v w h = omega arith

luma-le : (r g b r' g' b' : ℕ) → r ≤ r' → g ≤ g' → b ≤ b' → luma r g b ≤ luma r' g' b'
luma-le r g b r' g' b' hr hg hb = omega arith

half-le : (a b c d : ℕ) → a ≤ c → b ≤ d → (a + b) / 2 ≤ (c + d) / 2
half-le a b c d h k = omega arith

cell-le : (values more : List ℕ) (width height column row : ℕ) → ((k : ℕ) → get_or values k 0 ≤ get_or more k 0) → of_cell luma values width height column row ≤ of_cell luma more width height column row
cell-le values more width height column row h =
    let x = cell_at column width 160 in
    let y = cell_at row height 120 in
    luma-le _ _ _ _ _ _
    (scaled-le _ _ (h (y * 160 + x)))
    (scaled-le _ _ (half-le _ _ _ _ (h (y * 160 + (x + 1))) (h ((y + 1) * 160 + x))))
    (scaled-le _ _ (h ((y + 1) * 160 + (x + 1))))

plane-first : (values : List ℕ) → take 1200 (yuv_picture 40 30 values) ≡ plane (of_cell luma values 40 30) 40 30
unfolding yuv_picture
plane-first values =
    let front = plane (of_cell luma values 40 30) 40 30 in
    let behind = plane (λ i j. of_cell chroma_blue values 40 30 (2 * i) (2 * j)) 20 15 ++ plane (λ i j. of_cell chroma_red values 40 30 (2 * i) (2 * j)) 20 15 in
    let len : length front ≡ 1200 = length-plane (of_cell luma values 40 30) 40 30 in
    subst (λ (k : ℕ). take k (front ++ behind) ≡ front) len (take-append_seam front behind)

luma-plane-is : (s : Settings) (n : ℕ) → luma_plane s n ≡ plane (of_cell luma (readout s n) 40 30) 40 30
unfolding luma_plane
luma-plane-is s n = plane-first (readout s n)

-- ---- the mean

pub mean-le : (s : Settings) (d e n m : ℕ) → s.pattern ≤ 1 → d ≤ e → mean (record s { exposure = d }) n ≤ mean (record s { exposure = e }) m
unfolding mean
mean-le s d e n m still h =
    let values = readout (record s { exposure = d }) n in
    let more = readout (record s { exposure = e }) m in
    let less : sum (plane (of_cell luma values 40 30) 40 30) ≤ sum (plane (of_cell luma more 40 30) 40 30) =
    plane-sum-le (of_cell luma values 40 30) (of_cell luma more 40 30) 40 30 (λ x y. cell-le values more 40 30 x y (λ k. readout-at-le s d e n m k still h)) in
    rw (luma-plane-is (record s { exposure = d }) n, luma-plane-is (record s { exposure = e }) m) (over-le _ _ less)
  where
    over-le : (a b : ℕ) → a ≤ b → a / 1200 ≤ b / 1200
    over-le a b h = omega arith

pub mean-same : (s : Settings) (n m : ℕ) → s.pattern ≤ 1 → mean s n ≡ mean s m
mean-same s n m still = le_antisymm (mean-le s s.exposure s.exposure n m still (omega arith)) (mean-le s s.exposure s.exposure m n still (omega arith))
