-- Planes that are made smaller row by row.
use Rattle.std.proofs.Common.{◌≡◌, ℕ, ◌+◌, ◌*◌, ◌/◌, ◌%◌, ◌<◌, ◌≤◌, List, ◌++◌, length, take, drop, get_or, refl, ap, sym, ◌∙◌, arith}
use Rattle.std.proofs.lemmas.Grind.{common_steps}
use Rattle.std.proofs.lemmas.Nat.{row_fits_turned}
use Rattle.std.proofs.Math.Nat.{mul_comm, mul-div_cancel_left}
use Rattle.cam_types.proofs.PictureLemmas.{plane-same}
use Rattle.reprocess_model.specs.Reduce.{reduced_plane}
use Rattle.picture_stages.proofs.PlaneLemmas.{plane-all, plane-more}

-- the byte of a plane that is smaller by a whole factor
abbrev pub apart : ℕ → ℕ → List ℕ → ℕ → ℕ → ℕ
apart step wide from x y = get_or from (y * step * wide + x * step) 0

-- a row of the larger plane lies within it
pub row-within : (y step width height n : ℕ) → 1 ≤ step → y < height → n ≡ width * step * (height * step) → y * step * (width * step) + width * step ≤ n
row-within y step width height n some less is =
    let below : y * step + step ≤ step * height = row_fits_turned y step step height less (omega arith) in
    let less' : y * step < height * step = omega arith in
    let fits : y * step * (width * step) + width * step ≤ width * step * (height * step) = row_fits_turned (y * step) (width * step) (width * step) (height * step) less' (omega arith) in
    omega arith

-- a byte of a part
part-at : (xs : List ℕ) (start wide j : ℕ) → j < wide → get_or (take wide (drop start xs)) j 0 ≡ get_or xs (start + j) 0
part-at xs start wide j less = grind (arith, common_steps)

-- one more row is written
pub row-more : (step width height y wide wide' : ℕ) (from xs row : List ℕ) → 1 ≤ step → y < height → wide ≡ width → wide' ≡ width * step → length xs ≡ width * height → length row ≡ length (take wide (drop (y * width) xs)) → ((k : ℕ) → k < y * width → get_or xs k 0 ≡ apart step (width * step) from (k % width) (k / width)) → ((k : ℕ) → k < length row → get_or row k 0 ≡ get_or (take wide' (drop (y * step * (width * step)) from)) (k * step) 0) → (k : ℕ) → k < (y + 1) * width → get_or (take (y * width) xs ++ (row ++ drop wide (drop (y * width) xs))) k 0 ≡ apart step (width * step) from (k % width) (k / width)
row-more step width height y wide wide' from xs row some low w w' size same before here =
    let fits : y * width + width ≤ width * height = row_fits_turned y width width height low (omega arith) in
    let room : y * width + width ≤ length xs = omega arith in
    let len : length row ≡ width = same ∙ grind (arith, common_steps) in
    plane-more (apart step (width * step) from) width y wide xs row w room len before
    (λ x h.
    let column : x * step + step ≤ step * width = row_fits_turned x step step width h (omega arith) in
    let within : x * step < wide' = omega arith in
    here x (omega arith) ∙ part-at from (y * step * (width * step)) wide' (x * step) within)

-- the place that a byte is taken from
from-place : (step size p : ℕ) → 1 ≤ size → p * (size * step) / size ≡ p * step
from-place step size p some =
    let turned : p * (size * step) ≡ size * (p * step) = omega arith in
    let pos : 0 < size = omega arith in
    rw turned (mul-div_cancel_left (p * step) pos)

-- all rows are written
pub rows-all : (step width height y : ℕ) (from xs : List ℕ) → 1 ≤ width → 1 ≤ height → height ≤ y → y ≤ height → length xs ≡ width * height → ((k : ℕ) → k < y * width → get_or xs k 0 ≡ apart step (width * step) from (k % width) (k / width)) → xs ≡ reduced_plane from (width * step) (height * step) width height
unfolding reduced_plane
rows-all step width height y from xs columns rows low high len each =
    let all : y ≡ height = omega arith in
    let size : width * height ≡ y * width = mul_comm width height ∙ ap (λ n. n * width) (sym all) in
    plane-all (apart step (width * step) from) width height xs len (λ k h. each k (omega (arith, size)))
    ∙ plane-same _ _ width height
    (λ x z. rw (from-place step height z rows, from-place step width x columns) refl)
