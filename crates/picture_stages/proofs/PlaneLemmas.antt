-- Planes that are written row by row, and the pictures that they make.
use Rattle.std.proofs.Common.{◌≡◌, ℕ, ◌+◌, ◌-◌, ◌*◌, ◌/◌, ◌%◌, ◌<◌, ◌≤◌, List, ◌++◌, length, take, drop, get_or, slice_index, length-append, refl, ap, sym, ◌∙◌, arith, inl, inr}
use Rattle.std.proofs.lemmas.Grind.{common_steps}
use Rattle.std.proofs.lemmas.Bool.{cases_lt}
use Rattle.std.proofs.lemmas.List.{get_or_append_left, get_or-append-add}
use Rattle.std.proofs.lemmas.List.FromFn.{fill_by_all}
use Rattle.std.proofs.lemmas.Nat.{div-mul-add, mod-mul-add}
use Rattle.std.proofs.Math.Nat.{add-zero, mul_comm}
use Rattle.cam_types.specs.Picture.{plane, yuv_picture, of_cell, cell_at, red_of, green_of, blue_of, luma, chroma_blue, chroma_red}
use Rattle.picture_stages.specs.Cells.{at_cell, at_place, AreWideRows, AreChromaRows}
use Rattle.picture_stages.specs.declared.strip.Colours.{Colours}
use Rattle.cam_types.proofs.WrittenLemmas.{rows-more}
use Rattle.cam_types.proofs.PictureLemmas.{plane-same}

-- one more row of a plane is written
pub plane-more : (value : ℕ → ℕ → ℕ) (width y wide : ℕ) (xs row : List ℕ) → wide ≡ width → y * width + width ≤ length xs → length row ≡ width → ((k : ℕ) → k < y * width → get_or xs k 0 ≡ value (k % width) (k / width)) → ((x : ℕ) → x < width → get_or row x 0 ≡ value x y) → (k : ℕ) → k < (y + 1) * width → get_or (take (y * width) xs ++ (row ++ drop wide (drop (y * width) xs))) k 0 ≡ value (k % width) (k / width)
plane-more value width y wide xs row w fits len before here k below =
    let each : (x : ℕ) → x < width → get_or row x 0 ≡ value ((y * width + x) % width) ((y * width + x) / width) = λ x h.
    rw (mod-mul-add y width x h, div-mul-add y width x h) (here x h) in
    rw w (rows-more (λ k. value (k % width) (k / width)) xs row (y * width) width fits len before each k (grind (arith, common_steps)))

-- rows that follow one another have the values of f if both have them
pub rows-both : (f : ℕ → ℕ) (front back : List ℕ) → ((k : ℕ) → k < length front → get_or front k 0 ≡ f k) → ((k : ℕ) → k < length back → get_or back k 0 ≡ f (length front + k)) → (k : ℕ) → k < length (front ++ back) → get_or (front ++ back) k 0 ≡ f k
rows-both f front back before behind k below =
    elim (cases_lt k (length front)) [
      | inl less ↦ get_or_append_left front back 0 k less ∙ before k less
      | inr more ↦ (let there : length front + (k - length front) ≡ k = omega arith in
          ap (λ i. get_or (front ++ back) i 0) (sym there) ∙ (get_or-append-add front back (k - length front) 0 ∙ (behind (k - length front) (omega (arith, length-append front back)) ∙ ap f there)))
    ]

-- bands of pairs of rows that follow one another
pub wide-both : (values front back : List ℕ) (first n : ℕ) → length front ≡ n * 320 → AreWideRows values first front → AreWideRows values (first + n) back → AreWideRows values first (front ++ back)
wide-both values front back first n len before behind =
    rows-both (λ k. at_cell luma values (k % 160 / 2 * 2) ((k / 320 + first) * 2)) front back before (λ k h.
    let column : k % 160 / 2 * 2 ≡ (length front + k) % 160 / 2 * 2 = omega arith in
    let row : (k / 320 + (first + n)) * 2 ≡ ((length front + k) / 320 + first) * 2 = omega arith in
    behind k h ∙ rw (column, row) refl)

pub chroma-both : (part : ℕ → ℕ → ℕ → ℕ) (values front back : List ℕ) (first n : ℕ) → length front ≡ n * 80 → AreChromaRows part values 2 80 first front → AreChromaRows part values 2 80 (first + n) back → AreChromaRows part values 2 80 first (front ++ back)
chroma-both part values front back first n len before behind =
    rows-both (λ k. at_cell part values (k % 80 * 2) ((k / 80 + first) * 2)) front back before (λ k h.
    let column : k % 80 * 2 ≡ (length front + k) % 80 * 2 = omega arith in
    let row : (k / 80 + (first + n)) * 2 ≡ ((length front + k) / 80 + first) * 2 = omega arith in
    behind k h ∙ rw (column, row) refl)

-- the colour at a place of a strip is that of the cell that was read there
pub place-of-cell : (part : ℕ → ℕ → ℕ → ℕ) (values : List ℕ) (colours : Colours) (k x y i j : ℕ) → x ≡ i → y ≡ j → slice_index colours.red k ≡ red_of values x y → slice_index colours.green k ≡ green_of values x y → slice_index colours.blue k ≡ blue_of values x y → at_place part colours k ≡ at_cell part values i j
unfolding at_cell
place-of-cell part values colours k x y i j column row r g b = rw (← column, ← row, r, g, b) refl

-- a list that has the values of a plane at each place is the plane
pub plane-all : (value : ℕ → ℕ → ℕ) (width height : ℕ) (xs : List ℕ) → length xs ≡ width * height → ((k : ℕ) → k < width * height → get_or xs k 0 ≡ value (k % width) (k / width)) → xs ≡ plane value width height
unfolding plane
plane-all value width height xs len each = fill_by_all (λ i. value (i % width) (i / width)) xs (width * height) 0 len each

-- rows of 320 places are pairs of rows of 160
pub pair-of-rows : (values : List ℕ) (k y : ℕ) → at_cell luma values (k % 320 % 160 / 2 * 2) y ≡ at_cell luma values (k % 160 / 2 * 2) y
pair-of-rows values k y =
    let column : k % 320 % 160 ≡ k % 160 = omega arith in
    rw column refl

-- a cell of the sensor is that of a place of a picture
cell-is : (part : ℕ → ℕ → ℕ → ℕ) (values : List ℕ) (width height x y i j : ℕ) → cell_at x width 160 ≡ i → cell_at y height 120 ≡ j → at_cell part values i j ≡ of_cell part values width height x y
unfolding at_cell
cell-is part values width height x y i j column row = rw (column, row) refl

luma-160 : (values : List ℕ) (x y : ℕ) → at_cell luma values (x / 2 * 2) (y / 2 * 2) ≡ of_cell luma values 160 120 x y
luma-160 values x y = cell-is luma values 160 120 x y (x / 2 * 2) (y / 2 * 2) (omega arith) (omega arith)

-- all rows are written, of cells that are step columns and rows of the sensor apart
pub cells-all : (part : ℕ → ℕ → ℕ → ℕ) (values : List ℕ) (step width height y : ℕ) (xs : List ℕ) → height ≤ y → y ≤ height → length xs ≡ width * height → ((k : ℕ) → k < y * width → get_or xs k 0 ≡ at_cell part values (k % width * step) (k / width * step)) → xs ≡ plane (λ x z. at_cell part values (x * step) (z * step)) width height
cells-all part values step width height y xs low high len each =
    let all : y ≡ height = omega arith in
    let size : width * height ≡ y * width = mul_comm width height ∙ ap (λ n. n * width) (sym all) in
    plane-all (λ x z. at_cell part values (x * step) (z * step)) width height xs len (λ k h. each k (omega (arith, size)))

-- rows from the first one on, so many that they are all, are the plane
wide-all : (values xs : List ℕ) → length xs ≡ 19200 → AreWideRows values 0 xs → xs ≡ plane (λ x y. at_cell luma values (x / 2 * 2) (y / 2 * 2)) 160 120
wide-all values xs len each =
    plane-all (λ x y. at_cell luma values (x / 2 * 2) (y / 2 * 2)) 160 120 xs len (λ k h.
    let row : (k / 320 + 0) * 2 ≡ k / 160 / 2 * 2 = omega arith in
    each k (omega arith) ∙ ap (λ y. at_cell luma values (k % 160 / 2 * 2) y) row)

chroma-all : (part : ℕ → ℕ → ℕ → ℕ) (values : List ℕ) (step width height : ℕ) (xs : List ℕ) → length xs ≡ width * height → AreChromaRows part values step width 0 xs → xs ≡ plane (λ x z. at_cell part values (x * step) (z * step)) width height
chroma-all part values step width height xs len each =
    plane-all (λ x z. at_cell part values (x * step) (z * step)) width height xs len (λ k h.
    each k (omega arith) ∙ ap (λ z. at_cell part values (k % width * step) (z * step)) (add-zero (k / width)))

-- all rows are written, at cells that are step columns and rows of the sensor apart
pairs-all : (values : List ℕ) (step width height : ℕ) (xs : List ℕ) (column row : ℕ → ℕ) → length xs ≡ width * height → ((k : ℕ) → k < width * height → get_or xs k 0 ≡ at_cell luma values (column k) (row k)) → ((k : ℕ) → column k ≡ k % width * step) → ((k : ℕ) → row k ≡ k / width * step) → xs ≡ plane (λ x y. at_cell luma values (x * step) (y * step)) width height
pairs-all values step width height xs column row len each is-column is-row =
    plane-all (λ x y. at_cell luma values (x * step) (y * step)) width height xs len (λ k h. each k h ∙ rw (is-column k, is-row k) refl)

-- rows of 80 places are pairs of rows of 40, whose cells are four columns and rows of the sensor apart
pub quarter-luma-all : (values : List ℕ) (pair : ℕ) (xs : List ℕ) → 15 ≤ pair → length xs ≡ 1200 → ((k : ℕ) → k < pair * 80 → get_or xs k 0 ≡ at_cell luma values (k % 80 % 40 * 4) (k % 80 / 40 * 4 + k / 80 * 8)) → xs ≡ plane (λ x y. at_cell luma values (x * 4) (y * 4)) 40 30
quarter-luma-all values pair xs all len each =
    pairs-all values 4 40 30 xs (λ k. k % 80 % 40 * 4) (λ k. k % 80 / 40 * 4 + k / 80 * 8) len (λ k h. each k (omega arith)) (λ k. omega arith) (λ k. omega arith)

-- rows of 160 places are pairs of rows of 80, whose cells are two columns and rows of the sensor apart
pub half-luma-all : (values : List ℕ) (pair : ℕ) (xs : List ℕ) → 30 ≤ pair → length xs ≡ 4800 → ((k : ℕ) → k < pair * 160 → get_or xs k 0 ≡ at_cell luma values (k % 160 % 80 * 2) (k % 160 / 80 * 2 + k / 160 * 4)) → xs ≡ plane (λ x y. at_cell luma values (x * 2) (y * 2)) 80 60
half-luma-all values pair xs all len each =
    pairs-all values 2 80 60 xs (λ k. k % 160 % 80 * 2) (λ k. k % 160 / 80 * 2 + k / 160 * 4) len (λ k h. each k (omega arith)) (λ k. omega arith) (λ k. omega arith)

-- ---- the pictures of the three sizes

luma-80 : (values : List ℕ) (x y : ℕ) → at_cell luma values (x * 2) (y * 2) ≡ of_cell luma values 80 60 x y
luma-80 values x y = cell-is luma values 80 60 x y (x * 2) (y * 2) (omega arith) (omega arith)

luma-40 : (values : List ℕ) (x y : ℕ) → at_cell luma values (x * 4) (y * 4) ≡ of_cell luma values 40 30 x y
luma-40 values x y = cell-is luma values 40 30 x y (x * 4) (y * 4) (omega arith) (omega arith)

chroma-160 : (part : ℕ → ℕ → ℕ → ℕ) (values : List ℕ) (i j : ℕ) → at_cell part values (i * 2) (j * 2) ≡ of_cell part values 160 120 (2 * i) (2 * j)
chroma-160 part values i j = cell-is part values 160 120 (2 * i) (2 * j) (i * 2) (j * 2) (omega arith) (omega arith)

chroma-80 : (part : ℕ → ℕ → ℕ → ℕ) (values : List ℕ) (i j : ℕ) → at_cell part values (i * 4) (j * 4) ≡ of_cell part values 80 60 (2 * i) (2 * j)
chroma-80 part values i j = cell-is part values 80 60 (2 * i) (2 * j) (i * 4) (j * 4) (omega arith) (omega arith)

chroma-40 : (part : ℕ → ℕ → ℕ → ℕ) (values : List ℕ) (i j : ℕ) → at_cell part values (i * 8) (j * 8) ≡ of_cell part values 40 30 (2 * i) (2 * j)
chroma-40 part values i j = cell-is part values 40 30 (2 * i) (2 * j) (i * 8) (j * 8) (omega arith) (omega arith)

picture-of : (width height : ℕ) (values y b r : List ℕ) → y ≡ plane (of_cell luma values width height) width height → b ≡ plane (λ i j. of_cell chroma_blue values width height (2 * i) (2 * j)) (width / 2) (height / 2) → r ≡ plane (λ i j. of_cell chroma_red values width height (2 * i) (2 * j)) (width / 2) (height / 2) → y ++ (b ++ r) ≡ yuv_picture width height values
unfolding yuv_picture
picture-of width height values y b r luma-is blue-is red-is = rw (luma-is, blue-is, red-is) refl

pub picture-160 : (values y b r : List ℕ) → length y ≡ 19200 → length b ≡ 4800 → length r ≡ 4800 → AreWideRows values 0 y → AreChromaRows chroma_blue values 2 80 0 b → AreChromaRows chroma_red values 2 80 0 r → y ++ (b ++ r) ≡ yuv_picture 160 120 values
picture-160 values y b r luma-len blue-len red-len luma-is blue-is red-is =
    picture-of 160 120 values y b r (wide-all values y luma-len luma-is ∙ plane-same _ _ 160 120 (luma-160 values)) (chroma-all chroma_blue values 2 80 60 b blue-len blue-is ∙ plane-same _ _ 80 60 (chroma-160 chroma_blue values)) (chroma-all chroma_red values 2 80 60 r red-len red-is ∙ plane-same _ _ 80 60 (chroma-160 chroma_red values))

pub picture-80 : (values y b r : List ℕ) → y ≡ plane (λ x z. at_cell luma values (x * 2) (z * 2)) 80 60 → b ≡ plane (λ x z. at_cell chroma_blue values (x * 4) (z * 4)) 40 30 → r ≡ plane (λ x z. at_cell chroma_red values (x * 4) (z * 4)) 40 30 → y ++ (b ++ r) ≡ yuv_picture 80 60 values
picture-80 values y b r luma-is blue-is red-is =
    picture-of 80 60 values y b r (luma-is ∙ plane-same _ _ 80 60 (luma-80 values)) (blue-is ∙ plane-same _ _ 40 30 (chroma-80 chroma_blue values)) (red-is ∙ plane-same _ _ 40 30 (chroma-80 chroma_red values))

pub picture-40 : (values y b r : List ℕ) → y ≡ plane (λ x z. at_cell luma values (x * 4) (z * 4)) 40 30 → b ≡ plane (λ x z. at_cell chroma_blue values (x * 8) (z * 8)) 20 15 → r ≡ plane (λ x z. at_cell chroma_red values (x * 8) (z * 8)) 20 15 → y ++ (b ++ r) ≡ yuv_picture 40 30 values
picture-40 values y b r luma-is blue-is red-is =
    picture-of 40 30 values y b r (luma-is ∙ plane-same _ _ 40 30 (luma-40 values)) (blue-is ∙ plane-same _ _ 20 15 (chroma-40 chroma_blue values)) (red-is ∙ plane-same _ _ 20 15 (chroma-40 chroma_red values))
