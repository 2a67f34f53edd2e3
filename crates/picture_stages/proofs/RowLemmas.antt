-- A readout that is written row by row.
use Rattle.std.proofs.Common.{◌≡◌, ℕ, ◌+◌, ◌*◌, ◌/◌, ◌%◌, ◌<◌, ◌≤◌, List, ◌++◌, length, take, drop, get_or, min, None, refl, ap, sym, ◌∙◌, arith, inl, inr}
use Rattle.std.proofs.lemmas.Grind.{common_steps}
use Rattle.std.proofs.lemmas.Bool.{cases_eq}
use Rattle.std.proofs.lemmas.Bool.Decides.{nat_tests}
use Rattle.std.proofs.Math.Nat.{mod-mod, mod-mod_of_dvd, mod-eq_of_lt, div-eq_of_lt, dvd-mul_left}
use Rattle.cam_types.specs.Metadata.{range_fault}
use Rattle.picture_stages.proofs.GainLemmas.{pattern-most}
use Rattle.std.proofs.lemmas.List.{places}
use Rattle.std.proofs.lemmas.List.FromFn.{length-map-range_with_len, get_or-map-range_with_len}
use Rattle.std.proofs.lemmas.Nat.{div-mul-add, mod-mul-add}
use Rattle.cam_types.specs.declared.item.Settings.{Settings}
use Rattle.cam_types.specs.Picture.{plane, readout, sensor_value}
use Rattle.picture_stages.specs.Line.{line_width, row_start, IsLineOf}
use Rattle.cam_types.proofs.WrittenLemmas.{rows-more, plane-all}

pub readout-all : (s : Settings) (n : ℕ) (xs : List ℕ) → length xs ≡ 19200 → ((k : ℕ) → k < 19200 → get_or xs k 0 ≡ sensor_value s n (k % 160) (k / 160)) → xs ≡ readout s n
unfolding readout
readout-all s n xs len each = plane-all (sensor_value s n) 160 120 19200 xs refl len each

-- the ramp moves by a column with each row
ramp-window : (s : Settings) (n x y : ℕ) → s.pattern ≡ 2 → sensor_value s n (y + x) 0 ≡ sensor_value s n x y
ramp-window s n x y h =
    let same : y + x + 0 + n ≡ x + y + n = omega arith in
    rw h (ap (λ z. 64 + min 959 ((((z % 256) * (s.exposure / 100000)) * s.iso) / 2500)) same)

-- the other patterns have two kinds of rows
still-window : (s : Settings) (n x y : ℕ) → s.pattern ≤ 2 → (s.pattern ≡ 2 → ⊥) → sensor_value s n x (y % 2) ≡ sensor_value s n x y
still-window s n x y h other =
    elim (cases_eq s.pattern 0) [
      | inl solid ↦ rw solid refl
      | inr more ↦ (let bars : s.pattern ≡ 1 = omega arith in rw (bars, mod-mod y 2) refl)
    ]

ramp-width : (s : Settings) → s.pattern ≡ 2 → line_width s ≡ 320
ramp-width s h = rw h refl

ramp-start : (s : Settings) (y : ℕ) → s.pattern ≡ 2 → row_start s y ≡ y
ramp-start s y h = rw h refl

still-width : (s : Settings) → (s.pattern ≡ 2 → ⊥) → line_width s ≡ 160
still-width s h = grind (arith, nat_tests)

still-start : (s : Settings) (y : ℕ) → (s.pattern ≡ 2 → ⊥) → row_start s y ≡ (y % 2) * 160
still-start s y h = grind (arith, nat_tests)

-- the line holds a row of the readout from the row's start on
pub window-value : (s : Settings) (n x y : ℕ) → range_fault s ≡ None → x < 160 → y < 120 → sensor_value s n ((row_start s y + x) % line_width s) ((row_start s y + x) / line_width s) ≡ sensor_value s n x y
window-value s n x y range h k =
    elim (cases_eq s.pattern 2) [
      | inl ramp ↦ (let column : (y + x) % 320 ≡ y + x = mod-eq_of_lt (omega arith) in
          let row : (y + x) / 320 ≡ 0 = div-eq_of_lt (omega arith) in
          rw (ramp-width s ramp, ramp-start s y ramp, column, row) (ramp-window s n x y ramp))
      | inr still ↦ rw (still-width s still, still-start s y still, mod-mul-add (y % 2) 160 x h, div-mul-add (y % 2) 160 x h) (still-window s n x y (pattern-most s range) still)
    ]

-- one more row is written, of rows from the row `first` on
pub row-written : (s : Settings) (n first y start width wide : ℕ) (line xs row : List ℕ) → range_fault s ≡ None → y + first < 120 → y * 160 + 160 ≤ length xs → length line ≡ 320 → start ≡ row_start s (y + first) → start ≤ 160 → IsLineOf s n line → width ≡ 160 → wide ≡ 160 → row ≡ take wide (drop start line) → ((k : ℕ) → k < y * 160 → get_or xs k 0 ≡ sensor_value s n (k % 160) (k / 160 + first)) → (k : ℕ) → k < (y + 1) * 160 → get_or (take (y * 160) xs ++ (row ++ drop width (drop (y * 160) xs))) k 0 ≡ sensor_value s n (k % 160) (k / 160 + first)
row-written s n first y start width wide line xs row range low room lined at within each w v is before k below =
    let len : length row ≡ 160 = rw is (grind (arith, common_steps)) in
    let here : (x : ℕ) → x < 160 → get_or row x 0 ≡ sensor_value s n ((y * 160 + x) % 160) ((y * 160 + x) / 160 + first) = λ x h.
    (let read : get_or row x 0 ≡ get_or line (start + x) 0 = rw is (grind (arith, places)) in
    let value = each (start + x) (omega arith) in
    rw (mod-mul-add y 160 x h, div-mul-add y 160 x h) (read ∙ (value ∙ rw at (window-value s n x (y + first) range h low)))) in
    rw w (rows-more (λ k. sensor_value s n (k % 160) (k / 160 + first)) xs row (y * 160) 160 room len before here k (omega arith))

-- bands of whole rows begin with a row
pub whole-rows : (rows start : ℕ) → start % (rows * 160) ≡ 0 → start % 160 ≡ 0
whole-rows rows start h = sym (mod-mod_of_dvd 160 start (dvd-mul_left 160 rows)) ∙ ap (λ m. m % 160) h

-- a place of a band, of rows from the row where the band starts on
pub place-of-band : (s : Settings) (n start offset i : ℕ) → start % 160 ≡ 0 → start + offset ≡ i → sensor_value s n (offset % 160) (offset / 160 + start / 160) ≡ sensor_value s n (i % 160) (i / 160)
place-of-band s n start offset i whole at =
    let column : offset % 160 ≡ i % 160 = omega arith in
    let row : offset / 160 + start / 160 ≡ i / 160 = omega arith in
    rw (column, row) refl

plane-between : (value : ℕ → ℕ → ℕ) (width height low high : ℕ) → ((x y : ℕ) → (low ≤ value x y) × (value x y ≤ high)) → (k d : ℕ) → k < length (plane value width height) → (low ≤ get_or (plane value width height) k d) × (get_or (plane value width height) k d ≤ high)
unfolding plane
plane-between value width height low high each k d h =
    let len = length-map-range_with_len (λ i. value (i % width) (i / width)) 0 (width * height) in
    let is = get_or-map-range_with_len (λ i. value (i % width) (i / width)) 0 (width * height) k k d (omega arith) (omega arith) in
    rw is (each (k % width) (k / width))

value-between : (s : Settings) (n x y : ℕ) → (64 ≤ sensor_value s n x y) × (sensor_value s n x y ≤ 1023)
value-between s n x y = (omega arith, omega arith)

pub readout-between : (s : Settings) (n k d : ℕ) → k < length (readout s n) → (64 ≤ get_or (readout s n) k d) × (get_or (readout s n) k d ≤ 1023)
unfolding readout
readout-between s n k d h = plane-between (sensor_value s n) 160 120 64 1023 (value-between s n) k d h
