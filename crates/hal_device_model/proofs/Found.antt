-- What is found by its key, once one thing changed, went or was added.
use Rattle.std.proofs.Common.{◌≡◌, ℕ, ◌==◌, Bool, true, false, not, nat_lt, if◌then◌else◌, List, [], ◌∷◌, ◌++◌, map, filter, Option, Some, None, refl, sym, ap, ◌∙◌, inl, inr, ◌⊎◌, arith}
use Rattle.std.specs.List.{find, list_all}
use Rattle.std.specs.Option.{option_map}
use Rattle.std.proofs.lemmas.Bool.{and_parts, cases_Bool, eqb-true, false≢true}
use Rattle.std.proofs.lemmas.Bool.Decides.{nat_tests}
use Rattle.cam_types.specs.declared.row.RowView.{RowView}
use Rattle.device_rows.specs.Rows.{row_at, with_row}
use Rattle.device_core.specs.Stored.{frame_number, rises}
use Rattle.basic_lemmas.proofs.Lists.{all-found, found-changed, found-passes}

other-key : (k m n : ℕ) → (k == n) ≡ true → (m == n) ≡ false → (k == m) ≡ false
other-key k m n here other = grind (arith, nat_tests, here, other)

-- one of another key
pub found_beside : {X : Type 0} (key : X → ℕ) (change : X → X) (m n : ℕ) (xs : List X) → ((x : X) → key (change x) ≡ key x) → (m == n) ≡ false → find (λ x. key x == m) (map (λ x. if key x == n then change x else x) xs) ≡ find (λ x. key x == m) xs
found_beside key change m n [] same apart = refl
found_beside key change m n (x ∷ xs) same apart =
    let ih = found_beside key change m n xs same apart in
    elim (cases_Bool (key x == n)) [
      | inl here ↦ (
          let other : (key x == m) ≡ false = other-key (key x) m n here apart in
          let other' : (key (change x) == m) ≡ false = ap (λ k. k == m) (same x) ∙ other in
          rw (here, other', other) ih
          )
      | inr no' ↦ rw no' (by (key x == m) ih)
    ]
  where
    by : (b : Bool) → find (λ y. key y == m) (map (λ y. if key y == n then change y else y) xs) ≡ find (λ y. key y == m) xs → (if b then Some x else find (λ y. key y == m) (map (λ y. if key y == n then change y else y) xs)) ≡ (if b then Some x else find (λ y. key y == m) xs)
    by true ih = refl
    by false ih = ih

-- what is left was there
pub found_left : {X : Type 0} (key : X → ℕ) (m n : ℕ) (xs : List X) (x : X) → find (λ y. key y == m) (filter (λ y. not (key y == n)) xs) ≡ Some x → find (λ y. key y == m) xs ≡ Some x
found_left key m n [] x h = h
found_left {X} key m n (y ∷ xs) x h =
    let ih = λ (g : find (λ z. key z == m) (filter (λ z. not (key z == n)) xs) ≡ Some x). found_left key m n xs x g in
    elim (cases_Bool (key y == n)) [
      | inl here ↦ (
          let h' = rw here at h in
          let own : (key x == n) ≡ false = left n xs x m h' in
          let at : (key x == m) ≡ true = found-passes (λ z. key z == m) (filter (λ z. not (key z == n)) xs) x h' in
          let other : (key y == m) ≡ false = apart (key y) (key x) here own at in
          rw other (ih h')
          )
      | inr kept ↦ (let h' = rw kept at h in by (key y == m) refl ih h')
    ]
  where
    not-true : (b : Bool) → not b ≡ true → b ≡ false
    not-true true g = absurd (false≢true g)
    not-true false g = refl

    all-left : (k : ℕ) (zs : List X) → list_all (λ z. not (key z == k)) (filter (λ z. not (key z == k)) zs) ≡ true
    all-left k [] = refl
    all-left k (z ∷ zs) =
        elim (cases_Bool (key z == k)) [
          | inl at ↦ rw at (all-left k zs)
          | inr no' ↦ rw (no', no') (all-left k zs)
        ]

    left : (k : ℕ) (zs : List X) (z : X) (i : ℕ) → find (λ w. key w == i) (filter (λ w. not (key w == k)) zs) ≡ Some z → (key z == k) ≡ false
    left k zs z i g = not-true (key z == k) (all-found (λ w. not (key w == k)) (λ w. key w == i) (filter (λ w. not (key w == k)) zs) z (all-left k zs) g)

    apart : (a b : ℕ) → (a == n) ≡ true → (b == n) ≡ false → (b == m) ≡ true → (a == m) ≡ false
    apart a b p q r = grind (arith, nat_tests, p, q, r)

    by : (b : Bool) → (key y == m) ≡ b → (find (λ z. key z == m) (filter (λ z. not (key z == n)) xs) ≡ Some x → find (λ z. key z == m) xs ≡ Some x) → (if b then Some y else find (λ z. key z == m) (filter (λ z. not (key z == n)) xs)) ≡ Some x → (if key y == m then Some y else find (λ z. key z == m) xs) ≡ Some x
    by true is ih g = rw is g
    by false is ih g = rw is (ih g)

-- one more behind
pub found_more : {X : Type 0} (p : X → Bool) (xs : List X) (x y : X) → find p (xs ++ x ∷ []) ≡ Some y → (find p xs ≡ Some y) ⊎ ((p x ≡ true) × (x ≡ y))
found_more p [] x y h = by (p x) refl h
  where
    by : (b : Bool) → p x ≡ b → (if b then Some x else None) ≡ Some y → (None ≡ Some y) ⊎ ((p x ≡ true) × (x ≡ y))
    by true is g = inr (is, cc)
    by false is g = absurd (cc)
found_more {X} p (z ∷ xs) x y h = by (p z) (λ g. found_more p xs x y g) h
  where
    by : (b : Bool) → (find p (xs ++ x ∷ []) ≡ Some y → (find p xs ≡ Some y) ⊎ ((p x ≡ true) × (x ≡ y))) → (if b then Some z else find p (xs ++ x ∷ [])) ≡ Some y → ((if b then Some z else find p xs) ≡ Some y) ⊎ ((p x ≡ true) × (x ≡ y))
    by true ih g = inl g
    by false ih g = ih g

below-other : (a b : ℕ) → nat_lt a b ≡ true → (a == b) ≡ false
below-other a b h = grind (arith, nat_tests, h)

-- where keys rise, what is found by whatever test is found by its key
pub found_key : {X : Type 0} (key : X → ℕ) (p : X → Bool) (xs : List X) (x : X) → rises key xs ≡ true → find p xs ≡ Some x → find (λ y. key y == key x) xs ≡ Some x
found_key key p [] x order h = absurd (cc)
found_key key p (y ∷ xs) x order h =
    let parts = and_parts (list_all (λ z. nat_lt (key y) (key z)) xs) (rises key xs) order in
    by (p y) parts.0 (λ g. found_key key p xs x parts.1 g) h
  where
    self : (k : ℕ) → (k == k) ≡ true
    self k = grind (arith, nat_tests)

    by : (b : Bool) → list_all (λ z. nat_lt (key y) (key z)) xs ≡ true → (find p xs ≡ Some x → find (λ z. key z == key x) xs ≡ Some x) → (if b then Some y else find p xs) ≡ Some x → (if key y == key x then Some y else find (λ z. key z == key x) xs) ≡ Some x
    by true above ih g =
        let same : y ≡ x = cc in
        rw (same, self (key x)) refl
    by false above ih g =
        let other = below-other (key y) (key x) (all-found (λ z. nat_lt (key y) (key z)) p xs x above g) in
        rw other (ih g)

-- ---- all rows

-- what holds of each row
abbrev pub Each : (ℕ → RowView → Type 0) → List RowView → Type 0
Each P rows = (n : ℕ) (row : RowView) → row_at n rows ≡ Some row → P n row

pub each_changed : (P : ℕ → RowView → Type 0) (n : ℕ) (change : RowView → RowView) (rows : List RowView) → ((row : RowView) → (change row).frame.0 ≡ row.frame.0) → ((row : RowView) → row_at n rows ≡ Some row → P n (change row)) → ((m : ℕ) (row : RowView) → (m == n) ≡ false → row_at m rows ≡ Some row → P m row) → Each P (with_row n change rows)
each_changed P n change rows same own others m new at =
    elim (cases_Bool (m == n)) [
      | inl here ↦ (
          let is : m ≡ n = eqb-true m n here in
          let at' : row_at n (with_row n change rows) ≡ Some new = ap (λ (i : ℕ). row_at i (with_row n change rows)) (sym is) ∙ at in
          let moved : option_map change (row_at n rows) ≡ Some new = sym (found-changed frame_number change n rows same) ∙ at' in
          rw is (by (row_at n rows) refl moved)
          )
      | inr other ↦ others m new other (sym (found_beside frame_number change m n rows same other) ∙ at)
    ]
  where
    by : (o : Option RowView) → row_at n rows ≡ o → option_map change o ≡ Some new → P n new
    by (Some row) found g =
        let is : change row ≡ new = cc in
        rw (← is) (own row found)
    by None found g = absurd (cc)
