use Rattle.std.proofs.Common.{◌≡◌, ℕ, zero, suc, ◌<◌, ◌≤◌, Bool, true, false, ◌&&◌, not, nat_lt, cond, List, [], ◌∷◌, ◌++◌, length, Some, None, slice_set, get_or, refl, arith, ap, inl, inr}
use Rattle.basic_lemmas.proofs.Lists.{all-where}
use Rattle.std.specs.List.{find, list_all, position, position_or_len, remove}
use Rattle.std.proofs.lemmas.Bool.{and_parts, cases_Bool}
use Rattle.std.proofs.lemmas.Bool.Decides.{nat_tests}
use Rattle.std.proofs.lemmas.Grind.{common_steps}
use Rattle.std.proofs.lemmas.List.Folds.{list_all-append}
use Rattle.device_rows.specs.declared.table_row.Row.{Row}
use Rattle.device_rows.specs.TableRows.{are_below, are_in_order, frame_of, is_of, row_of, with_row, without}

and-both : (a b : Bool) → a ≡ true → b ≡ true → (a && b) ≡ true
and-both a b p q = rw (p, q) refl

pub all-at : {X : Type 0} (p : X → Bool) (xs : List X) (i : ℕ) (d : X) → list_all p xs ≡ true → i < length xs → p (get_or xs i d) ≡ true
all-at p [] i d h l = absurd (omega arith)
all-at p (x ∷ xs) zero d h l = (and_parts (p x) (list_all p xs) h).0
all-at p (x ∷ xs) (suc i) d h l = all-at p xs i d (and_parts (p x) (list_all p xs) h).1 (omega arith)

-- where no element passes, the first that does isn't found
none-found : {X : Type 0} (p : X → Bool) (xs : List X) → nat_lt (position_or_len p xs) (length xs) ≡ false → find p xs ≡ None
none-found p [] h = refl
none-found p (x ∷ xs) h =
    elim (cases_Bool (p x)) [
      | inl t ↦ absurd (let h' = rw t at h in grind (arith, nat_tests))
      | inr f ↦ (let h' = rw f at h in rw f (none-found p xs (grind (arith, nat_tests, common_steps))))
    ]

cond-none : (b : Bool) (n : ℕ) → cond b (Some n) None ≡ None → b ≡ false
cond-none true n h = absurd (cc)
cond-none false n h = refl

pub position-none : {X : Type 0} (p : X → Bool) (xs : List X) → position p xs ≡ None → find p xs ≡ None
position-none p xs h = none-found p xs (cond-none (nat_lt (position_or_len p xs) (length xs)) (position_or_len p xs) h)

-- no row is of the frame
abbrev pub HasNone : {B : Type 0} → ℕ → List (Row B) → Type 0
HasNone f rows = list_all (λ row. not (is_of f row)) rows ≡ true

found-none : {B : Type 0} (f : ℕ) (rows : List (Row B)) → row_of f rows ≡ None → HasNone f rows
found-none f [] h = refl
found-none f (r ∷ rs) h =
    elim (cases_Bool (is_of f r)) [
      | inl t ↦ absurd (let h' = rw t at h in cc)
      | inr n ↦ (let h' = rw n at h in rw n (found-none f rs h'))
    ]

with-none : {B : Type 0} (f : ℕ) (change : Row B → Row B) (rows : List (Row B)) → HasNone f rows → with_row f change rows ≡ rows
with-none f change [] h = refl
with-none f change (r ∷ rs) h =
    let parts = and_parts (not (is_of f r)) (list_all (λ row. not (is_of f row)) rs) h in
    let n : is_of f r ≡ false = grind arith in
    rw (n, with-none f change rs parts.1) refl

without-none : {B : Type 0} (f : ℕ) (rows : List (Row B)) → HasNone f rows → without f rows ≡ rows
without-none f [] h = refl
without-none f (r ∷ rs) h =
    let parts = and_parts (not (is_of f r)) (list_all (λ row. not (is_of f row)) rs) h in
    rw (parts.0, without-none f rs parts.1) refl

-- where no such row stands, nothing changes
pub with_row-none : {B : Type 0} (f : ℕ) (change : Row B → Row B) (rows : List (Row B)) → row_of f rows ≡ None → with_row f change rows ≡ rows
with_row-none f change rows h = with-none f change rows (found-none f rows h)

not_of-above : {B : Type 0} (f n : ℕ) (row : Row B) → f ≤ n → nat_lt n (frame_of row) ≡ true → not (is_of f row) ≡ true
not_of-above f n row l h = grind (arith, nat_tests)

none-above : {B : Type 0} (f n : ℕ) (rows : List (Row B)) → f ≤ n → list_all (λ row. nat_lt n (frame_of row)) rows ≡ true → HasNone f rows
none-above f n rows l h = all-where (λ row. nat_lt n (frame_of row)) (λ row. not (is_of f row)) rows (λ row b. not_of-above f n row l b) h

same-frame : {B : Type 0} (f : ℕ) (row : Row B) → is_of f row ≡ true → frame_of row ≡ f
same-frame f row h = grind (arith, nat_tests)

-- a row before that of the frame isn't of the frame
earlier : {B : Type 0} (f : ℕ) (r : Row B) (rs : List (Row B)) (i : ℕ) (d : Row B) → list_all (λ other. nat_lt (frame_of r) (frame_of other)) rs ≡ true → i < length rs → is_of f (get_or rs i d) ≡ true → is_of f r ≡ false
earlier f r rs i d above l h =
    let less = all-at (λ other. nat_lt (frame_of r) (frame_of other)) rs i d above l in
    let same = same-frame f (get_or rs i d) h in
    let low : nat_lt (frame_of r) f ≡ true = rw same at less in
    grind (arith, nat_tests)

pub row_of-at : {B : Type 0} (f : ℕ) (rows : List (Row B)) (i : ℕ) (d : Row B) → are_in_order rows ≡ true → i < length rows → is_of f (get_or rows i d) ≡ true → row_of f rows ≡ Some (get_or rows i d)
row_of-at f [] i d order l h = absurd (omega arith)
row_of-at f (r ∷ rs) zero d order l h = rw h refl
row_of-at f (r ∷ rs) (suc i) d order l h =
    let parts = and_parts (list_all (λ other. nat_lt (frame_of r) (frame_of other)) rs) (are_in_order rs) order in
    let n = earlier f r rs i d parts.0 (omega arith) h in
    rw n (row_of-at f rs i d parts.1 (omega arith) h)

pub with_row-at : {B : Type 0} (f : ℕ) (change : Row B → Row B) (rows : List (Row B)) (i : ℕ) (d : Row B) → are_in_order rows ≡ true → i < length rows → is_of f (get_or rows i d) ≡ true → with_row f change rows ≡ slice_set rows i (change (get_or rows i d))
with_row-at f change [] i d order l h = absurd (omega arith)
with_row-at f change (r ∷ rs) zero d order l h =
    let parts = and_parts (list_all (λ other. nat_lt (frame_of r) (frame_of other)) rs) (are_in_order rs) order in
    let same = same-frame f r h in
    let rest = with-none f change rs (none-above f (frame_of r) rs (omega arith) parts.0) in
    rw (h, rest) refl
with_row-at {B} f change (r ∷ rs) (suc i) d order l h =
    let parts = and_parts (list_all (λ other. nat_lt (frame_of r) (frame_of other)) rs) (are_in_order rs) order in
    let n = earlier f r rs i d parts.0 (omega arith) h in
    rw n (ap (λ (z : List (Row B)). r ∷ z) (with_row-at f change rs i d parts.1 (omega arith) h))

pub without-at : {B : Type 0} (f : ℕ) (rows : List (Row B)) (i : ℕ) (d : Row B) → are_in_order rows ≡ true → i < length rows → is_of f (get_or rows i d) ≡ true → without f rows ≡ remove rows i
without-at f [] i d order l h = absurd (omega arith)
without-at f (r ∷ rs) zero d order l h =
    let parts = and_parts (list_all (λ other. nat_lt (frame_of r) (frame_of other)) rs) (are_in_order rs) order in
    let same = same-frame f r h in
    let rest = without-none f rs (none-above f (frame_of r) rs (omega arith) parts.0) in
    rw (h, rest) refl
without-at {B} f (r ∷ rs) (suc i) d order l h =
    let parts = and_parts (list_all (λ other. nat_lt (frame_of r) (frame_of other)) rs) (are_in_order rs) order in
    let n = earlier f r rs i d parts.0 (omega arith) h in
    rw n (ap (λ (z : List (Row B)). r ∷ z) (without-at f rs i d parts.1 (omega arith) h))

-- ---- the rows stay in order

all-set : {B : Type 0} (n : ℕ) (rows : List (Row B)) (i : ℕ) (d new : Row B) → i < length rows → frame_of new ≡ frame_of (get_or rows i d) → list_all (λ other. nat_lt n (frame_of other)) (slice_set rows i new) ≡ list_all (λ other. nat_lt n (frame_of other)) rows
all-set n [] i d new l e = absurd (omega arith)
all-set n (r ∷ rs) zero d new l e = rw e refl
all-set n (r ∷ rs) (suc i) d new l e = rw (all-set n rs i d new (omega arith) e) refl

pub order-set : {B : Type 0} (rows : List (Row B)) (i : ℕ) (d new : Row B) → i < length rows → frame_of new ≡ frame_of (get_or rows i d) → are_in_order (slice_set rows i new) ≡ are_in_order rows
order-set [] i d new l e = absurd (omega arith)
order-set (r ∷ rs) zero d new l e = rw e refl
order-set (r ∷ rs) (suc i) d new l e = rw (all-set (frame_of r) rs i d new (omega arith) e, order-set rs i d new (omega arith) e) refl

pub order-push : {B : Type 0} (rows : List (Row B)) (new : Row B) → are_in_order rows ≡ true → are_below (frame_of new) rows ≡ true → are_in_order (rows ++ new ∷ []) ≡ true
order-push [] new order below = refl
order-push (r ∷ rs) new order below =
    let parts = and_parts (list_all (λ other. nat_lt (frame_of r) (frame_of other)) rs) (are_in_order rs) order in
    let low = and_parts (nat_lt (frame_of r) (frame_of new)) (list_all (λ row. nat_lt (frame_of row) (frame_of new)) rs) below in
    let ih = order-push rs new parts.1 low.1 in
    rw (list_all-append (λ other. nat_lt (frame_of r) (frame_of other)) rs (new ∷ []), parts.0, low.0, ih) refl

pub all-remove : {X : Type 0} (p : X → Bool) (xs : List X) (i : ℕ) → list_all p xs ≡ true → list_all p (remove xs i) ≡ true
all-remove p [] i h = grind (arith, common_steps)
all-remove p (x ∷ xs) zero h = (and_parts (p x) (list_all p xs) h).1
all-remove p (x ∷ xs) (suc i) h =
    let parts = and_parts (p x) (list_all p xs) h in
    and-both (p x) (list_all p (remove xs i)) parts.0 (all-remove p xs i parts.1)

pub order-remove : {B : Type 0} (rows : List (Row B)) (i : ℕ) → are_in_order rows ≡ true → are_in_order (remove rows i) ≡ true
order-remove [] i order = grind (arith, common_steps)
order-remove (r ∷ rs) zero order = (and_parts (list_all (λ other. nat_lt (frame_of r) (frame_of other)) rs) (are_in_order rs) order).1
order-remove (r ∷ rs) (suc i) order =
    let parts = and_parts (list_all (λ other. nat_lt (frame_of r) (frame_of other)) rs) (are_in_order rs) order in
    and-both (list_all (λ other. nat_lt (frame_of r) (frame_of other)) (remove rs i)) (are_in_order (remove rs i)) (all-remove (λ other. nat_lt (frame_of r) (frame_of other)) rs i parts.0) (order-remove rs i parts.1)
