use Rattle.std.proofs.Common.{◌≡◌, ℕ, zero, suc, ◌<◌, ◌≤◌, Bool, true, false, cond, List, [], ◌∷◌, ◌++◌, length, Option, Some, None, is_some, slice_set, get_or, refl, arith, sym, ◌∙◌, ap}
use Rattle.std.specs.List.{list_all, position, remove}
use Rattle.std.specs.Option.{option_and_then, option_map}
use Rattle.std.proofs.lemmas.Bool.Decides.{nat_tests}
use Rattle.std.proofs.lemmas.Grind.{common_steps}
use Rattle.std.proofs.lemmas.List.Edits.{length-remove}
use Rattle.std.proofs.lemmas.List.Quantifiers.{position-Some}
use Rattle.cam_types.specs.declared.four.Four.{Four}
use Rattle.device_rows.specs.declared.table_row.Row.{Row}
use Rattle.device_rows.specs.Inside.Kept.{IsKept}
use Rattle.device_rows.specs.TableRows.{are_below, are_in_order, frame_of, has_place, is_of, is_sound, parked_at, parked_for, passes, placed_at, Rows, row_of, view_of, with_parked, with_row, without}
use Rattle.device_rows.proofs.TableRowsLemmas.{all-at, all-remove, order-push, order-remove, order-set, position-none, row_of-at, with_row-at, with_row-none, without-at}
use Rattle.device_rows.proofs.Reach.{sound-push, sound-set}

-- a table of these rows, of which so many may stand
abbrev pub table_of : {B : Type 0} → List (Row B) → ℕ → Rows B
table_of rows capacity = record { rows = rows; capacity = capacity }

-- no row of the frame stands
pub record Absent {B : Type 0} (f : ℕ) (rows : List (Row B)) : Type 0 where
  pub found : row_of f rows ≡ None
  pub same : (change : Row B → Row B) → with_row f change rows ≡ rows

-- the row of the frame stands at place i
pub record Present {B : Type 0} (f : ℕ) (rows : List (Row B)) (i : ℕ) (row : Row B) : Type 0 where
  pub within : i < length rows
  pub found : row_of f rows ≡ Some row
  pub changed : (change : Row B → Row B) → with_row f change rows ≡ slice_set rows i (change row)
  pub gone : without f rows ≡ remove rows i
  pub ordered : (new : Row B) → frame_of new ≡ frame_of row → are_in_order (slice_set rows i new) ≡ true
  pub whole : slice_set rows i row ≡ rows

pub absent : {B : Type 0} (f : ℕ) (rows xs : List (Row B)) (r : Option ℕ) → xs ≡ rows → r ≡ position (is_of f) xs → r ≡ None → Absent f rows
absent f rows xs r same is none =
    let at = rw same at (sym is ∙ none) in
    let found : row_of f rows ≡ None = position-none (is_of f) rows at in
    record { found = found; same = λ change. with_row-none f change rows found }

set-same : {X : Type 0} (xs : List X) (i : ℕ) (x : X) → i < length xs → x ≡ get_or xs i x → slice_set xs i x ≡ xs
set-same [] i x l e = absurd (omega arith)
set-same (y ∷ ys) zero x l e = rw e refl
set-same {X} (y ∷ ys) (suc i) x l e = ap (λ (z : List X). y ∷ z) (set-same ys i x (omega arith) e)

present-at : {B : Type 0} (f : ℕ) (rows : List (Row B)) (i : ℕ) (row : Row B) → are_in_order rows ≡ true → i < length rows → is_of f (get_or rows i row) ≡ true → row ≡ get_or rows i row → Present f rows i row
present-at {B} f rows i row order l h is = record {
  within = l;
  found = row_of-at f rows i row order l h ∙ ap (λ (z : Row B). Some z) (sym is);
  changed = λ change. with_row-at f change rows i row order l h ∙ ap (λ (z : Row B). slice_set rows i (change z)) (sym is);
  gone = without-at f rows i row order l h;
  ordered = λ new e. order-set rows i row new l (e ∙ ap (λ (z : Row B). frame_of z) is) ∙ order;
  whole = set-same rows i row l is;
}

pub present : {B : Type 0} (f : ℕ) (rows xs : List (Row B)) (r : Option ℕ) (i : ℕ) (row : Row B) → xs ≡ rows → r ≡ position (is_of f) xs → r ≡ Some i → row ≡ get_or rows i row → are_in_order rows ≡ true → Present f rows i row
present f rows xs r i row same is some at order =
    let found = rw same at (sym is ∙ some) in
    let parts = position-Some (is_of f) rows i row found in
    present-at f rows i row order parts.0 parts.1 at

-- ---- what the calls answer and leave

pub passes-is : {B : Type 0} (test : Row B → Bool) (o : Option (Row B)) (row : Row B) (b : Bool) → o ≡ Some row → test row ≡ b → b ≡ passes test o
passes-is test o row b found h = rw found (sym h)

pub passes-none : {B : Type 0} (test : Row B → Bool) (o : Option (Row B)) → o ≡ None → false ≡ passes test o
passes-none test o none = rw none refl

pub is_some-is : {B : Type 0} (o : Option (Row B)) (row : Row B) → o ≡ Some row → true ≡ is_some o
is_some-is o row found = rw found refl

pub is_some-none : {B : Type 0} (o : Option (Row B)) → o ≡ None → false ≡ is_some o
is_some-none o none = rw none refl

pub view-is : {B : Type 0} (o : Option (Row B)) (row : Row B) → o ≡ Some row → Some row.view ≡ option_map view_of o
view-is o row found = rw found refl

pub view-none : {B : Type 0} (o : Option (Row B)) → o ≡ None → None ≡ option_map view_of o
view-none o none = rw none refl

pub cond-true : {X : Type 0} (b : Bool) (x y z : X) → true ≡ b → z ≡ x → z ≡ cond b x y
cond-true b x y z h e = rw (← h) e

pub cond-false : {X : Type 0} (b : Bool) (x y z : X) → false ≡ b → z ≡ y → z ≡ cond b x y
cond-false b x y z h e = rw (← h) e

pub cond-like : {X : Type 0} (a b : Bool) (x y z : X) → a ≡ b → z ≡ cond a x y → z ≡ cond b x y
cond-like {X} a b x y z e h = h ∙ ap (λ (w : Bool). cond w x y) e

pub taken-is : {B : Type 0} (s : ℕ) (o : Option (Row B)) (row : Row B) (r : Option B) → o ≡ Some row → r ≡ parked_at s row.view.targets row.parked → r ≡ option_and_then (parked_for s) o
taken-is s o row r found h = rw found h

pub taken-none : {B : Type 0} (s : ℕ) (o : Option (Row B)) → o ≡ None → None ≡ option_and_then (parked_for s) o
taken-none s o none = rw none refl

-- the rows once a thing is taken from the row at place i
pub taken-rows : {B : Type 0} (f s : ℕ) (rows : List (Row B)) (i : ℕ) (row : Row B) (new : Four B) → Present f rows i row → new ≡ placed_at s row.view.targets None row.parked → slice_set rows i (record { view = row.view; parked = new }) ≡ with_row f (with_parked s None) rows
taken-rows {B} f s rows i row new there h =
    ap (λ (z : Four B). slice_set rows i (record { view = row.view; parked = z })) h ∙ sym (there.changed (with_parked s None))

put-by : {B : Type 0} (f s : ℕ) (rows : List (Row B)) (i : ℕ) (row : Row B) (thing : B) (new : Four B) (b : Bool) → Present f rows i row → new ≡ cond b (placed_at s row.view.targets (Some thing) row.parked) row.parked → slice_set rows i (record { view = row.view; parked = new }) ≡ cond b (with_row f (with_parked s (Some thing)) rows) rows
put-by {B} f s rows i row thing new true there h =
    ap (λ (z : Four B). slice_set rows i (record { view = row.view; parked = z })) h ∙ sym (there.changed (with_parked s (Some thing)))
put-by {B} f s rows i row thing new false there h =
    ap (λ (z : Four B). slice_set rows i (record { view = row.view; parked = z })) h ∙ there.whole

-- the rows once a thing is parked in the row at place i, if it has the place
pub put-rows : {B : Type 0} (f s : ℕ) (rows : List (Row B)) (i : ℕ) (row : Row B) (thing : B) (new : Four B) → Present f rows i row → new ≡ cond (has_place s row) (placed_at s row.view.targets (Some thing) row.parked) row.parked → slice_set rows i (record { view = row.view; parked = new }) ≡ cond (passes (has_place s) (row_of f rows)) (with_row f (with_parked s (Some thing)) rows) rows
put-rows f s rows i row thing new there h =
    cond-like (has_place s row) (passes (has_place s) (row_of f rows)) (with_row f (with_parked s (Some thing)) rows) rows (slice_set rows i (record { view = row.view; parked = new })) (passes-is (has_place s) (row_of f rows) row (has_place s row) there.found refl) (put-by f s rows i row thing new (has_place s row) there h)

-- ---- what a table keeps

length-changed : {X : Type 0} (xs : List X) (i : ℕ) (x : X) → length (slice_set xs i x) ≡ length xs
length-changed xs i x = grind (arith, common_steps)

-- the row at place i is sound
pub sound-at : {B : Type 0} (rows : List (Row B)) (i : ℕ) (row : Row B) → list_all is_sound rows ≡ true → i < length rows → row ≡ get_or rows i row → is_sound row ≡ true
sound-at rows i row sound l is = rw (← is) at (all-at is_sound rows i row sound l)

pub kept-set : {B : Type 0} (f : ℕ) (rows : List (Row B)) (i : ℕ) (row new : Row B) (capacity room : ℕ) → IsKept rows capacity room → Present f rows i row → frame_of new ≡ frame_of row → is_sound new ≡ true → IsKept (slice_set rows i new) capacity room
kept-set f rows i row new capacity room kept there same sound = record {
  few = kept.few;
  room = kept.room;
  within = rw (length-changed rows i new) kept.within;
  ordered = there.ordered new same;
  sound = sound-set is_sound rows i new kept.sound sound;
}

pub kept-push : {B : Type 0} (rows after : List (Row B)) (new : Row B) (capacity room more : ℕ) → IsKept rows capacity room → room ≤ more → length rows < capacity → are_below (frame_of new) rows ≡ true → is_sound new ≡ true → after ≡ rows ++ new ∷ [] → IsKept after capacity more
kept-push rows after new capacity room more kept l free below sound is =
    let old = kept.room in
    let size : length (rows ++ new ∷ []) ≤ capacity = grind (arith, common_steps) in
    rw is (record { few = kept.few; room = omega arith; within = size; ordered = order-push rows new kept.ordered below; sound = sound-push is_sound rows new kept.sound sound })

pub kept-remove : {B : Type 0} (rows after : List (Row B)) (i capacity room same : ℕ) → IsKept rows capacity room → same ≡ room → i < length rows → after ≡ remove rows i → IsKept after capacity same
kept-remove rows after i capacity room same kept e l is =
    let old = kept.room in
    let old' = kept.within in
    let size = length-remove rows i l in
    let within : length (remove rows i) ≤ capacity = omega arith in
    rw is (record { few = kept.few; room = omega arith; within = within; ordered = order-remove rows i kept.ordered; sound = all-remove is_sound rows i kept.sound })

-- tables with the same rows, of which as many may stand
pub same-rows : {B : Type 0} (capacity : ℕ) (xs ys : List (Row B)) → xs ≡ ys → table_of xs capacity ≡ table_of ys capacity
same-rows {B} capacity xs ys e = ap (λ (z : List (Row B)). table_of z capacity) e

-- the row at a place is the one that its frame finds
pub found-at : {B : Type 0} (rows lent : List (Row B)) (i : ℕ) (row : Row B) → are_in_order rows ≡ true → lent ≡ rows → i < length lent → row ≡ get_or lent i row → option_map view_of (row_of row.view.frame.0 rows) ≡ Some row.view
found-at {B} rows lent i row order same l at =
    let l' : i < length rows = rw (← same) l in
    let is : row ≡ get_or rows i row = rw same at at in
    let own : is_of row.view.frame.0 row ≡ true = grind (arith, nat_tests) in
    let own' : is_of row.view.frame.0 (get_or rows i row) ≡ true = rw (← is) own in
    ap (λ (z : Option (Row B)). option_map view_of z) (row_of-at row.view.frame.0 rows i row order l' own') ∙ ap (λ (z : Row B). Some z.view) (sym is)
