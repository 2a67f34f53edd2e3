-- What the store meets once one row is changed.
use Rattle.std.proofs.Common.{◌≡◌, ℕ, ◌<◌, ◌==◌, Bool, true, false, if◌then◌else◌, List, length, map, Some, slice_get, slice_set, refl, sym, ap, ◌∙◌, arith}
use Rattle.std.specs.Option.{option_map}
use Rattle.std.proofs.lemmas.List.{length-map, map-set}
use Rattle.std.proofs.lemmas.Option.{slice_get-map, slice_get_within}
use Rattle.basic_lemmas.proofs.Lists.{all-found, map-map}
use Rattle.cam_types.specs.declared.row.RowView.{RowView}
use Rattle.device_rows.specs.Rows.{row_at, with_row as with_view}
use Rattle.device_core.specs.declared.buffers.Held.{Held}
use Rattle.device_core.specs.declared.readouts.Slot.{Slot}
use Rattle.device_core.specs.Kept.{full, is_kept, IsKept, slot_of}
use Rattle.device_core.specs.Stored.{frame_number, rises, specs_of, views}
use Rattle.device_rows.specs.declared.table_row.Row.{Row}
use Rattle.device_rows.specs.TableRows.{if_of, is_of, view_of, with_row}
use Rattle.request_checks.specs.declared.plan.Plan.{Plan}
use Rattle.device_core.proofs.General.{kept-at, changed-at, map-at, rises-mapped}
use Rattle.device_core.proofs.Views.{found-own, step-full, views-full}

-- the row that a step changes, as it stands
pub record Stands (plan : Plan) (rows : List (Row Held)) (n : ℕ) (row : RowView) : Type 0 where
  pub filled : rows ≡ map (full (specs_of plan)) (views rows)
  pub order : rises frame_number (views rows) ≡ true
  pub found : row_at n (views rows) ≡ Some row
  pub own : (row.frame.0 == n) ≡ true
  pub kept : is_kept (length (specs_of plan)) row ≡ true

pub stands : (plan : Plan) (rows : List (Row Held)) (capacity : ℕ) (slots : List Slot) (spares slot_room spare_room n : ℕ) (row : RowView) → IsKept plan rows capacity slots spares slot_room spare_room → row_at n (views rows) ≡ Some row → Stands plan rows n row
stands plan rows capacity slots spares slot_room spare_room n row kept found =
    record {
      filled = kept.filled;
      order = kept.order;
      found = found;
      own = found-own n (views rows) row found;
      kept = all-found (is_kept (length (specs_of plan))) (λ v. v.frame.0 == n) (views rows) row kept.each found;
    }

-- the rows after the step
pub record Stepped (plan : Plan) (rows after : List (Row Held)) (n : ℕ) (change : RowView → RowView) : Type 0 where
  pub is : views after ≡ with_view n change (views rows)
  pub filled : after ≡ map (full (specs_of plan)) (views after)

stepped : (plan : Plan) (rows after : List (Row Held)) (n : ℕ) (change : RowView → RowView) (row : RowView) (g : Row Held → Row Held) → Stands plan rows n row → g (full (specs_of plan) row) ≡ full (specs_of plan) (change row) → ((v : RowView) → (v.frame.0 == n) ≡ false → g (full (specs_of plan) v) ≡ full (specs_of plan) v) → after ≡ map g rows → Stepped plan rows after n change
stepped plan rows after n change row g at here other is =
    let whole : after ≡ map (full (specs_of plan)) (with_view n change (views rows)) = is ∙ (ap (λ (z : List (Row Held)). map g z) at.filled ∙ step-full (specs_of plan) n g change (views rows) row at.order at.found here other) in
    let is' : views after ≡ with_view n change (views rows) = ap (λ (z : List (Row Held)). views z) whole ∙ views-full (specs_of plan) (with_view n change (views rows)) in
    record { is = is'; filled = whole ∙ ap (λ (z : List RowView). map (full (specs_of plan)) z) (sym is') }

if-here : {B : Type 0} (n : ℕ) (f : Row B → Row B) (r : Row B) → is_of n r ≡ true → if_of n f r ≡ f r
if-here n f r h = rw h refl

if-other : {B : Type 0} (n : ℕ) (f : Row B → Row B) (r : Row B) → is_of n r ≡ false → if_of n f r ≡ r
if-other n f r h = rw h refl

pub stepped-1 : (plan : Plan) (rows after : List (Row Held)) (n : ℕ) (change : RowView → RowView) (row : RowView) (f : Row Held → Row Held) → Stands plan rows n row → f (full (specs_of plan) row) ≡ full (specs_of plan) (change row) → after ≡ with_row n f rows → Stepped plan rows after n change
stepped-1 plan rows after n change row f at here is =
    stepped plan rows after n change row (if_of n f) at (if-here n f (full (specs_of plan) row) at.own ∙ here) (λ v no'. if-other n f (full (specs_of plan) v) no') is

pub stepped-2 : (plan : Plan) (rows after : List (Row Held)) (n : ℕ) (change : RowView → RowView) (row : RowView) (f g : Row Held → Row Held) → Stands plan rows n row → is_of n (f (full (specs_of plan) row)) ≡ true → g (f (full (specs_of plan) row)) ≡ full (specs_of plan) (change row) → after ≡ with_row n g (with_row n f rows) → Stepped plan rows after n change
stepped-2 plan rows after n change row f g at own here is =
    stepped plan rows after n change row (λ r. if_of n g (if_of n f r)) at
    (ap (λ (z : Row Held). if_of n g z) (if-here n f (full (specs_of plan) row) at.own) ∙ (if-here n g (f (full (specs_of plan) row)) own ∙ here))
    (λ v no'. ap (λ (z : Row Held). if_of n g z) (if-other n f (full (specs_of plan) v) no') ∙ if-other n g (full (specs_of plan) v) no')
    (is ∙ map-map (if_of n g) (if_of n f) rows)

pub stepped-3 : (plan : Plan) (rows after : List (Row Held)) (n : ℕ) (change : RowView → RowView) (row : RowView) (f g h : Row Held → Row Held) → Stands plan rows n row → is_of n (f (full (specs_of plan) row)) ≡ true → is_of n (g (f (full (specs_of plan) row))) ≡ true → h (g (f (full (specs_of plan) row))) ≡ full (specs_of plan) (change row) → after ≡ with_row n h (with_row n g (with_row n f rows)) → Stepped plan rows after n change
stepped-3 plan rows after n change row f g h at own own' here is =
    stepped plan rows after n change row (λ r. if_of n h (if_of n g (if_of n f r))) at
    (ap (λ (z : Row Held). if_of n h (if_of n g z)) (if-here n f (full (specs_of plan) row) at.own) ∙ (ap (λ (z : Row Held). if_of n h z) (if-here n g (f (full (specs_of plan) row)) own) ∙ (if-here n h (g (f (full (specs_of plan) row))) own' ∙ here)))
    (λ v no'. ap (λ (z : Row Held). if_of n h (if_of n g z)) (if-other n f (full (specs_of plan) v) no') ∙ (ap (λ (z : Row Held). if_of n h z) (if-other n g (full (specs_of plan) v) no') ∙ if-other n h (full (specs_of plan) v) no'))
    (is ∙ (ap (λ (z : List (Row Held)). with_row n h z) (map-map (if_of n g) (if_of n f) rows) ∙ map-map (if_of n h) (λ r. if_of n g (if_of n f r)) rows))

-- ---- readouts

-- the slot of the row changed
pub slots-set : (plan : Plan) (rows : List (Row Held)) (n i : ℕ) (change : RowView → RowView) (row : RowView) (slots after : List Slot) (slot : Slot) → Stands plan rows n row → slots ≡ map slot_of (views rows) → option_map view_of (slice_get rows i) ≡ Some row → row.frame.0 ≡ n → slot ≡ slot_of (change row) → after ≡ slice_set slots i slot → after ≡ map slot_of (with_view n change (views rows))
slots-set plan rows n i change row slots after slot at shown placed own is is_after =
    let there : slice_get (views rows) i ≡ Some row = slice_get-map view_of rows i ∙ placed in
    let views' = changed-at frame_number change n i (views rows) row at.order there own in
    is_after ∙ (rw (is, shown) refl ∙ (sym (map-set slot_of (views rows) i (change row)) ∙ sym (ap (λ (z : List RowView). map slot_of z) views')))

-- the slots as they were
pub slots-same : (plan : Plan) (rows : List (Row Held)) (n : ℕ) (change : RowView → RowView) (row : RowView) (slots : List Slot) → Stands plan rows n row → slots ≡ map slot_of (views rows) → slot_of (change row) ≡ slot_of row → slots ≡ map slot_of (with_view n change (views rows))
slots-same plan rows n change row slots at shown same =
    let all = map-at frame_number (λ v. slot_of (if v.frame.0 == n then change v else v)) slot_of n (views rows) row at.order at.found (rw at.own same) (λ v no'. rw no' refl) in
    shown ∙ sym (map-map slot_of (λ v. if v.frame.0 == n then change v else v) (views rows) ∙ all)

-- the slot at the row's place
pub slot-at : (rows : List (Row Held)) (i : ℕ) (row : RowView) (slots : List Slot) (slot : Slot) → slots ≡ map slot_of (views rows) → option_map view_of (slice_get rows i) ≡ Some row → slice_get slots i ≡ Some slot → slot ≡ slot_of row
slot-at rows i row slots slot shown placed at =
    let there : slice_get (views rows) i ≡ Some row = slice_get-map view_of rows i ∙ placed in
    let is : slice_get slots i ≡ Some (slot_of row) = ap (λ (z : List Slot). slice_get z i) shown ∙ (slice_get-map slot_of (views rows) i ∙ ap (option_map slot_of) there) in
    let both : Some slot ≡ Some (slot_of row) = sym at ∙ is in
    cc

pub slot-within : (rows : List (Row Held)) (i : ℕ) (row : RowView) (slots : List Slot) → slots ≡ map slot_of (views rows) → option_map view_of (slice_get rows i) ≡ Some row → i < length slots
slot-within rows i row slots shown placed =
    let there : slice_get (views rows) i ≡ Some row = slice_get-map view_of rows i ∙ placed in
    let is : slice_get slots i ≡ Some (slot_of row) = ap (λ (z : List Slot). slice_get z i) shown ∙ (slice_get-map slot_of (views rows) i ∙ ap (option_map slot_of) there) in
    slice_get_within slots i (slot_of row) is

-- ---- what the store keeps

keeps-if : (b : Bool) (change : RowView → RowView) (v : RowView) → (change v).frame.0 ≡ v.frame.0 → frame_number (if b then change v else v) ≡ frame_number v
keeps-if true change v same = same
keeps-if false change v same = refl

pub kept-stepped : (plan : Plan) (rows after : List (Row Held)) (capacity capacity' : ℕ) (slots slots' : List Slot) (spares slot_room slot_room' spare_room n : ℕ) (change : RowView → RowView) (row : RowView) → IsKept plan rows capacity slots spares slot_room spare_room → Stands plan rows n row → Stepped plan rows after n change → slots' ≡ map slot_of (with_view n change (views rows)) → is_kept (length (specs_of plan)) (change row) ≡ true → capacity' ≡ capacity → slot_room' ≡ slot_room → ((v : RowView) → (change v).frame.0 ≡ v.frame.0) → IsKept plan after capacity' slots' spares slot_room' spare_room
kept-stepped plan rows after capacity capacity' slots slots' spares slot_room slot_room' spare_room n change row kept at step shown each same room keeps =
    let long : length after ≡ length rows = sym (length-map after view_of) ∙ (ap (λ (z : List RowView). length z) step.is ∙ (length-map (views rows) (λ v. if v.frame.0 == n then change v else v) ∙ length-map rows view_of)) in
    let old = kept.enough in
    rw (same, room) (record {
      filled = step.filled;
      shown = shown ∙ ap (λ (z : List RowView). map slot_of z) (sym step.is);
      order = rw step.is (rises-mapped frame_number (λ v. if v.frame.0 == n then change v else v) (views rows) (λ v. keeps-if (v.frame.0 == n) change v (keeps v)) ∙ kept.order);
      enough = omega (arith, old, long);
      room = kept.room;
      each = rw step.is (kept-at frame_number (is_kept (length (specs_of plan))) change n (views rows) row at.order at.found kept.each each);
      offered = kept.offered;
    })
