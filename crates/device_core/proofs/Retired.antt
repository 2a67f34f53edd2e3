-- A row that the device is done with: nothing is held for it but its readout, and that is here.
use Rattle.std.proofs.Common.{◌≡◌, ℕ, zero, suc, ◌+◌, ◌==◌, Bool, true, false, ◌&&◌, not, is_some, if◌then◌else◌, List, [], ◌∷◌, ◌++◌, length, map, filter, option_to_list, Option, Some, None, slice_get, slice_index_or, refl, sym, ap, ◌∙◌, arith, inl, inr}
use Rattle.std.specs.List.{list_all, list_any, remove}
use Rattle.std.specs.Option.{option_map}
use Rattle.std.proofs.lemmas.Bool.{and_parts, both_ways, cases_Bool, false≢true}
use Rattle.std.proofs.lemmas.Option.{slice_get-map}
use Rattle.basic_lemmas.proofs.Lists.{all-append, all-filtered}
use Rattle.cam_types.specs.Four.{four_list}
use Rattle.cam_types.specs.Rows.{are_settled, awaits_metadata, is_settled, is_settled_at}
use Rattle.cam_types.specs.declared.four.Four.{Four}
use Rattle.cam_types.specs.declared.row.RowView.{RowView}
use Rattle.cam_types.specs.declared.row.SensorPlace.{SensorPlace}
use Rattle.cam_types.specs.declared.row.SensorPlace.TheVariants.{NotYet, Out as SensorOut, Home, WithFill}
use Rattle.cam_types.specs.declared.row.TargetState.{TargetState}
use Rattle.cam_types.specs.declared.row.TargetState.TheVariants.{Waiting, Out, Filled, ReturnedEarly, EarlyFilled, ReturnedOk, ReturnedFailed}
use Rattle.cam_types.specs.declared.row.TargetView.{TargetView}
use Rattle.cam_types.specs.declared.stream.StreamSpec.{StreamSpec}
use Rattle.device_rows.specs.Jobs.{is_fill_out}
use Rattle.device_rows.specs.Ready.{is_done}
use Rattle.device_rows.specs.Rows.{row_at, without as without_view}
use Rattle.device_core.specs.declared.buffers.Held.{Held}
use Rattle.device_core.specs.declared.readouts.Slot.{Slot}
use Rattle.device_core.specs.declared.readouts.Slot.TheVariants.{Away}
use Rattle.device_core.specs.Kept.{agree, agree_at, fills_out, full, held_at, held_by, is_kept, is_out, is_placed, is_waiting, IsKept, slot_by, slot_of, waits}
use Rattle.device_core.specs.Stored.{frame_number, specs_of, Stored, views}
use Rattle.device_rows.specs.declared.table_row.Row.{Row}
use Rattle.device_rows.specs.TableRows.{is_cleared, is_of, passes, row_of, Rows, view_of, with_rows, without}
use Rattle.request_checks.specs.declared.plan.Plan.{Plan}
use Rattle.device_core.proofs.General.{map-removed, removed-at, rises-filtered}
use Rattle.device_core.proofs.Ops.{store-same}
use Rattle.device_core.proofs.Steps.{stands}
use Rattle.device_core.proofs.Views.{find-full}

-- ---- the row

-- the row that is done with
pub record Done (o : Option RowView) (row : RowView) : Type 0 where
  pub at : o ≡ Some row
  pub settled : are_settled row.targets ≡ true

not-not : (b : Bool) → not (not b) ≡ true → b ≡ true
not-not true h = refl
not-not false h = absurd (false≢true h)

pub done-row : (o : Option RowView) → is_done o ≡ true → (row : RowView) × Done o row
done-row None h = absurd (false≢true h)
done-row (Some row) h = (row, record { at = refl; settled = (and_parts (not (awaits_metadata row)) (are_settled row.targets) (not-not (not (awaits_metadata row) && are_settled row.targets) h)).1 })

-- ---- nothing is held for its targets

settled-held : (st : TargetState) (row : RowView) (t : TargetView) (o : Option StreamSpec) → is_settled st ≡ true → held_by st row t o ≡ None
settled-held ReturnedOk row t o h = refl
settled-held ReturnedFailed row t o h = refl
settled-held _ row t o h = absurd (false≢true h)

settled-at : (specs : List StreamSpec) (row : RowView) (o : Option TargetView) → is_settled_at o ≡ true → held_at specs row o ≡ None
settled-at specs row None h = refl
settled-at specs row (Some t) h = settled-held t.state row t (slice_get specs t.stream.0) h

record Settled (targets : Four TargetView) : Type 0 where
  a : is_settled_at targets.a ≡ true
  b : is_settled_at targets.b ≡ true
  c : is_settled_at targets.c ≡ true
  d : is_settled_at targets.d ≡ true

settled-parts : (targets : Four TargetView) → are_settled targets ≡ true → Settled targets
settled-parts targets h =
    let first = and_parts (is_settled_at targets.a) (is_settled_at targets.b && (is_settled_at targets.c && is_settled_at targets.d)) h in
    let second = and_parts (is_settled_at targets.b) (is_settled_at targets.c && is_settled_at targets.d) first.1 in
    let last = and_parts (is_settled_at targets.c) (is_settled_at targets.d) second.1 in
    record { a = first.0; b = second.0; c = last.0; d = last.1 }

cleared-full : (specs : List StreamSpec) (row : RowView) → are_settled row.targets ≡ true → is_cleared (full specs row) ≡ true
cleared-full specs row h =
    let each = settled-parts row.targets h in
    rw (settled-at specs row row.targets.a each.a, settled-at specs row row.targets.b each.b, settled-at specs row row.targets.c each.c, settled-at specs row row.targets.d each.d) refl

pub cleared-row : (plan : Plan) (rows : List (Row Held)) (n : ℕ) (row : RowView) → rows ≡ map (full (specs_of plan)) (views rows) → row_at n (views rows) ≡ Some row → are_settled row.targets ≡ true → passes is_cleared (row_of n rows) ≡ true
cleared-row plan rows n row filled found settled =
    let is : row_of n rows ≡ Some (full (specs_of plan) row) = ap (λ (z : List (Row Held)). row_of n z) filled ∙ (find-full (specs_of plan) n (views rows) ∙ ap (option_map (full (specs_of plan))) found) in
    rw is (cleared-full (specs_of plan) row settled)

-- ---- its readout is here

abbrev is_settled_target : TargetView → Bool
is_settled_target t = is_settled t.state

settled-one : (o : Option TargetView) → is_settled_at o ≡ true → list_all is_settled_target (option_to_list o) ≡ true
settled-one None h = refl
settled-one (Some t) h = rw h refl

settled-all : (targets : Four TargetView) → are_settled targets ≡ true → list_all is_settled_target (four_list targets) ≡ true
settled-all targets h =
    let each = settled-parts targets h in
    let last = all-append is_settled_target (option_to_list targets.c) (option_to_list targets.d) (settled-one targets.c each.c) (settled-one targets.d each.d) in
    let later = all-append is_settled_target (option_to_list targets.b) (option_to_list targets.c ++ option_to_list targets.d) (settled-one targets.b each.b) last in
    all-append is_settled_target (option_to_list targets.a) (option_to_list targets.b ++ (option_to_list targets.c ++ option_to_list targets.d)) (settled-one targets.a each.a) later

settled-waits : (st : TargetState) → is_settled st ≡ true → is_waiting st ≡ false
settled-waits ReturnedOk h = refl
settled-waits ReturnedFailed h = refl
settled-waits Waiting h = absurd (false≢true h)
settled-waits Out h = refl
settled-waits Filled h = refl
settled-waits ReturnedEarly h = refl
settled-waits EarlyFilled h = refl

settled-in : (st : TargetState) → is_settled st ≡ true → is_fill_out st ≡ false
settled-in ReturnedOk h = refl
settled-in ReturnedFailed h = refl
settled-in Waiting h = refl
settled-in Out h = absurd (false≢true h)
settled-in Filled h = refl
settled-in ReturnedEarly h = absurd (false≢true h)
settled-in EarlyFilled h = refl

none-waits : (xs : List TargetView) → list_all is_settled_target xs ≡ true → list_any waits xs ≡ false
none-waits [] all = refl
none-waits (t ∷ xs) all =
    let parts = and_parts (is_settled_target t) (list_all is_settled_target xs) all in
    rw (settled-waits t.state parts.0) (none-waits xs parts.1)

none-out : (xs : List TargetView) → list_all is_settled_target xs ≡ true → length (filter is_out xs) ≡ 0
none-out [] all = refl
none-out (t ∷ xs) all =
    let parts = and_parts (is_settled_target t) (list_all is_settled_target xs) all in
    rw (settled-in t.state parts.0) (none-out xs parts.1)

none-one : (k : ℕ) → k ≡ 0 → (k == 1) ≡ true → ⊥
none-one k is one = false≢true (rw is at one)

not-away : (place : SensorPlace) (row : RowView) → agree_at place row ≡ true → are_settled row.targets ≡ true → slot_by place row ≡ Away → ⊥
not-away NotYet row agrees settled h = cc
not-away Home row agrees settled h = cc
not-away SensorOut row agrees settled h =
    let parts = and_parts (is_some row.shutter) (list_any waits (four_list row.targets) && list_all waits (four_list row.targets)) agrees in
    let later = and_parts (list_any waits (four_list row.targets)) (list_all waits (four_list row.targets)) parts.1 in
    both_ways (list_any waits (four_list row.targets)) (none-waits (four_list row.targets) (settled-all row.targets settled)) later.0
not-away WithFill row agrees settled h =
    let parts = and_parts (is_some row.shutter) (fills_out row == 1) agrees in
    none-one (fills_out row) (none-out (four_list row.targets) (settled-all row.targets settled)) parts.1

get-or-is : {X : Type 0} (xs : List X) (i : ℕ) (d x : X) → slice_get xs i ≡ Some x → slice_index_or xs i d ≡ x
get-or-is [] i d x h = absurd (cc)
get-or-is (y ∷ xs) zero d x h = let same : y ≡ x = cc in same
get-or-is (y ∷ xs) (suc i) d x h = get-or-is xs i d x h

pub slot-here : (plan : Plan) (rows : List (Row Held)) (capacity : ℕ) (slots : List Slot) (spares slot_room spare_room n i : ℕ) (row : RowView) (slot : Slot) → IsKept plan rows capacity slots spares slot_room spare_room → row_at n (views rows) ≡ Some row → are_settled row.targets ≡ true → option_map view_of (slice_get rows i) ≡ Some row → slot ≡ slice_index_or slots i slot → slot ≡ Away → ⊥
slot-here plan rows capacity slots spares slot_room spare_room n i row slot kept found settled placed at away =
    let here = stands plan rows capacity slots spares slot_room spare_room n row kept found in
    let own = and_parts (is_placed (length (specs_of plan)) row) (agree row) here.kept in
    let there : slice_get (views rows) i ≡ Some row = slice_get-map view_of rows i ∙ placed in
    let is : slice_get slots i ≡ Some (slot_of row) = ap (λ (z : List Slot). slice_get z i) kept.shown ∙ (slice_get-map slot_of (views rows) i ∙ ap (option_map slot_of) there) in
    let same : slot ≡ slot_of row = at ∙ get-or-is slots i slot (slot_of row) is in
    not-away row.sensor row own.1 settled (sym same ∙ away)

-- ---- the store without it

filter-mapped : {X Y : Type 0} (p : Y → Bool) (f : X → Y) (xs : List X) → filter p (map f xs) ≡ map f (filter (λ x. p (f x)) xs)
filter-mapped p f [] = refl
filter-mapped p f (x ∷ xs) =
    let ih = filter-mapped p f xs in
    elim (cases_Bool (p (f x))) [ inl kept ↦ rw (kept, ih) refl | inr gone ↦ rw gone ih ]

without-views : {B : Type 0} (n : ℕ) (rows : List (Row B)) → views (without n rows) ≡ without_view n (views rows)
without-views n rows = sym (filter-mapped (λ row. not (row.frame.0 == n)) view_of rows)

pub record Retired (plan : Plan) (t u : Rows Held) (slots : List Slot) (spares slot_room spare_room n : ℕ) : Type 0 where
  pub kept : IsKept plan u.rows u.capacity slots spares slot_room spare_room
  pub is : ◌≡◌ {A = Stored} (record { plan = plan; capacity = u.capacity; rows = views u.rows }) (record { plan = plan; capacity = t.capacity; rows = without_view n (views t.rows) })

if-true : {X : Type 0} (b : Bool) (x y : X) → b ≡ true → (if b then x else y) ≡ x
if-true b x y h = rw h refl

record Left (t u : Rows Held) (n : ℕ) : Type 0 where
  rows : u.rows ≡ without n t.rows
  capacity : u.capacity ≡ t.capacity

left-rows : (t u : Rows Held) (n : ℕ) (b : Bool) → b ≡ true → u ≡ with_rows (if b then without n t.rows else t.rows) t → Left t u n
left-rows t u n b h is =
    let is' : u ≡ with_rows (without n t.rows) t = is ∙ ap (λ (z : List (Row Held)). with_rows z t) (if-true b (without n t.rows) t.rows h) in
    record { rows = ap (λ (z : Rows Held). z.rows) is'; capacity = ap (λ (z : Rows Held). z.capacity) is' }

pub retired : (plan : Plan) (t u : Rows Held) (slots slots' : List Slot) (spares spares' slot_room slot_room' spare_room spare_room' n i : ℕ) (row : RowView) → IsKept plan t.rows t.capacity slots spares slot_room spare_room → row_at n (views t.rows) ≡ Some row → are_settled row.targets ≡ true → option_map view_of (slice_get t.rows i) ≡ Some row → row.frame.0 ≡ n → slots' ≡ remove slots i → spares' ≡ spares + 1 → slot_room' ≡ slot_room → spare_room' ≡ spare_room → u ≡ with_rows (if passes is_cleared (row_of n t.rows) then without n t.rows else t.rows) t → length u.rows + 1 ≡ length t.rows → Retired plan t u slots' spares' slot_room' spare_room' n
retired plan t u slots slots' spares spares' slot_room slot_room' spare_room spare_room' n i row kept found settled placed own is_slots more room room' is fewer =
    let left = left-rows t u n (passes is_cleared (row_of n t.rows)) (cleared-row plan t.rows n row kept.filled found settled) is in
    let seen : views u.rows ≡ without_view n (views t.rows) = ap (λ (z : List (Row Held)). views z) left.rows ∙ without-views n t.rows in
    let there : slice_get (views t.rows) i ≡ Some row = slice_get-map view_of t.rows i ∙ placed in
    let gone : without_view n (views t.rows) ≡ remove (views t.rows) i = removed-at frame_number n i (views t.rows) row kept.order there own in
    let whole : u.rows ≡ map (full (specs_of plan)) (without_view n (views t.rows)) = left.rows ∙ (ap (λ (z : List (Row Held)). without n z) kept.filled ∙ filter-mapped (λ r. not (is_of n r)) (full (specs_of plan)) (views t.rows)) in
    let shown : slots' ≡ map slot_of (without_view n (views t.rows)) = is_slots ∙ (ap (λ (z : List Slot). remove z i) kept.shown ∙ (sym (map-removed slot_of (views t.rows) i) ∙ ap (λ (z : List RowView). map slot_of z) (sym gone))) in
    let enough = kept.enough in
    let capacity = left.capacity in
    record {
      kept = rw (capacity, room, room') (record {
        filled = whole ∙ ap (λ (z : List RowView). map (full (specs_of plan)) z) (sym seen);
        shown = shown ∙ ap (λ (z : List RowView). map slot_of z) (sym seen);
        order = rw seen (rises-filtered frame_number (λ row. not (row.frame.0 == n)) (views t.rows) kept.order);
        enough = omega (arith, enough, more, fewer);
        room = kept.room;
        each = rw seen (all-filtered (is_kept (length (specs_of plan))) (λ row. not (row.frame.0 == n)) (views t.rows) kept.each);
        offered = kept.offered;
      });
      is = store-same plan t.capacity u.capacity (without_view n (views t.rows)) (views u.rows) capacity seen;
    }
