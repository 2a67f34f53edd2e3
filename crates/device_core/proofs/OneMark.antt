-- A row that is marked with what changes neither its targets nor where the sensor is.
use Rattle.std.proofs.Common.{◌≡◌, ℕ, true, is_some, List, length, map, Option, Some, None, refl, ap, ◌∙◌, sym, arith}
use Rattle.std.specs.List.{list_all}
use Rattle.std.proofs.lemmas.List.{length-map}
use Rattle.basic_lemmas.proofs.Lists.{all-mapped, all-where, map-map, map-same}
use Rattle.cam_types.specs.declared.number.StreamIx.{StreamIx}
use Rattle.cam_types.specs.declared.row.SensorPlace.{SensorPlace}
use Rattle.cam_types.specs.declared.row.SensorPlace.TheVariants.{NotYet, Out as SensorOut, Home, WithFill}
use Rattle.cam_types.specs.declared.stream.StreamSpec.{StreamSpec}
use Rattle.device_rows.specs.declared.mark.Mark.TheVariants.{Announced, RequestError, Stopped}
use Rattle.device_rows.specs.Marks.{as_announced}
use Rattle.device_core.proofs.Agree.{agree-announced, agree-request, placed-changed}
use Rattle.device_core.proofs.General.{rises-mapped}
use Rattle.device_core.proofs.Views.{views-full}
use Rattle.std.proofs.lemmas.Bool.{and_from, and_parts, false≢true}
use Rattle.cam_types.specs.declared.number.FrameNo.{FrameNo}
use Rattle.cam_types.specs.declared.row.RowView.{RowView}
use Rattle.device_rows.specs.Rows.{row_at, with_row as with_view}
use Rattle.device_core.specs.declared.buffers.Held.{Held}
use Rattle.device_core.specs.declared.readouts.Slot.{Slot}
use Rattle.device_core.specs.Kept.{agree, agree_at, full, is_kept, is_placed, IsKept, slot_of}
use Rattle.device_core.specs.Steps.{is_lit}
use Rattle.device_core.specs.Stored.{frame_number, specs_of, Stored, views}
use Rattle.device_rows.specs.declared.mark.Mark.{Mark}
use Rattle.device_rows.specs.declared.table_row.Row.{Row}
use Rattle.device_rows.specs.Marks.{marked}
use Rattle.device_rows.specs.TableRows.{Rows, with_mark, with_row, with_rows}
use Rattle.request_checks.specs.declared.plan.Plan.{Plan}
use Rattle.device_core.proofs.Ops.{full-same, slot-same, store-same, table-1}
use Rattle.device_core.proofs.Steps.{kept-stepped, slots-same, Stands, stands, stepped-1}

pub there : (o : Option RowView) → is_some o ≡ true → (row : RowView) × (o ≡ Some row)
there (Some row) h = (row, refl)
there None h = absurd (false≢true h)

pub lit : (o : Option RowView) → is_lit o ≡ true → (row : RowView) × (o ≡ Some row) × (is_some row.shutter ≡ true)
lit (Some row) h = (row, refl, h)
lit None h = absurd (false≢true h)

-- one row of the store marked, which keeps where the sensor is
pub record Marked (plan : Plan) (t u : Rows Held) (slots : List Slot) (spares slot_room spare_room n : ℕ) (mark : Mark) : Type 0 where
  pub kept : IsKept plan u.rows u.capacity slots spares slot_room spare_room
  pub is : ◌≡◌ {A = Stored} (record { plan = plan; capacity = u.capacity; rows = views u.rows }) (record { plan = plan; capacity = t.capacity; rows = with_view n (marked mark) (views t.rows) })

pub mark-by : (plan : Plan) (t u : Rows Held) (slots : List Slot) (spares slot_room spare_room n : ℕ) (mark : Mark) (row : RowView) → IsKept plan t.rows t.capacity slots spares slot_room spare_room → row_at n (views t.rows) ≡ Some row → u ≡ with_rows (with_row n (with_mark mark) t.rows) t → (Stands plan t.rows n row → with_mark mark (full (specs_of plan) row) ≡ full (specs_of plan) (marked mark row)) → (Stands plan t.rows n row → is_kept (length (specs_of plan)) (marked mark row) ≡ true) → ((v : RowView) → (marked mark v).frame ≡ v.frame) → (marked mark row).settings ≡ row.settings → (marked mark row).sensor ≡ row.sensor → Marked plan t u slots spares slot_room spare_room n mark
mark-by plan t u slots spares slot_room spare_room n mark row kept found is here each frame settings sensor =
    let at = stands plan t.rows t.capacity slots spares slot_room spare_room n row kept found in
    let table = table-1 t u (with_row n (with_mark mark) t.rows) is in
    let step = stepped-1 plan t.rows u.rows n (marked mark) row (with_mark mark) at (here at) table.0 in
    let shown = slots-same plan t.rows n (marked mark) row slots at kept.shown (slot-same (marked mark row) row (frame row) settings sensor) in
    record {
      kept = kept-stepped plan t.rows u.rows t.capacity u.capacity slots slots spares slot_room slot_room spare_room n (marked mark) row kept at step shown (each at) table.1 refl (λ v. ap (λ (z : FrameNo). z.0) (frame v));
      is = store-same plan t.capacity u.capacity (with_view n (marked mark) (views t.rows)) (views u.rows) table.1 step.is;
    }

agree-same : (place : SensorPlace) (row other : RowView) → row.shutter ≡ other.shutter → row.request_error ≡ other.request_error → row.targets ≡ other.targets → agree_at place row ≡ true → agree_at place other ≡ true
agree-same NotYet row other s e t agrees = rw (← s, ← e, ← t) agrees
agree-same SensorOut row other s e t agrees = rw (← s, ← t) agrees
agree-same Home row other s e t agrees = rw (← s, ← t) agrees
agree-same WithFill row other s e t agrees = rw (← s, ← t) agrees

-- a row that differs in nothing that is asked of it
pub kept-same : (streams : ℕ) (row other : RowView) → row.settings ≡ other.settings → row.targets ≡ other.targets → row.shutter ≡ other.shutter → row.request_error ≡ other.request_error → row.sensor ≡ other.sensor → is_kept streams row ≡ true → is_kept streams other ≡ true
kept-same streams row other g t s e p kept =
    let parts = and_parts (is_placed streams row) (agree row) kept in
    let placed : is_placed streams other ≡ true = rw (← g, ← t) parts.0 in
    let agrees = agree-same row.sensor row other s e t parts.1 in
    let agrees' : agree other ≡ true = rw p at agrees in
    and_from (is_placed streams other) (agree other) placed agrees'

pub kept-request : (streams : ℕ) (row : RowView) → is_kept streams row ≡ true → is_kept streams (marked RequestError row) ≡ true
kept-request streams row kept =
    let parts = and_parts (is_placed streams row) (agree row) kept in
    and_from (is_placed streams (marked RequestError row)) (agree (marked RequestError row)) parts.0 (agree-request row.sensor row parts.1)

pub kept-announced : (streams : ℕ) (row : RowView) (s : StreamIx) → is_some row.shutter ≡ true → is_kept streams row ≡ true → is_kept streams (marked (Announced s) row) ≡ true
kept-announced streams row s shone kept =
    let parts = and_parts (is_placed streams row) (agree row) kept in
    and_from (is_placed streams (marked (Announced s) row)) (agree (marked (Announced s) row)) (placed-changed streams s.0 as_announced row (λ t. refl) parts.0) (agree-announced row.sensor row s shone parts.1)

-- ---- all rows marked

abbrev pub stopped : RowView → RowView
stopped row = marked Stopped row

stopped-full : (specs : List StreamSpec) (row : RowView) → with_mark Stopped (full specs row) ≡ full specs (stopped row)
stopped-full specs row = full-same specs row (stopped row) refl refl refl

pub stopped-all : (plan : Plan) (t u : Rows Held) (slots : List Slot) (spares slot_room spare_room : ℕ) → IsKept plan t.rows t.capacity slots spares slot_room spare_room → u ≡ with_rows (map (with_mark Stopped) t.rows) t → IsKept plan u.rows u.capacity slots spares slot_room spare_room × (views u.rows ≡ map stopped (views t.rows)) × (u.capacity ≡ t.capacity)
stopped-all plan t u slots spares slot_room spare_room kept is =
    let table = table-1 t u (map (with_mark Stopped) t.rows) is in
    let specs = specs_of plan in
    let whole : u.rows ≡ map (full specs) (map stopped (views t.rows)) =
    table.0 ∙ (ap (λ (z : List (Row Held)). map (with_mark Stopped) z) kept.filled ∙ (map-map (with_mark Stopped) (full specs) (views t.rows) ∙ (map-same (λ v. with_mark Stopped (full specs v)) (λ v. full specs (stopped v)) (views t.rows) (λ v. stopped-full specs v) ∙ sym (map-map (full specs) stopped (views t.rows))))) in
    let is' : views u.rows ≡ map stopped (views t.rows) = ap (λ (z : List (Row Held)). views z) whole ∙ views-full specs (map stopped (views t.rows)) in
    let same : map slot_of (map stopped (views t.rows)) ≡ map slot_of (views t.rows) = map-map slot_of stopped (views t.rows) ∙ map-same (λ v. slot_of (stopped v)) slot_of (views t.rows) (λ v. slot-same (stopped v) v refl refl refl) in
    let long : length u.rows ≡ length t.rows = ap (λ (z : List (Row Held)). length z) table.0 ∙ length-map t.rows (with_mark Stopped) in
    let old = kept.enough in
    let each : list_all (is_kept (length specs)) (map stopped (views t.rows)) ≡ true = all-mapped (is_kept (length specs)) stopped (views t.rows) ∙ all-where (is_kept (length specs)) (λ v. is_kept (length specs) (stopped v)) (views t.rows) (λ v h. kept-same (length specs) v (stopped v) refl refl refl refl refl h) kept.each in (
      record {
        filled = whole ∙ ap (λ (z : List RowView). map (full specs) z) (sym is');
        shown = kept.shown ∙ (sym same ∙ ap (λ (z : List RowView). map slot_of z) (sym is'));
        order = rw is' (rises-mapped frame_number stopped (views t.rows) (λ v. refl) ∙ kept.order);
        enough = omega (arith, old, long, table.1);
        room = rw table.1 kept.room;
        each = rw is' each;
        offered = kept.offered;
      },
      is',
      table.1,
    )
