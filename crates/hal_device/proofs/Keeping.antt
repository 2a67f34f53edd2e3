-- Each step keeps what the device keeps true.
use Rattle.std.proofs.Common.{◌≡◌, ℕ, ◌==◌, Bool, true, false, ◌&&◌, not, nat_lt, if◌then◌else◌, List, Option, Some, None, refl, sym, ap, ◌∙◌}
use Rattle.std.specs.Prelude.{slice_get}
use Rattle.std.specs.Option.{option_map}
use Rattle.std.proofs.lemmas.Bool.{and_parts, eqb-true}
use Rattle.basic_lemmas.proofs.Lists.{all-filtered, all-mapped}
use Rattle.buffer_pool.specs.Blocks.{block_length}
use Rattle.cam_types.specs.declared.number.BufferId.{BufferId}
use Rattle.cam_types.specs.declared.number.StreamIx.{StreamIx}
use Rattle.cam_types.specs.declared.partial_result.PartialResult.{PartialResult}
use Rattle.cam_types.specs.declared.profile.Profile.{Profile}
use Rattle.cam_types.specs.declared.row.RowView.{RowView}
use Rattle.cam_types.specs.declared.row.TargetView.{TargetView}
use Rattle.cam_types.specs.declared.stream.StreamSpec.{StreamSpec}
use Rattle.device_core.specs.View.{DeviceView, with_rows}
use Rattle.device_rows.specs.Ready.{is_retire_ready}
use Rattle.device_rows.specs.Rows.{all_stopped, delivered, exposed, fill_begun, fill_ended, returned_failed, sensor_home, with_error, with_part, with_row, without}
use Rattle.device_core.specs.Stored.{are_before, spec_of, specs_of}
use Rattle.device_rows.specs.declared.entry.ErrorEntry.{ErrorEntry}
use Rattle.device_rows.specs.declared.entry.ErrorEntry.TheVariants.{Request as LostRequest, Result as LostResult, Buffer as LostBuffer, Device as LostDevice}
use Rattle.hal_device_model.specs.Calls.{delivered_rows, error_rows, exposed_rows, failed_rows, filled_rows, sent_rows, settled}
use Rattle.hal_device_model.specs.State.{Spare, Spares, back, back_at}
use Rattle.hal_device.specs.Kept.{IsBlockAt, IsBlockFor, IsKept, IsNumberOf, IsSizedAt, are_packed, are_sized, is_sized}
use Rattle.hal_device.proofs.Plans.{spec_0, spec_1, spec_2, spec_3}
use Rattle.device_rows.specs.Marks.{marked}
use Rattle.device_rows.specs.declared.mark.Mark.TheVariants.{Announced, RequestError, ResultError, Stopped}
use Rattle.request_checks.specs.declared.plan.Plan.{Plan}
use Rattle.request_checks.specs.declared.plan.PlanStream.{PlanStream}
use Rattle.device_rows.specs.Rows.{target_in}
use Rattle.hal_device_model.proofs.Steps.{before-changed}

-- ---- the frames that stand stay below the next number

same-frame : (n : ℕ) (change : RowView → RowView) → ((row : RowView) → (change row).frame.0 ≡ row.frame.0) → (row : RowView) → (if row.frame.0 == n then change row else row).frame.0 ≡ row.frame.0
same-frame n change same row = by (row.frame.0 == n)
  where
    by : (b : Bool) → (if b then change row else row).frame.0 ≡ row.frame.0
    by true = same row
    by false = refl

gone : (next n : ℕ) (rows : List RowView) → are_before next rows ≡ true → are_before next (settled n rows) ≡ true
gone next n rows h = by (is_retire_ready rows n)
  where
    by : (b : Bool) → are_before next (if b then without n rows else rows) ≡ true
    by true = all-filtered (λ row. nat_lt row.frame.0 next) (λ row. not (row.frame.0 == n)) rows h
    by false = h

pub before_if : (b : Bool) (next : ℕ) (xs ys : List RowView) → are_before next xs ≡ true → are_before next ys ≡ true → are_before next (if b then xs else ys) ≡ true
before_if true next xs ys h g = h
before_if false next xs ys h g = g

pub before_exposed : (next time : ℕ) (o : Option RowView) (rows : List RowView) → are_before next rows ≡ true → are_before next (exposed_rows time o rows) ≡ true
before_exposed next time (Some row) rows h =
    before-changed next row.frame.0 sensor_home (with_row row.frame.0 (exposed time) rows) (λ r. refl) (before-changed next row.frame.0 (exposed time) rows (λ r. refl) h)
before_exposed next time None rows h = h

pub before_sent : (next n : ℕ) (o : Option (ℕ × PartialResult)) (rows : List RowView) → are_before next rows ≡ true → are_before next (sent_rows n o rows) ≡ true
before_sent next n (Some sent) rows h = gone next n (with_row n (with_part sent.0) rows) (before-changed next n (with_part sent.0) rows (λ r. refl) h)
before_sent next n None rows h = h

pub before_filled : (next n : ℕ) (s : StreamIx) (rows : List RowView) → are_before next rows ≡ true → are_before next (filled_rows n s rows) ≡ true
before_filled next n s rows h = before-changed next n (fill_ended s) (with_row n (fill_begun s) rows) (λ r. refl) (before-changed next n (fill_begun s) rows (λ r. refl) h)

pub before_delivered : (next n : ℕ) (s : StreamIx) (rows : List RowView) → are_before next rows ≡ true → are_before next (delivered_rows n s rows) ≡ true
before_delivered next n s rows h = gone next n (with_row n (delivered s) rows) (before-changed next n (delivered s) rows (λ r. refl) h)

pub before_failed : (next n : ℕ) (s : StreamIx) (rows : List RowView) → are_before next rows ≡ true → are_before next (failed_rows n s rows) ≡ true
before_failed next n s rows h = gone next n (with_row n (returned_failed s) rows) (before-changed next n (returned_failed s) rows (λ r. refl) h)

pub before_stopped : (next : ℕ) (rows : List RowView) → are_before next rows ≡ true → are_before next (all_stopped rows) ≡ true
before_stopped next rows h = all-mapped (λ row. nat_lt row.frame.0 next) (marked Stopped) rows ∙ h

with-error : (next : ℕ) (error : ErrorEntry) (rows : List RowView) → are_before next rows ≡ true → are_before next (with_error error rows) ≡ true
with-error next (LostRequest m) rows h = before-changed next m.0 (marked RequestError) rows (λ r. refl) h
with-error next (LostResult m) rows h = before-changed next m.0 (marked ResultError) rows (λ r. refl) h
with-error next (LostBuffer m s) rows h = before-changed next m.0 (marked (Announced s)) rows (λ r. refl) h
with-error next LostDevice rows h = before_stopped next rows h

pub before_error : (next n : ℕ) (o : Option ErrorEntry) (rows : List RowView) → are_before next rows ≡ true → are_before next (error_rows n o rows) ≡ true
before_error next n (Some error) rows h = gone next n (with_error error rows) (with-error next error rows h)
before_error next n None rows h = h

-- ---- what is kept

pub kept_rows : (d new : DeviceView) (plan : Plan) (profile : Profile) (spares : Spares) (next : ℕ) (rows : List RowView) → IsKept d plan profile spares next → new ≡ with_rows rows d → are_before next rows ≡ true → IsKept new plan profile spares next
kept_rows d new plan profile spares next rows k is before = rw is (record {
  plan = k.plan;
  depth = k.depth;
  profile = k.profile;
  offered = k.offered;
  packed = k.packed;
  sized = k.sized;
  before = before;
})

back-sized : (b : Bool) (stream : Option PlanStream) (spare : Spare) → is_sized stream spare ≡ true → is_sized stream (if b then back spare else spare) ≡ true
back-sized true (Some stream) spare h = h
back-sized true None spare h = refl
back-sized false stream spare h = h

sized-back : (plan : Plan) (s : ℕ) (spares : Spares) → are_sized plan spares ≡ true → are_sized plan (back_at s spares) ≡ true
sized-back plan s spares h =
    let p = plan.streams in
    let l = and_parts (is_sized p.a spares.a && is_sized p.b spares.b) (is_sized p.c spares.c && is_sized p.d spares.d) h in
    let u = and_parts (is_sized p.a spares.a) (is_sized p.b spares.b) l.0 in
    let v = and_parts (is_sized p.c spares.c) (is_sized p.d spares.d) l.1 in
    rw (back-sized (s == 0) p.a spares.a u.0, back-sized (s == 1) p.b spares.b u.1, back-sized (s == 2) p.c spares.c v.0, back-sized (s == 3) p.d spares.d v.1) refl

pub kept_back : (d new : DeviceView) (plan : Plan) (profile : Profile) (spares after : Spares) (next s : ℕ) (rows : List RowView) → IsKept d plan profile spares next → new ≡ with_rows rows d → after ≡ back_at s spares → are_before next rows ≡ true → IsKept new plan profile after next
kept_back d new plan profile spares after next s rows k is blocks before = rw (is, blocks) (record {
  plan = k.plan;
  depth = k.depth;
  profile = k.profile;
  offered = k.offered;
  packed = k.packed;
  sized = sized-back plan s spares k.sized;
  before = before;
})

-- ---- a block of a stream

sized-one : (stream : Option PlanStream) (spare : Spare) (spec : StreamSpec) (bytes : ℕ) → option_map spec_of stream ≡ Some spec → is_sized stream spare ≡ true → bytes ≡ block_length spec.format → bytes ≡ spare.size
sized-one (Some stream) spare spec bytes at h is =
    let same : spec_of stream ≡ spec = cc in
    is ∙ (ap (λ (x : StreamSpec). block_length x.format) (sym same) ∙ sym (eqb-true spare.size (block_length stream.spec.format) h))
sized-one None spare spec bytes at h is = absurd (cc)

pub sized_at : (plan : Plan) (spares : Spares) (s : ℕ) (spec : StreamSpec) (bytes : ℕ) → are_packed plan ≡ true → are_sized plan spares ≡ true → slice_get (specs_of plan) s ≡ Some spec → bytes ≡ block_length spec.format → IsSizedAt s bytes spares
sized_at plan spares s spec bytes packed h at is =
    let p = plan.streams in
    let l = and_parts (is_sized p.a spares.a && is_sized p.b spares.b) (is_sized p.c spares.c && is_sized p.d spares.d) h in
    let u = and_parts (is_sized p.a spares.a) (is_sized p.b spares.b) l.0 in
    let v = and_parts (is_sized p.c spares.c) (is_sized p.d spares.d) l.1 in
    let there = λ (k : ℕ) (e : s ≡ k). ap (λ (i : ℕ). slice_get (specs_of plan) i) (sym e) ∙ at in (
      λ e. sized-one p.a spares.a spec bytes (sym (spec_0 p.a p.b p.c p.d packed) ∙ there 0 e) u.0 is,
      λ e. sized-one p.b spares.b spec bytes (sym (spec_1 p.a p.b p.c p.d packed) ∙ there 1 e) u.1 is,
      λ e. sized-one p.c spares.c spec bytes (sym (spec_2 p.a p.b p.c p.d packed) ∙ there 2 e) v.0 is,
      λ e. sized-one p.d spares.d spec bytes (sym (spec_3 p.a p.b p.c p.d packed) ∙ there 3 e) v.1 is,
    )

pub block_sized : (d : DeviceView) (plan : Plan) (profile : Profile) (spares : Spares) (next n s : ℕ) (buffer : BufferId) (bytes : ℕ) → IsKept d plan profile spares next → IsBlockAt (specs_of d.plan) n s d.rows buffer bytes → IsSizedAt s bytes spares
block_sized d plan profile spares next n s buffer bytes k h = by (target_in n s d.rows) (slice_get (specs_of d.plan) s) refl h
  where
    by : (t : Option TargetView) (o : Option StreamSpec) → slice_get (specs_of d.plan) s ≡ o → IsBlockFor t o buffer bytes → IsSizedAt s bytes spares
    by (Some t) (Some spec) at g =
        let at' : slice_get (specs_of plan) s ≡ Some spec = ap (λ (p : Plan). slice_get (specs_of p) s) (sym k.plan) ∙ at in
        sized_at plan spares s spec bytes k.packed k.sized at' g.1
    by (Some t) None at g = absurd g
    by None (Some spec) at g = absurd g
    by None None at g = absurd g

pub block_number : (specs : List StreamSpec) (n s : ℕ) (rows : List RowView) (buffer : BufferId) (bytes : ℕ) → IsBlockAt specs n s rows buffer bytes → IsNumberOf buffer (target_in n s rows)
block_number specs n s rows buffer bytes h = by (target_in n s rows) (slice_get specs s) h
  where
    by : (t : Option TargetView) (o : Option StreamSpec) → IsBlockFor t o buffer bytes → IsNumberOf buffer t
    by (Some t) (Some spec) g = g.0
    by (Some t) None g = absurd g
    by None (Some spec) g = absurd g
    by None None g = absurd g
