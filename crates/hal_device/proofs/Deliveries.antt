-- The picture that is delivered, and the length of its memory.
use Rattle.std.proofs.Common.{◌≡◌, ℕ, ◌==◌, true, List, length, Option, Some, None, refl, sym, ap, ◌∙◌}
use Rattle.std.specs.Prelude.{slice_get}
use Rattle.std.specs.List.{list_all}
use Rattle.std.proofs.lemmas.Bool.{eqb-true}
use Rattle.cam_types.specs.Picture.{is_offered, length_in}
use Rattle.cam_types.specs.Shown.{Shown}
use Rattle.cam_types.specs.declared.profile.Profile.{Profile}
use Rattle.cam_types.specs.declared.row.RowView.{RowView}
use Rattle.cam_types.specs.declared.row.TargetView.{TargetView}
use Rattle.cam_types.specs.declared.stream.StreamSpec.{StreamSpec}
use Rattle.device_core.specs.View.{DeviceView}
use Rattle.device_rows.specs.Rows.{row_at, target_at, target_in}
use Rattle.device_core.proofs.Outs.{picture-buffer}
use Rattle.device_core.specs.Steps.{ShowsAt, ShowsRow, ShowsTarget}
use Rattle.device_core.specs.Stored.{specs_of}
use Rattle.fill_jobs.specs.Buffers.{IsPictureFor}
use Rattle.hal_device.proofs.Keeping.{sized_at}
use Rattle.hal_device.proofs.Offers.{offered_all}
use Rattle.hal_device.specs.Kept.{IsKept, IsShown, IsSizedAt}
use Rattle.hal_device.specs.declared.steps.Delivered.{Delivered}
use Rattle.hal_device_model.specs.Calls.{has_length}
use Rattle.hal_device_model.specs.State.{Spares}
use Rattle.request_checks.specs.declared.plan.Plan.{Plan}
use Rattle.basic_lemmas.proofs.Lists.{all-at}

-- the row, target and stream whose picture it is
pub record Shows (specs : List StreamSpec) (n s : ℕ) (rows : List RowView) (pixels : Shown) (digest : List ℕ) : Type 0 where
  pub row : RowView
  pub target : TargetView
  pub spec : StreamSpec
  pub found : row_at n rows ≡ Some row
  pub at : target_at s row ≡ Some target
  pub stream : slice_get specs s ≡ Some spec
  pub shown : IsPictureFor spec row.settings row.frame.0 target.buffer pixels digest

pub shows : (specs : List StreamSpec) (n s : ℕ) (rows : List RowView) (pixels : Shown) (digest : List ℕ) → ShowsAt specs n s rows pixels digest → Shows specs n s rows pixels digest
shows specs n s rows pixels digest h = by-row (row_at n rows) refl h
  where
    by-spec : (row : RowView) (t : TargetView) (o : Option StreamSpec) → row_at n rows ≡ Some row → target_at s row ≡ Some t → slice_get specs s ≡ o → ShowsTarget row (Some t) o pixels digest → Shows specs n s rows pixels digest
    by-spec row t (Some spec) found at stream g = record { row = row; target = t; spec = spec; found = found; at = at; stream = stream; shown = g }
    by-spec row t None found at stream g = absurd g

    by-target : (row : RowView) (o : Option TargetView) → row_at n rows ≡ Some row → target_at s row ≡ o → ShowsTarget row o (slice_get specs s) pixels digest → Shows specs n s rows pixels digest
    by-target row (Some t) found at g = by-spec row t (slice_get specs s) found at refl g
    by-target row None found at g = absurd g

    by-row : (o : Option RowView) → row_at n rows ≡ o → ShowsRow specs s o pixels digest → Shows specs n s rows pixels digest
    by-row (Some row) found g = by-target row (target_at s row) found refl g
    by-row None found g = absurd g

-- the picture has the memory's length
pub picture_long : (d : DeviceView) (plan : Plan) (profile : Profile) (spares : Spares) (next n s room : ℕ) (pixels : Shown) (digest : List ℕ) → IsKept d plan profile spares next → has_length room (slice_get (specs_of d.plan) s) ≡ true → ShowsAt (specs_of d.plan) n s d.rows pixels digest → length pixels.bytes ≡ room
picture_long d plan profile spares next n s room pixels digest k long h =
    let w = shows (specs_of d.plan) n s d.rows pixels digest h in
    let all : list_all is_offered (specs_of d.plan) ≡ true = ap (λ (p : Plan). list_all is_offered (specs_of p)) k.plan ∙ offered_all plan k.offered in
    let offered = all-at is_offered (specs_of d.plan) s w.spec all w.stream in
    let whole = picture-buffer w.spec w.row.settings w.row.frame.0 w.target.buffer pixels digest offered w.shown in
    let long' : (length_in w.spec.format w.spec.width w.spec.height == room) ≡ true = ap (has_length room) (sym w.stream) ∙ long in
    whole.bytes ∙ eqb-true (length_in w.spec.format w.spec.width w.spec.height) room long'

-- its block is one of the stream
pub picture_block : (d : DeviceView) (plan : Plan) (profile : Profile) (spares : Spares) (next n s bytes : ℕ) (pixels : Shown) (digest : List ℕ) → IsKept d plan profile spares next → ShowsAt (specs_of d.plan) n s d.rows pixels digest → bytes ≡ pixels.block → IsSizedAt s bytes spares
picture_block d plan profile spares next n s bytes pixels digest k h is =
    let w = shows (specs_of d.plan) n s d.rows pixels digest h in
    let at : slice_get (specs_of plan) s ≡ Some w.spec = ap (λ (p : Plan). slice_get (specs_of p) s) (sym k.plan) ∙ w.stream in
    sized_at plan spares s w.spec bytes k.packed k.sized at (is ∙ w.shown.block)

-- what the memory shows then
pub picture_shown : (d : DeviceView) (n s : ℕ) (memory : List ℕ) (pixels : Shown) (digest : List ℕ) (done : Delivered) → ShowsAt (specs_of d.plan) n s d.rows pixels digest → memory ≡ pixels.bytes → done.buffer ≡ pixels.id → done.digest ≡ digest → IsShown (row_at n d.rows) (target_in n s d.rows) (slice_get (specs_of d.plan) s) memory done
picture_shown d n s memory pixels digest done h same id is =
    let w = shows (specs_of d.plan) n s d.rows pixels digest h in
    rw (w.found, w.at, w.stream) (same ∙ w.shown.bytes, id ∙ w.shown.id, is ∙ w.shown.digested)
