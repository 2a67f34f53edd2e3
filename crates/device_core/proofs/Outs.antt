-- What comes out of the store.
use Rattle.std.proofs.Common.{◌≡◌, ℕ, ◌<◌, ◌==◌, ◌||◌, Bool, true, not, if◌then◌else◌, List, length, Option, Some, None, slice_get, IfSome, IsTrue, refl, ap, subst, ◌∙◌, sym, inl, inr}
use Rattle.std.specs.Option.{option_and_then}
use Rattle.std.proofs.lemmas.Bool.{and_parts, cases_Bool, eqb-true, false≢true, ltb-true}
use Rattle.buffer_pool.specs.declared.parked.Parked.{Parked}
use Rattle.cam_types.proofs.PictureLemmas.{length-picture-Raw16, length-picture-Yuv}
use Rattle.cam_types.specs.Picture.{is_offered, is_size_of, length_in, picture}
use Rattle.cam_types.specs.Shown.{Shown}
use Rattle.cam_types.specs.declared.item.Settings.{Settings}
use Rattle.cam_types.specs.declared.number.BufferId.{BufferId}
use Rattle.cam_types.specs.declared.stream.Format.{Format}
use Rattle.cam_types.specs.declared.stream.Format.TheVariants.{Raw16, Yuv, Other}
use Rattle.device_core.specs.Unpacked.{IsMadeHeld, IsUnpacked}
use Rattle.cam_types.specs.declared.job.FillTarget.{FillTarget}
use Rattle.cam_types.specs.declared.job.JobView.{JobView}
use Rattle.cam_types.specs.declared.number.FenceNo.{FenceNo}
use Rattle.cam_types.specs.declared.row.RowView.{RowView}
use Rattle.cam_types.specs.declared.row.TargetState.{TargetState}
use Rattle.cam_types.specs.declared.row.TargetState.TheVariants.{Waiting, Out, Filled, ReturnedEarly, EarlyFilled, ReturnedOk, ReturnedFailed}
use Rattle.cam_types.specs.declared.row.TargetView.{TargetView}
use Rattle.cam_types.specs.declared.stream.StreamSpec.{StreamSpec}
use Rattle.buffer_pool.specs.Fences.{FencesMade, is_signalled}
use Rattle.fill_jobs.specs.Buffers.{IsBufferFor, IsPictureFor, IsPictureOf}
use Rattle.device_rows.specs.Jobs.{fill_job, fill_job_in, fill_job_of, is_fill_out, IsFillJobOut, IsFillOutFor, sensor_job, sensor_job_of}
use Rattle.device_rows.specs.Kept.{is_made}
use Rattle.device_rows.specs.Ready.{is_passed, is_sensor_out, is_same_state, target_passes}
use Rattle.device_rows.specs.Rows.{row_at, target_at}
use Rattle.device_core.specs.declared.buffers.Held.{Held}
use Rattle.device_core.specs.declared.buffers.Held.TheVariants.{Waiting as HeldWaiting, Filled as HeldFilled}
use Rattle.device_core.specs.Held.{Waiting as Place}
use Rattle.cam_types.specs.declared.row.SensorPlace.{SensorPlace}
use Rattle.cam_types.specs.declared.row.SensorPlace.TheVariants.{NotYet, Home}
use Rattle.device_core.specs.declared.readouts.Slot.{Slot}
use Rattle.device_core.specs.declared.readouts.Slot.TheVariants.{Spare, Home as SlotHome, Away}
use Rattle.device_core.specs.Kept.{fence_number, filled_for, held_by, IsKept, slot_by, slot_of, waiting_for}
use Rattle.device_core.specs.Steps.{fill_job_for, IsBackAt, ShowsAt, waiter_kept}
use Rattle.device_core.specs.Stored.{specs_of, views}
use Rattle.device_rows.specs.TableRows.{parked_for, row_of, Rows}
use Rattle.request_checks.specs.declared.plan.Plan.{Plan}
use Rattle.device_core.proofs.Ops.{is-target, IsTarget, met, taken-is}
use Rattle.device_core.proofs.Steps.{Stands, stands}

spec-at : (specs : List StreamSpec) (row : RowView) (s : ℕ) (g : TargetView) (spec : StreamSpec) → IsTarget specs row s g spec → slice_get specs s ≡ Some spec
spec-at specs row s g spec tg = rw (← tg.stream) tg.spec_is

-- a buffer that shows the target's picture
pub shows : (specs : List StreamSpec) (n s : ℕ) (rows : List RowView) (row : RowView) (g : TargetView) (spec : StreamSpec) (pixels : Shown) (digest : List ℕ) → row_at n rows ≡ Some row → IsTarget specs row s g spec → IsPictureFor spec row.settings row.frame.0 g.buffer pixels digest → ShowsAt specs n s rows pixels digest
shows specs n s rows row g spec pixels digest at tg h = rw (at, tg.found, spec-at specs row s g spec tg) h

pub shows-job : (specs : List StreamSpec) (n s : ℕ) (rows : List RowView) (row : RowView) (g : TargetView) (spec : StreamSpec) (job : JobView) (pixels : Shown) (digest : List ℕ) → row_at n rows ≡ Some row → IsTarget specs row s g spec → job ≡ fill_job row g spec → IsPictureOf job pixels digest → ShowsAt specs n s rows pixels digest
shows-job specs n s rows row g spec job pixels digest at tg is h =
    shows specs n s rows row g spec pixels digest at tg (let h' : IsPictureOf (fill_job row g spec) pixels digest = rw is at h in h')

-- what is taken is filled, or waits
pub job-of : (row : RowView) (g : TargetView) (spec : StreamSpec) (taken : Option Held) (held : Held) (job : JobView) → taken ≡ Some held → held ≡ HeldFilled job → taken ≡ Some (filled_for row g spec) → job ≡ fill_job row g spec
job-of row g spec taken held job is which filled =
    let both : Some (HeldFilled job) ≡ Some (HeldFilled (fill_job row g spec)) = ap (λ (z : Held). Some z) (sym which) ∙ (sym is ∙ filled) in
    cc

pub not-filled : (row : RowView) (g : TargetView) (spec : StreamSpec) (taken : Option Held) (held : Held) (place : Place) → taken ≡ Some held → held ≡ HeldWaiting place → taken ≡ Some (filled_for row g spec) → ⊥
not-filled row g spec taken held place is which filled =
    let both : Some (HeldWaiting place) ≡ Some (HeldFilled (fill_job row g spec)) = ap (λ (z : Held). Some z) (sym which) ∙ (sym is ∙ filled) in
    cc

pub not-none : (held : Held) (taken : Option Held) → taken ≡ None → taken ≡ Some held → ⊥
not-none held taken none some = let both : None ≡ Some held = sym none ∙ some in cc

pub place-of : (g : TargetView) (spec : StreamSpec) (taken : Option Held) (held : Held) (place : Place) → taken ≡ Some held → held ≡ HeldWaiting place → taken ≡ Some (waiting_for g spec) → place ≡ record { buffer = g.buffer; spec = spec; fence = fence_number g.fence }
place-of g spec taken held place is which waiting =
    let both : Some (HeldWaiting place) ≡ Some (HeldWaiting (record { buffer = g.buffer; spec = spec; fence = fence_number g.fence })) = ap (λ (z : Held). Some z) (sym which) ∙ (sym is ∙ waiting) in
    cc

pub not-waiting : (g : TargetView) (spec : StreamSpec) (taken : Option Held) (held : Held) (job : JobView) → taken ≡ Some held → held ≡ HeldFilled job → taken ≡ Some (waiting_for g spec) → ⊥
not-waiting g spec taken held job is which waiting =
    let both : Some (HeldFilled job) ≡ Some (waiting_for g spec) = ap (λ (z : Held). Some z) (sym which) ∙ (sym is ∙ waiting) in
    cc

-- the state of a buffer that waits
pub waiting-state : (st : TargetState) → is_same_state st Waiting ≡ true → st ≡ Waiting
waiting-state Waiting h = refl
waiting-state Out h = absurd (false≢true h)
waiting-state Filled h = absurd (false≢true h)
waiting-state ReturnedEarly h = absurd (false≢true h)
waiting-state EarlyFilled h = absurd (false≢true h)
waiting-state ReturnedOk h = absurd (false≢true h)
waiting-state ReturnedFailed h = absurd (false≢true h)

pub out-state : (st : TargetState) → is_same_state st Out ≡ true → st ≡ Out
out-state Out h = refl
out-state Waiting h = absurd (false≢true h)
out-state Filled h = absurd (false≢true h)
out-state ReturnedEarly h = absurd (false≢true h)
out-state EarlyFilled h = absurd (false≢true h)
out-state ReturnedOk h = absurd (false≢true h)
out-state ReturnedFailed h = absurd (false≢true h)

pub some-none : {X : Type 0} (x : X) (o : Option X) → o ≡ None → o ≡ Some x → ⊥
some-none x o none some = let both : None ≡ Some x = sym none ∙ some in cc

pub some-same : {X : Type 0} (x y : X) (o : Option X) → o ≡ Some x → o ≡ Some y → x ≡ y
some-same x y o is is' = let both : Some x ≡ Some y = sym is ∙ is' in cc

-- ---- fences

pub made-below : (fences : ℕ) (f : Option FenceNo) → is_made fences f ≡ true → IfSome (fence_number f) (λ n. n < fences)
made-below fences (Some f) h = ltb-true f.0 fences h
made-below fences None h = tt

pub passed-below : (fences : FencesMade) (f : Option FenceNo) → is_passed (λ n. is_signalled n fences) f ≡ true → IfSome (fence_number f) (λ n. IsTrue (is_signalled n fences))
passed-below fences (Some f) h = h
passed-below fences None h = tt

-- ---- the sensor's job

pub job-row : (o : Option RowView) (job : JobView) → sensor_job_of o ≡ Some job → (row : RowView) × (o ≡ Some row) × (is_sensor_out row.sensor ≡ true) × (sensor_job row ≡ job)
job-row None job h = absurd (cc)
job-row (Some row) job h =
    elim (cases_Bool (is_sensor_out row.sensor)) [
      | inl out ↦ (let h' = rw out at h in let same : sensor_job row ≡ job = cc in (row, refl, out, same))
      | inr home ↦ (let h' = rw home at h in absurd (cc))
    ]

-- the row and the target that a step is of, and what is taken for the target
pub record Taking (plan : Plan) (t : Rows Held) (test : RowView → TargetView → Bool) (n s : ℕ) (row : RowView) (g : TargetView) (spec : StreamSpec) : Type 0 where
  pub at : row_at n (views t.rows) ≡ Some row
  pub passed : test row g ≡ true
  pub target : IsTarget (specs_of plan) row s g spec
  pub stands : Stands plan t.rows n row
  pub parked : option_and_then (parked_for s) (row_of n t.rows) ≡ held_by g.state row g (Some spec)

pub taking : (plan : Plan) (t : Rows Held) (slots : List Slot) (spares slot_room spare_room n s : ℕ) (test : RowView → TargetView → Bool) → IsKept plan t.rows t.capacity slots spares slot_room spare_room → target_passes test s (row_at n (views t.rows)) ≡ true → (row : RowView) × (g : TargetView) × (spec : StreamSpec) × Taking plan t test n s row g spec
taking plan t slots spares slot_room spare_room n s test kept passes =
    let (row, g, m) = met test s (row_at n (views t.rows)) passes in
    let at = stands plan t.rows t.capacity slots spares slot_room spare_room n row kept m.at in
    let (spec, tg) = is-target plan t.rows n s row g at kept.offered m.found in
    (row, g, spec, record { at = m.at; passed = m.passed; target = tg; stands = at; parked = taken-is plan t.rows n s row g spec at tg })

-- ---- a buffer that comes back in error

raw-long : (width height : ℕ) → width ≡ 160 → height ≡ 120 → length_in Raw16 width height ≡ 38400
raw-long width height w h = rw (w, h) refl

yuv-long : (width height w h : ℕ) → width ≡ w → height ≡ h → length_in Yuv width height ≡ length_in Yuv w h
yuv-long width height w h same same' = rw (same, same') refl

size-of : (spec : StreamSpec) (s : Settings) (n : ℕ) (f : Format) → spec.format ≡ f → is_size_of f spec.width spec.height ≡ true → length (picture spec s n) ≡ length_in f spec.width spec.height
size-of spec s n Raw16 is size =
    let parts = and_parts (spec.width == 160) (spec.height == 120) size in
    length-picture-Raw16 spec s n is ∙ sym (raw-long spec.width spec.height (eqb-true spec.width 160 parts.0) (eqb-true spec.height 120 parts.1))
size-of spec s n Yuv is size =
    elim (cases_Bool (spec.width == 160)) [
      | inl wide ↦ (let size' = rw wide at size in let w = eqb-true spec.width 160 wide in let h = eqb-true spec.height 120 size' in length-picture-Yuv spec s n 160 120 is w h ∙ sym (yuv-long spec.width spec.height 160 120 w h))
      | inr no' ↦ (
          let size' = rw no' at size in
          elim (cases_Bool (spec.width == 80)) [
            | inl half ↦ (let size'' = rw half at size' in let w = eqb-true spec.width 80 half in let h = eqb-true spec.height 60 size'' in length-picture-Yuv spec s n 80 60 is w h ∙ sym (yuv-long spec.width spec.height 80 60 w h))
            | inr no'' ↦ (
                let size'' = rw no'' at size' in
                let parts = and_parts (spec.width == 40) (spec.height == 30) size'' in
                let w = eqb-true spec.width 40 parts.0 in
                let h = eqb-true spec.height 30 parts.1 in
                length-picture-Yuv spec s n 40 30 is w h ∙ sym (yuv-long spec.width spec.height 40 30 w h)
                )
          ]
          )
    ]
size-of spec s n (Other k) is size = absurd (false≢true size)

pub picture-buffer : (spec : StreamSpec) (s : Settings) (n : ℕ) (buffer : BufferId) (pixels : Shown) (digest : List ℕ) → is_offered spec ≡ true → IsPictureFor spec s n buffer pixels digest → IsBufferFor spec buffer pixels
picture-buffer spec s n buffer pixels digest offered shown = record {
  id = shown.id;
  bytes = ap (λ (z : List ℕ). length z) shown.bytes ∙ size-of spec s n spec.format refl offered;
  block = shown.block;
}

pub made-held : (st : TargetState) (row : RowView) (g : TargetView) (spec : StreamSpec) (fences : ℕ) (held : Held) → (is_same_state st Waiting || is_same_state st Filled) ≡ true → (not (is_same_state st Waiting) || is_made fences g.fence) ≡ true → held_by st row g (Some spec) ≡ Some held → IsMadeHeld fences held
made-held Waiting row g spec fences held state made' is = let same : waiting_for g spec ≡ held = cc in rw (← same) (made-below fences g.fence made')
made-held Filled row g spec fences held state made' is = let same : filled_for row g spec ≡ held = cc in rw (← same) tt
made-held Out row g spec fences held state made' is = absurd (false≢true state)
made-held ReturnedEarly row g spec fences held state made' is = absurd (false≢true state)
made-held EarlyFilled row g spec fences held state made' is = absurd (false≢true state)
made-held ReturnedOk row g spec fences held state made' is = absurd (false≢true state)
made-held ReturnedFailed row g spec fences held state made' is = absurd (false≢true state)

unpacked-parts : (st : TargetState) (row : RowView) (g : TargetView) (spec : StreamSpec) (fences : FencesMade) (held : Held) (parked : Parked) → is_offered spec ≡ true → (is_same_state st Waiting || is_same_state st Filled) ≡ true → held_by st row g (Some spec) ≡ Some held → IsUnpacked fences held parked → IsBufferFor spec g.buffer parked.pixels × (parked.waiter ≡ (if is_same_state st Waiting then waiter_kept fences (fence_number g.fence) else None))
unpacked-parts Waiting row g spec fences held parked offered state is back = let same : held ≡ waiting_for g spec = cc in let back' = rw same at back in (back'.0, back'.1)
unpacked-parts Filled row g spec fences held parked offered state is back =
    let same : held ≡ filled_for row g spec = cc in
    let back' : IsUnpacked fences (filled_for row g spec) parked = rw same at back in
    (picture-buffer spec row.settings row.frame.0 g.buffer parked.pixels back'.0.0 offered back'.0.1, back'.1)
unpacked-parts Out row g spec fences held parked offered state is back = absurd (false≢true state)
unpacked-parts ReturnedEarly row g spec fences held parked offered state is back = absurd (false≢true state)
unpacked-parts EarlyFilled row g spec fences held parked offered state is back = absurd (false≢true state)
unpacked-parts ReturnedOk row g spec fences held parked offered state is back = absurd (false≢true state)
unpacked-parts ReturnedFailed row g spec fences held parked offered state is back = absurd (false≢true state)

pub back-at : (specs : List StreamSpec) (n s : ℕ) (rows : List RowView) (row : RowView) (g : TargetView) (spec : StreamSpec) (fences : FencesMade) (held : Held) (parked : Parked) → row_at n rows ≡ Some row → IsTarget specs row s g spec → (is_same_state g.state Waiting || is_same_state g.state Filled) ≡ true → held_by g.state row g (Some spec) ≡ Some held → IsUnpacked fences held parked → IsBackAt fences specs n s rows parked
back-at specs n s rows row g spec fences held parked at tg state is back =
    let parts = unpacked-parts g.state row g spec fences held parked tg.offered state is back in
    rw (at, tg.found, spec-at specs row s g spec tg) (record { pixels = parts.0; waiter = parts.1 })

-- what may come back in error is held
pub failing-held : (st : TargetState) (row : RowView) (g : TargetView) (spec : StreamSpec) → (is_same_state st Waiting || is_same_state st Filled) ≡ true → held_by st row g (Some spec) ≡ None → ⊥
failing-held Waiting row g spec state none = let both : Some (waiting_for g spec) ≡ None = none in cc
failing-held Filled row g spec state none = let both : Some (filled_for row g spec) ≡ None = none in cc
failing-held Out row g spec state none = absurd (false≢true state)
failing-held ReturnedEarly row g spec state none = absurd (false≢true state)
failing-held EarlyFilled row g spec state none = absurd (false≢true state)
failing-held ReturnedOk row g spec state none = absurd (false≢true state)
failing-held ReturnedFailed row g spec state none = absurd (false≢true state)

-- ---- slots

pub spare-home : (slot : Slot) (x : JobView) → slot ≡ SlotHome x → slot ≡ Spare 0 → ⊥
spare-home slot x is is' = let both : SlotHome x ≡ Spare 0 = sym is ∙ is' in cc

pub spare-away : (slot : Slot) → slot ≡ Away → slot ≡ Spare 0 → ⊥
spare-away slot is is' = let both : Away ≡ Spare 0 = sym is ∙ is' in cc

pub home-spare : (slot : Slot) (k : ℕ) (x : JobView) → slot ≡ Spare k → slot ≡ SlotHome x → ⊥
home-spare slot k x is is' = let both : Spare k ≡ SlotHome x = sym is ∙ is' in cc

pub home-away : (slot : Slot) (x : JobView) → slot ≡ Away → slot ≡ SlotHome x → ⊥
home-away slot x is is' = let both : Away ≡ SlotHome x = sym is ∙ is' in cc

pub home-same : (slot : Slot) (x y : JobView) → slot ≡ SlotHome x → slot ≡ SlotHome y → x ≡ y
home-same slot x y is is' = let both : SlotHome x ≡ SlotHome y = sym is ∙ is' in cc

-- what stands in the slot of a row
pub slot-spare : (row : RowView) → row.sensor ≡ NotYet → slot_of row ≡ Spare 0
slot-spare row is = ap (λ (z : SensorPlace). slot_by z row) is

pub slot-home : (row : RowView) → row.sensor ≡ Home → slot_of row ≡ SlotHome (sensor_job row)
slot-home row is = ap (λ (z : SensorPlace). slot_by z row) is

-- ---- a stage's job

pub job-for : (specs : List StreamSpec) (n s : ℕ) (rows : List RowView) (row : RowView) (g : TargetView) (spec : StreamSpec) → row_at n rows ≡ Some row → IsTarget specs row s g spec → fill_job_for specs s (row_at n rows) ≡ Some (fill_job row g spec)
job-for specs n s rows row g spec at tg = rw (at, tg.found, spec-at specs row s g spec tg) refl

pub job-same : (row row' : RowView) (g g' : TargetView) (spec spec' : StreamSpec) → row ≡ row' → g ≡ g' → spec ≡ spec' → fill_job row g spec ≡ fill_job row' g' spec'
job-same row row' g g' spec spec' r t s = ap (λ (z : RowView). fill_job z g spec) r ∙ (ap (λ (z : TargetView). fill_job row' z spec) t ∙ ap (λ (z : StreamSpec). fill_job row' g' z) s)

pub fence-made : (fences : ℕ) (place : Place) (g : TargetView) (spec : StreamSpec) → place ≡ record { buffer = g.buffer; spec = spec; fence = fence_number g.fence } → is_made fences g.fence ≡ true → IfSome place.fence (λ n. n < fences)
fence-made fences place g spec is h = let e : place.fence ≡ fence_number g.fence = ap (λ (z : Place). z.fence) is in rw e (made-below fences g.fence h)

pub fence-passed : (fences : FencesMade) (place : Place) (g : TargetView) (spec : StreamSpec) → place ≡ record { buffer = g.buffer; spec = spec; fence = fence_number g.fence } → is_passed (λ n. is_signalled n fences) g.fence ≡ true → IfSome place.fence (λ n. IsTrue (is_signalled n fences))
fence-passed fences place g spec is h = let e : place.fence ≡ fence_number g.fence = ap (λ (z : Place). z.fence) is in rw e (passed-below fences g.fence h)

-- the row and the target of a stage's job that is out
pub record IsOut (specs : List StreamSpec) (o : Option RowView) (s : ℕ) (job : JobView) (row : RowView) (g : TargetView) (spec : StreamSpec) : Type 0 where
  pub at : o ≡ Some row
  pub found : target_at s row ≡ Some g
  pub out : is_fill_out g.state ≡ true
  pub spec_is : slice_get specs s ≡ Some spec
  pub same : fill_job row g spec ≡ job

out-with : (row : RowView) (o : Option TargetView) (p : Option StreamSpec) (job : JobView) → fill_job_of row o p ≡ Some job → (g : TargetView) × (spec : StreamSpec) × (o ≡ Some g) × (p ≡ Some spec) × (is_fill_out g.state ≡ true) × (fill_job row g spec ≡ job)
out-with row (Some g) (Some spec) job h =
    elim (cases_Bool (is_fill_out g.state)) [
      | inl out ↦ (let h' = rw out at h in let same : fill_job row g spec ≡ job = cc in (g, spec, refl, refl, out, same))
      | inr in' ↦ (let h' = rw in' at h in absurd (cc))
    ]
out-with row (Some g) None job h = absurd (cc)
out-with row None (Some spec) job h = absurd (cc)
out-with row None None job h = absurd (cc)

out-in : (specs : List StreamSpec) (s : ℕ) (o : Option RowView) (job : JobView) → fill_job_in specs s o ≡ Some job → (row : RowView) × (g : TargetView) × (spec : StreamSpec) × IsOut specs o s job row g spec
out-in specs s (Some row) job h =
    let (g, spec, found, is, out, same) = out-with row (target_at s row) (slice_get specs s) job h in
    (row, g, spec, record { at = refl; found = found; out = out; spec_is = is; same = same })
out-in specs s None job h = absurd (cc)

pub is-out : (specs : List StreamSpec) (rows : List RowView) (job : JobView) (target : FillTarget) → job.fill ≡ Some target → IsFillJobOut specs rows job → (row : RowView) × (g : TargetView) × (spec : StreamSpec) × IsOut specs (row_at job.frame.0 rows) target.stream.0 job row g spec
is-out specs rows job target fill out =
    let P : Option FillTarget → Type 0 = λ z. IsFillOutFor specs rows job z in
    let out' = subst P fill out in
    out-in specs target.stream.0 (row_at job.frame.0 rows) job out'
