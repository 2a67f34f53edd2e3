-- No step of a frame without a row is ready, nor a release of an earlier configuration's buffer; a signal is ready
-- where its fence isn't signalled.
use Rattle.std.proofs.Common.{◌≡◌, ℕ, ◌==◌, ◌<◌, Bool, true, false, ◌&&◌, not, if◌then◌else◌, List, [], ◌∷◌, Option, Some, None, refl, sym, ap, ◌∙◌, inl, inr, arith, find, is_some, length, nat_le, nat_lt, slice_index_or}
use Rattle.std.specs.Option.{option_map}
use Rattle.std.proofs.lemmas.Bool.{cases_Bool, false≢true}
use Rattle.std.proofs.lemmas.Bool.Decides.{nat_tests}
use Rattle.cam_types.specs.declared.number.StreamIx.{StreamIx}
use Rattle.cam_types.specs.declared.row.RowView.{RowView}
use Rattle.cam_types.specs.declared.row.TargetState.TheVariants.{EarlyFilled}
use Rattle.cam_types.specs.declared.script.Fault.{Fault}
use Rattle.cam_types.specs.declared.script.Script.{Script}
use Rattle.trace_model.specs.declared.entry.Entry.{Entry}
use Rattle.trace_model.specs.declared.entry.Entry.TheVariants.{Signal as SignalEntry}
use Rattle.run_model.specs.declared.step.StepName.{StepName}
use Rattle.run_model.specs.declared.step.StepName.TheVariants.{Release, Signal, Fail, ReturnFailed, SensorDone, Partial, TakeFill, FillDone, Deliver, Early, Finish}
use Rattle.run_model.specs.Ready.{adding, silent, where_entry}
use Rattle.device_rows.specs.declared.entry.ErrorEntry.{ErrorEntry}
use Rattle.device_rows.specs.declared.entry.ErrorEntry.TheVariants.{Device}
use Rattle.state_facts.specs.Homes.{signalled_in}
use Rattle.device_rows.specs.Jobs.{fill_job_in, sensor_job_of}
use Rattle.device_rows.specs.Ready.{error_of, fails_device_at, is_failing, is_same_state, may_deliver, may_fill, may_go_early, may_return_failed, next_error, partial_of, target_passes}
use Rattle.device_rows.specs.Rows.{row_at, target_in}
use Rattle.run_rows.specs.Entries.{early_entry, error_entry, failed_entry, filled_entry, part_entry}
use Rattle.service_parts.specs.Moves.{digest_by, early_fence_by, late_entry}
use Rattle.service_parts.specs.Parts.{Parts}
use Rattle.service_core.specs.Candidates.{is_ready_by}

-- ---- steps of a frame without a row

-- the device fails at a frame only where its row stands
failing-stands : (faults : List Fault) (test : RowView → Bool) (n : ℕ) (rows : List RowView) → row_at n rows ≡ None → is_failing faults n (find test rows) ≡ false
failing-stands faults test n [] none = refl
failing-stands faults test n (row ∷ rows) none = elim (cases_Bool (row.frame.0 == n)) [
  | inl here ↦ (let none' = rw here at none in absurd (cc))
  | inr other ↦ (
      let none' : row_at n rows ≡ None = rw other at none in
      elim (cases_Bool (test row)) [
        | inl found ↦ rw (found, other) refl
        | inr next ↦ rw next (failing-stands faults test n rows none')
      ]
      )
]

error-by : (faults : List Fault) (rows : List RowView) (fails : Bool) (o : Option RowView) → fails ≡ false → o ≡ None → ◌≡◌ {A = Option ErrorEntry} (if fails then Some Device else error_of faults rows o) None
error-by faults rows false None fails none = refl
error-by faults rows false (Some row) fails none = absurd (cc)
error-by faults rows true o fails none = absurd (false≢true (sym fails))

error-stands : (faults : List Fault) (rows : List RowView) (n : ℕ) → row_at n rows ≡ None → next_error faults rows n ≡ None
error-stands faults rows n none =
    error-by faults rows (fails_device_at faults rows n) (row_at n rows)
    (failing-stands faults (λ row. not (is_some row.shutter) && not row.request_error) n rows none) none

pub fail-unready : (script : Script) (p : Parts) (n : ℕ) → row_at n p.rows ≡ None → is_ready_by script p (Fail (record { 0 = n })) ≡ false
fail-unready script p n none =
    ap (λ (o : Option ErrorEntry). is_some (adding (Fail (record { 0 = n })) (option_map error_entry o))) (error-stands script.faults p.rows n none)

-- each other step asks for the row first
unready : (n : ℕ) (rows : List RowView) (f : Option RowView → Bool) → f None ≡ false → row_at n rows ≡ None → f (row_at n rows) ≡ false
unready n rows f idle none = ap f none ∙ idle

pub failed-unready : (script : Script) (p : Parts) (n : ℕ) (s : StreamIx) → row_at n p.rows ≡ None → is_ready_by script p (ReturnFailed (record { 0 = n }) s) ≡ false
failed-unready script p n s none = unready n p.rows (λ r. is_some (adding (ReturnFailed (record { 0 = n }) s) (where_entry (target_passes may_return_failed s.0 r) (option_map (failed_entry (λ f. signalled_in p.buffers f) n s.0) (target_in n s.0 p.rows))))) refl none

pub sensor-unready : (script : Script) (p : Parts) (n : ℕ) → row_at n p.rows ≡ None → is_ready_by script p (SensorDone (record { 0 = n })) ≡ false
sensor-unready script p n none = unready n p.rows (λ r. is_some (silent (SensorDone (record { 0 = n })) (is_some (sensor_job_of r)))) refl none

pub part-unready : (script : Script) (p : Parts) (n : ℕ) → row_at n p.rows ≡ None → is_ready_by script p (Partial (record { 0 = n })) ≡ false
part-unready script p n none = unready n p.rows (λ r. is_some (adding (Partial (record { 0 = n })) (option_map (part_entry n) (partial_of script.faults p.rows r)))) refl none

pub take-unready : (script : Script) (p : Parts) (n : ℕ) (s : StreamIx) → row_at n p.rows ≡ None → is_ready_by script p (TakeFill (record { 0 = n }) s) ≡ false
take-unready script p n s none = unready n p.rows (λ r. is_some (silent (TakeFill (record { 0 = n }) s) (target_passes (may_fill script.faults (λ f. signalled_in p.buffers f)) s.0 r))) refl none

pub done-unready : (script : Script) (p : Parts) (n : ℕ) (s : StreamIx) → row_at n p.rows ≡ None → is_ready_by script p (FillDone (record { 0 = n }) s) ≡ false
done-unready script p n s none = unready n p.rows (λ r. is_some (silent (FillDone (record { 0 = n }) s) (is_some (fill_job_in p.client.streams s.0 r)))) refl none

pub delivery-unready : (script : Script) (p : Parts) (n : ℕ) (s : StreamIx) → row_at n p.rows ≡ None → is_ready_by script p (Deliver (record { 0 = n }) s) ≡ false
delivery-unready script p n s none = unready n p.rows (λ r. is_some (adding (Deliver (record { 0 = n }) s) (where_entry (target_passes (may_deliver script.faults p.rows) s.0 r) (option_map (filled_entry (digest_by p n s.0) n s.0) (target_in n s.0 p.rows))))) refl none

-- (an early return asks first whether the script has them)
where-never : (step : StepName) (test : Bool) (e : Option Entry) → is_some (adding step (where_entry (test && false) e)) ≡ false
where-never step true e = refl
where-never step false e = refl

pub early-unready : (script : Script) (p : Parts) (n : ℕ) (s : StreamIx) → row_at n p.rows ≡ None → is_ready_by script p (Early (record { 0 = n }) s) ≡ false
early-unready script p n s none =
    let entry = option_map (early_entry (length p.buffers.late) n s.0) (target_in n s.0 p.rows) in
    unready n p.rows (λ r. is_some (adding (Early (record { 0 = n }) s) (where_entry (script.early && target_passes (may_go_early script.faults p.rows) s.0 r) entry))) (where-never (Early (record { 0 = n }) s) script.early entry) none

pub finish-unready : (script : Script) (p : Parts) (n : ℕ) (s : StreamIx) → row_at n p.rows ≡ None → is_ready_by script p (Finish (record { 0 = n }) s) ≡ false
finish-unready script p n s none = unready n p.rows (λ r. is_some (adding (Finish (record { 0 = n }) s) (where_entry (target_passes (λ row target. is_same_state target.state EarlyFilled) s.0 r) (option_map (late_entry (digest_by p n s.0)) (early_fence_by p n s.0))))) refl none

-- ---- releases of earlier buffers

pub release-unready : (script : Script) (p : Parts) (b : ℕ) → b < p.buffers.first → is_ready_by script p (Release (record { 0 = b })) ≡ false
release-unready script p b below =
    let low : nat_le p.buffers.first b ≡ false = grind (arith, nat_tests, below) in
    rw low refl

-- ---- signals

signal-by : (step : StepName) (e : Entry) (released waits : Bool) → released ≡ true → is_some (adding step (if released && waits then Some e else None)) ≡ waits
signal-by step e true true is = refl
signal-by step e true false is = refl
signal-by step e false waits is = absurd (false≢true is)

-- a fence that was released may be signalled exactly where it isn't yet
pub signal-ready : (script : Script) (p : Parts) (f : ℕ) → f < length p.buffers.signalled → is_ready_by script p (Signal (record { 0 = f })) ≡ not (slice_index_or p.buffers.signalled f false)
signal-ready script p f below =
    signal-by (Signal (record { 0 = f })) (SignalEntry (record { 0 = f })) (nat_lt f (length p.buffers.signalled)) (not (slice_index_or p.buffers.signalled f false)) (grind (arith, nat_tests, below))
