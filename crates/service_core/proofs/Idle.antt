-- Where the row of a frame speaks against a kind of step, no step of the kind is ready for the frame.
use Rattle.std.proofs.Common.{◌≡◌, ℕ, ◌==◌, Bool, true, false, ◌&&◌, ◌||◌, not, if◌then◌else◌, List, [], ◌∷◌, Option, Some, None, refl, sym, ap, ◌∙◌, inl, inr, arith, filter, find, is_some, length, map, slice_get}
use Rattle.std.specs.List.{list_any}
use Rattle.std.specs.Option.{option_map}
use Rattle.std.proofs.lemmas.Bool.{cases_Bool, false≢true, or_parts}
use Rattle.std.proofs.lemmas.Bool.Decides.{nat_tests}
use Rattle.cam_types.specs.Four.{four_list}
use Rattle.cam_types.specs.Rows.{awaits_metadata}
use Rattle.cam_types.specs.declared.number.StreamIx.{StreamIx}
use Rattle.cam_types.specs.declared.partial_result.PartialResult.{PartialResult}
use Rattle.cam_types.specs.declared.row.RowVerdict.{RowVerdict}
use Rattle.cam_types.specs.declared.row.RowVerdict.TheVariants.{Request, Parts as PartsVerdict, Nothing}
use Rattle.cam_types.specs.declared.row.RowView.{RowView}
use Rattle.cam_types.specs.declared.row.TargetState.TheVariants.{Waiting, Out, EarlyFilled}
use Rattle.cam_types.specs.declared.row.TargetView.{TargetView}
use Rattle.cam_types.specs.declared.script.Fault.{Fault}
use Rattle.cam_types.specs.declared.script.Script.{Script}
use Rattle.cam_types.specs.declared.stream.StreamSpec.{StreamSpec}
use Rattle.device_rows.specs.Next.{next_due}
use Rattle.device_rows.specs.declared.entry.ErrorEntry.{ErrorEntry}
use Rattle.device_rows.specs.declared.entry.ErrorEntry.TheVariants.{Device}
use Rattle.device_rows.specs.Due.{fails_in_part, fails_whole, is_awaited, is_bare, is_some_true, is_true_at, misses_at, misses_metadata, missing_buffers, verdict_of}
use Rattle.trace_model.specs.declared.entry.Entry.{Entry}
use Rattle.run_model.specs.declared.step.StepName.{StepName}
use Rattle.run_model.specs.declared.step.StepName.TheVariants.{Fail, ReturnFailed, SensorDone, Partial, TakeFill, FillDone, Deliver, Early, Finish}
use Rattle.run_model.specs.Ready.{adding, silent, where_entry}
use Rattle.state_facts.specs.Homes.{signalled_in}
use Rattle.device_rows.specs.Faults.{fault_at, faults_of}
use Rattle.device_rows.specs.Jobs.{fill_job_in, fill_job_of, is_fill_out, sensor_job_of}
use Rattle.device_rows.specs.Ready.{error_of, fails_device_at, is_failing, is_home, is_passed, is_sound, is_same_state, may_deliver, may_end_metadata, may_fill, may_go_early, may_return, may_return_failed, next_error, next_exposure, partial_of, part_with, passes_at, target_passes}
use Rattle.device_rows.specs.Rows.{row_at, target_in}
use Rattle.run_rows.specs.Entries.{early_entry, error_entry, failed_entry, filled_entry, part_entry}
use Rattle.service_parts.specs.Moves.{digest_by, early_fence_by, late_entry}
use Rattle.service_parts.specs.Parts.{Parts}
use Rattle.service_core.specs.Candidates.{is_ready_by}
use Rattle.service_core.specs.Looks.{fits, may_have, may_have_some}
use Rattle.service_core.specs.Walks.{frame_step, target_step}
use Rattle.service_core.specs.declared.frames.OfFrame.{OfFrame}
use Rattle.service_core.specs.declared.frames.OfFrame.TheVariants as frame
use Rattle.service_core.specs.declared.frames.OfTarget.{OfTarget}
use Rattle.service_core.specs.declared.frames.OfTarget.TheVariants as target
use Rattle.service_core.proofs.Lists.{keeps-none}
use Rattle.basic_lemmas.proofs.Tests.{and-false}

-- ---- targets

-- where none of the targets fits, the one that is found doesn't pass a test that asks for more
passes-none : (fit test : TargetView → Bool) (found : TargetView → Bool) (ts : List TargetView) → list_any fit ts ≡ false → ((t : TargetView) → fit t ≡ false → test t ≡ false) → passes_at test (find found ts) ≡ false
passes-none fit test found [] none more = refl
passes-none fit test found (t ∷ ts) none more =
    let parts = or_parts (fit t) (list_any fit ts) none in
    elim (cases_Bool (found t)) [
      | inl here ↦ rw here (more t parts.0)
      | inr next ↦ rw next (passes-none fit test found ts parts.1 more)
    ]

-- a stage has none of them
job-none : (row : RowView) (found : TargetView → Bool) (ts : List TargetView) (spec : Option StreamSpec) → list_any (λ t. is_fill_out t.state) ts ≡ false → is_some (fill_job_of row (find found ts) spec) ≡ false
job-none row found [] spec none = refl
job-none row found (t ∷ ts) spec none =
    let parts = or_parts (is_fill_out t.state) (list_any (λ u. is_fill_out u.state) ts) none in
    elim (cases_Bool (found t)) [
      | inl here ↦ rw here (one spec parts.0)
      | inr next ↦ rw next (job-none row found ts spec parts.1)
    ]
  where
    one : (spec : Option StreamSpec) → is_fill_out t.state ≡ false → is_some (fill_job_of row (Some t) spec) ≡ false
    one None out = refl
    one (Some spec) out = rw out refl

-- a buffer comes early only where the script has it
early-none : (early : Bool) (rest found : TargetView → Bool) (ts : List TargetView) → list_any (λ t. early && is_same_state t.state Out) ts ≡ false → (early && passes_at (λ t. is_same_state t.state Out && rest t) (find found ts)) ≡ false
early-none false rest found ts none = refl
early-none true rest found ts none =
    passes-none (λ t. is_same_state t.state Out) (λ t. is_same_state t.state Out && rest t) found ts none (λ t out. rw out refl)

take-by : (sound waits home passed : Bool) → (home && waits) ≡ false → ((sound && waits) && (home && passed)) ≡ false
take-by false waits home passed is = refl
take-by true false home passed is = refl
take-by true true false passed is = refl
take-by true true true passed is = absurd (cc)

entry-none : (step : StepName) (test : Bool) (e : Option Entry) → test ≡ false → is_some (adding step (where_entry test e)) ≡ false
entry-none step false e is = refl
entry-none step true e is = absurd (cc)

silent-none : (step : StepName) (test : Bool) → test ≡ false → is_some (silent step test) ≡ false
silent-none step false is = refl
silent-none step true is = absurd (cc)

-- what is asked of the row that a frame finds
from-row : (f : Option RowView → Bool) (n : ℕ) (rows : List RowView) (row : RowView) → row_at n rows ≡ Some row → f (Some row) ≡ false → f (row_at n rows) ≡ false
from-row f n rows row own idle = ap f own ∙ idle

pub target-idle : (script : Script) (p : Parts) (k : OfTarget) (row : RowView) (s : StreamIx) → row_at row.frame.0 p.rows ≡ Some row → may_have_some script k row ≡ false → is_ready_by script p (target_step k row.frame s) ≡ false
target-idle script p target.ReturnFailed row s own none =
    from-row (λ r. is_some (adding (ReturnFailed row.frame s) (where_entry (target_passes may_return_failed s.0 r) (option_map (failed_entry (λ f. signalled_in p.buffers f) row.frame.0 s.0) (target_in row.frame.0 s.0 p.rows))))) row.frame.0 p.rows row own
    (entry-none (ReturnFailed row.frame s) _ _ (passes-none (fits script target.ReturnFailed row) (may_return_failed row) (λ t. t.stream.0 == s.0) (four_list row.targets) none (λ t not'. rw not' refl)))
target-idle script p target.TakeFill row s own none =
    let signalled = λ (f : ℕ). signalled_in p.buffers f in
    from-row (λ r. is_some (silent (TakeFill row.frame s) (target_passes (may_fill script.faults signalled) s.0 r))) row.frame.0 p.rows row own
    (silent-none (TakeFill row.frame s) _ (passes-none (fits script target.TakeFill row) (may_fill script.faults signalled row) (λ t. t.stream.0 == s.0) (four_list row.targets) none (λ t not'. take-by (is_sound script.faults row t) (is_same_state t.state Waiting) (is_home row.sensor) (is_passed signalled t.fence) not')))
target-idle script p target.FillDone row s own none =
    from-row (λ r. is_some (silent (FillDone row.frame s) (is_some (fill_job_in p.client.streams s.0 r)))) row.frame.0 p.rows row own
    (silent-none (FillDone row.frame s) _ (job-none row (λ t. t.stream.0 == s.0) (four_list row.targets) (slice_get p.client.streams s.0) none))
target-idle script p target.Deliver row s own none =
    from-row (λ r. is_some (adding (Deliver row.frame s) (where_entry (target_passes (may_deliver script.faults p.rows) s.0 r) (option_map (filled_entry (digest_by p row.frame.0 s.0) row.frame.0 s.0) (target_in row.frame.0 s.0 p.rows))))) row.frame.0 p.rows row own
    (entry-none (Deliver row.frame s) _ _ (passes-none (fits script target.Deliver row) (may_deliver script.faults p.rows row) (λ t. t.stream.0 == s.0) (four_list row.targets) none (λ t not'. rw not' refl)))
target-idle script p target.Early row s own none =
    from-row (λ r. is_some (adding (Early row.frame s) (where_entry (script.early && target_passes (may_go_early script.faults p.rows) s.0 r) (option_map (early_entry (length p.buffers.late) row.frame.0 s.0) (target_in row.frame.0 s.0 p.rows))))) row.frame.0 p.rows row own
    (entry-none (Early row.frame s) _ _ (early-none script.early (λ t. may_return script.faults p.rows row t) (λ t. t.stream.0 == s.0) (four_list row.targets) none))
target-idle script p target.Finish row s own none =
    from-row (λ r. is_some (adding (Finish row.frame s) (where_entry (target_passes (λ row target. is_same_state target.state EarlyFilled) s.0 r) (option_map (late_entry (digest_by p row.frame.0 s.0)) (early_fence_by p row.frame.0 s.0))))) row.frame.0 p.rows row own
    (entry-none (Finish row.frame s) _ _ (passes-none (fits script target.Finish row) (λ t. is_same_state t.state EarlyFilled) (λ t. t.stream.0 == s.0) (four_list row.targets) none (λ t not'. not')))

-- ---- errors

verdict-by : {V : Type 0} (r q n : V) (whole part metadata buffers : Bool) → whole ≡ false → metadata ≡ false → buffers ≡ false → (if whole then r else (if part && (metadata || buffers) then q else n)) ≡ n
verdict-by r q n false false metadata buffers a b c = refl
verdict-by r q n false true false false a b c = refl
verdict-by r q n false true false true a b c = absurd (cc)
verdict-by r q n false true true buffers a b c = absurd (cc)
verdict-by r q n true part metadata buffers a b c = absurd (cc)

-- no buffer is missing that has no fault, of a row that no stop took
at-none : (n : ℕ) (o : Option TargetView) → is_true_at (misses_at false (fault_at [] n o) o) ≡ false
at-none n None = refl
at-none n (Some t) = and-false (is_awaited t)

nothing : (row : RowView) → row.stopped ≡ false → verdict_of row (faults_of [] row) ≡ Nothing
nothing row going =
    let faults = faults_of [] row in
    let whole : fails_whole row faults ≡ false = rw going (and-false (is_bare row)) in
    let metadata : misses_metadata row faults ≡ false = rw going (and-false (awaits_metadata row)) in
    let buffers : is_some_true (missing_buffers row faults) ≡ false = rw (going, at-none row.frame.0 row.targets.a, at-none row.frame.0 row.targets.b, at-none row.frame.0 row.targets.c, at-none row.frame.0 row.targets.d) refl in
    verdict-by Request (PartsVerdict (misses_metadata row faults) (missing_buffers row faults)) Nothing (fails_whole row faults) (fails_in_part row faults) (misses_metadata row faults) (is_some_true (missing_buffers row faults)) whole metadata buffers

not-failing : (n : ℕ) (o : Option RowView) → is_failing [] n o ≡ false
not-failing n None = refl
not-failing n (Some row) = rw (and-false (not row.stopped)) (and-false (row.frame.0 == n))

error-by : (rows : List RowView) (fails : Bool) (o : Option RowView) → fails ≡ false → error_of [] rows o ≡ None → ◌≡◌ {A = Option ErrorEntry} (if fails then Some Device else error_of [] rows o) None
error-by rows false o fails none = none
error-by rows true o fails none = absurd (cc)

no-error : (faults : List Fault) (rows : List RowView) (row : RowView) → row_at row.frame.0 rows ≡ Some row → (row.stopped || not (length faults == 0)) ≡ false → next_error faults rows row.frame.0 ≡ None
no-error [] rows row own idle =
    let parts = or_parts row.stopped (not (length {A = Fault} [] == 0)) idle in
    let found : error_of [] rows (Some row) ≡ None = ap (λ (v : RowVerdict). next_due row v (may_end_metadata rows row.frame.0)) (nothing row parts.0) in
    error-by rows (fails_device_at [] rows row.frame.0) (row_at row.frame.0 rows) (not-failing row.frame.0 (next_exposure rows)) (ap (λ (o : Option RowView). error_of [] rows o) own ∙ found)
no-error (f ∷ faults) rows row own idle =
    let parts = or_parts row.stopped (not (length (f ∷ faults) == 0)) idle in
    let some : not (length (f ∷ faults) == 0) ≡ true = grind (arith, nat_tests) in
    absurd (false≢true (sym parts.1 ∙ some))

-- ---- metadata

part-none : (faults : List Fault) (rows : List RowView) (row : RowView) (shutter : Option ℕ) → (is_some shutter && awaits_metadata row) ≡ false → part_with faults rows row shutter ≡ None
part-none faults rows row None idle = refl
part-none faults rows row (Some time) idle = rw idle refl

-- ---- frames

pub frame-idle : (script : Script) (p : Parts) (k : OfFrame) (row : RowView) → row_at row.frame.0 p.rows ≡ Some row → may_have script k row ≡ false → is_ready_by script p (frame_step k row.frame) ≡ false
frame-idle script p frame.Fail row own none =
    ap (λ (o : Option ErrorEntry). is_some (adding (Fail row.frame) (option_map error_entry o))) (no-error script.faults p.rows row own none)
frame-idle script p frame.SensorDone row own none =
    from-row (λ r. is_some (silent (SensorDone row.frame) (is_some (sensor_job_of r)))) row.frame.0 p.rows row own (rw none refl)
frame-idle script p frame.Partial row own none =
    from-row (λ r. is_some (adding (Partial row.frame) (option_map (part_entry row.frame.0) (partial_of script.faults p.rows r)))) row.frame.0 p.rows row own
    (ap (λ (o : Option (ℕ × PartialResult)). is_some (adding (Partial row.frame) (option_map (part_entry row.frame.0) o))) (part-none script.faults p.rows row row.shutter none))

-- ---- what is left of the steps that are asked for

pub frame_left : (script : Script) (p : Parts) (k : OfFrame) (row : RowView) → row_at row.frame.0 p.rows ≡ Some row → may_have script k row ≡ false → filter (is_ready_by script p) (frame_step k row.frame ∷ []) ≡ []
frame_left script p k row own none = rw (frame-idle script p k row own none) refl

pub targets_left : (script : Script) (p : Parts) (k : OfTarget) (row : RowView) → row_at row.frame.0 p.rows ≡ Some row → may_have_some script k row ≡ false → filter (is_ready_by script p) (map (λ (t : TargetView). target_step k row.frame t.stream) (four_list row.targets)) ≡ []
targets_left script p k row own none =
    keeps-none (is_ready_by script p) (λ (t : TargetView). target_step k row.frame t.stream) (four_list row.targets) (λ t. target-idle script p k row t.stream own none)
