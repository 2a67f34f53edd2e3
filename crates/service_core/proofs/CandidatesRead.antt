-- The candidates after a run are those that the parts give.
use Rattle.std.proofs.Common.{◌≡◌, ℕ, false, List, [], ◌∷◌, Option, None, refl, sym, ap, ◌∙◌, arith, filter, is_some, length, map, reverse}
use Rattle.std.specs.List.{range_with_len}
use Rattle.std.proofs.lemmas.List.{append-nil}
use Rattle.cam_types.specs.Four.{four_list}
use Rattle.cam_types.specs.declared.number.FrameNo.{FrameNo}
use Rattle.cam_types.specs.declared.number.StreamIx.{StreamIx}
use Rattle.cam_types.specs.declared.row.RowView.{RowView}
use Rattle.cam_types.specs.declared.row.TargetView.{TargetView}
use Rattle.cam_types.specs.declared.script.Script.{Script}
use Rattle.trace_model.specs.declared.entry.Sent.{Sent}
use Rattle.trace_model.specs.Configuration.{made_count}
use Rattle.trace_model.specs.Frames.{frames, targets_of}
use Rattle.trace_model.specs.Open.{is_open}
use Rattle.run_model.specs.declared.step.Move.{Move}
use Rattle.run_model.specs.declared.step.StepName.{StepName}
use Rattle.run_model.specs.declared.step.StepName.TheVariants.{Send, Release, Signal, Client, DropQueued, Fail, ReturnFailed, Shutter, SensorDone, Partial, TakeFill, FillDone, Deliver, Early, Finish}
use Rattle.run_model.specs.History.{trace_of}
use Rattle.run_model.specs.Played.{candidates, for_frames, for_numbers, for_targets, steps}
use Rattle.run_model.specs.Ready.{is_ready}
use Rattle.run_model.specs.Rows.{row_of, rows, target_view}
use Rattle.run_model.specs.Run.{IsRun}
use Rattle.state_facts.proofs.BufferReadings.{fences_are, made_is}
use Rattle.state_facts.specs.Homes.{first_buffer, homes}
use Rattle.device_rows.specs.Rows.{row_at}
use Rattle.run_rows.proofs.Fours.{row-targets}
use Rattle.run_rows.proofs.Frames.{row-found}
use Rattle.service_parts.specs.Parts.{parts}
use Rattle.service_parts.proofs.Read.{move_read}
use Rattle.service_core.specs.Candidates.{candidates_by, is_ready_by, row_steps, target_steps}
use Rattle.service_core.proofs.Lists.{flat-kept, join-same, keeps-later, keeps-none, map-twice, rows-kept}
use Rattle.service_core.proofs.Unready.{delivery-unready, done-unready, early-unready, fail-unready, failed-unready, finish-unready, part-unready, release-unready, sensor-unready, take-unready}
use Rattle.basic_lemmas.proofs.Lists.{filter-agree}

-- ---- steps of frames, and of targets

row-steps : (script : Script) (h : List Move) (step : FrameNo → StepName) → ((n : ℕ) → row_at n (rows script h) ≡ None → is_ready_by script (parts script h) (step (record { 0 = n })) ≡ false) → filter (is_ready_by script (parts script h)) (for_frames step (trace_of h)) ≡ filter (is_ready_by script (parts script h)) (row_steps step (rows script h))
row-steps script h step idle =
    rows-kept (is_ready_by script (parts script h)) (λ n. step (record { 0 = n })) (λ (row : RowView). step row.frame) (row_of script h) (λ n. is_open n (trace_of h)) (reverse (frames (trace_of h))) (λ n. refl)
    (λ n closed. idle n (row-found script h n ∙ rw closed refl))

target-steps : (script : Script) (h : List Move) (step : FrameNo → StreamIx → StepName) → ((n : ℕ) (s : StreamIx) → row_at n (rows script h) ≡ None → is_ready_by script (parts script h) (step (record { 0 = n }) s) ≡ false) → filter (is_ready_by script (parts script h)) (for_targets step (trace_of h)) ≡ filter (is_ready_by script (parts script h)) (target_steps step (rows script h))
target-steps script h step idle =
    let past = trace_of h in
    let q = is_ready_by script (parts script h) in
    flat-kept q (λ n. map (λ t. step (record { 0 = n }) t.stream) (targets_of n past)) (λ (row : RowView). map (λ (target : TargetView). step row.frame target.stream) (four_list row.targets)) (row_of script h) (λ n. is_open n past) (reverse (frames past))
    (λ n. map-twice (λ (v : TargetView). step (record { 0 = n }) v.stream) (target_view h n) (λ (t : Sent). step (record { 0 = n }) t.stream) (targets_of n past) (λ t. refl)
    ∙ ap (λ (vs : List TargetView). map (λ (v : TargetView). step (record { 0 = n }) v.stream) vs) (sym (row-targets script h n)))
    (λ n closed. keeps-none q (λ (t : Sent). step (record { 0 = n }) t.stream) (targets_of n past) (λ t. idle n t.stream (row-found script h n ∙ rw closed refl)))

-- ---- releases

releases : (script : Script) (h : List Move) → filter (is_ready_by script (parts script h)) (for_numbers (λ b. Release (record { 0 = b })) (made_count (trace_of h))) ≡ filter (is_ready_by script (parts script h)) (map (λ b. Release (record { 0 = b })) (range_with_len (first_buffer (trace_of h)) (length (homes (trace_of h)).places)))
releases script h =
    let past = trace_of h in
    let q = is_ready_by script (parts script h) in
    ap (λ (n : ℕ). filter q (for_numbers (λ b. Release (record { 0 = b })) n)) (made_is past)
    ∙ keeps-later q (λ b. Release (record { 0 = b })) 0 (first_buffer past) (length (homes past).places) (first_buffer past) (omega arith) (λ b below. release-unready script (parts script h) b below)

-- ---- all candidates

pub candidates_read : (script : Script) (h : List Move) → IsRun script h → candidates script h ≡ candidates_by script (parts script h)
candidates_read script h run =
    let past = trace_of h in
    let p = parts script h in
    let q = is_ready_by script p in
    filter-agree (is_ready script h) q (steps past) (λ step. ap (λ (m : Option Move). is_some m) (move_read script h step run))
    ∙ join-same q (Send ∷ []) (Send ∷ []) _ _ refl
    (join-same q _ _ _ _ (releases script h)
    (join-same q _ _ _ _ (ap (λ (n : ℕ). filter q (for_numbers (λ f. Signal (record { 0 = f })) n)) (fences_are past))
    (join-same q (Client ∷ (DropQueued ∷ [])) (Client ∷ (DropQueued ∷ [])) _ _ refl
    (join-same q _ _ _ _ (row-steps script h Fail (λ n none. fail-unready script p n none))
    (join-same q _ _ _ _ (target-steps script h ReturnFailed (λ n s. failed-unready script p n s))
    (join-same q (Shutter ∷ []) (Shutter ∷ []) _ _ refl
    (join-same q _ _ _ _ (row-steps script h SensorDone (λ n. sensor-unready script p n))
    (join-same q _ _ _ _ (row-steps script h Partial (λ n. part-unready script p n))
    (join-same q _ _ _ _ (target-steps script h TakeFill (λ n s. take-unready script p n s))
    (join-same q _ _ _ _ (target-steps script h FillDone (λ n s. done-unready script p n s))
    (join-same q _ _ _ _ (target-steps script h Deliver (λ n s. delivery-unready script p n s))
    (join-same q _ _ _ _ (target-steps script h Early (λ n s. early-unready script p n s))
    (target-steps script h Finish (λ n s. finish-unready script p n s)
    ∙ ap (λ (xs : List StepName). filter q xs) (sym (append-nil (target_steps Finish (rows script h)))))))))))))))))
