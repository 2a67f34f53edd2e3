-- Each step that may end its frame: when it is ready, and what it leaves.
use Rattle.std.proofs.Common.{◌≡◌, ℕ, Bool, true, false, ◌&&◌, List, Option, Some, None, refl, sym, ap, ◌∙◌}
use Rattle.cam_types.specs.declared.number.DeviceFenceNo.{DeviceFenceNo}
use Rattle.cam_types.specs.declared.number.FenceNo.{FenceNo}
use Rattle.cam_types.specs.declared.number.FrameNo.{FrameNo}
use Rattle.cam_types.specs.declared.number.StreamIx.{StreamIx}
use Rattle.cam_types.specs.declared.partial_result.PartialResult.{PartialResult}
use Rattle.cam_types.specs.declared.row.RowView.{RowView}
use Rattle.cam_types.specs.declared.row.TargetView.{TargetView}
use Rattle.device_rows.specs.Marks.{marked}
use Rattle.device_rows.specs.declared.mark.Mark.TheVariants.{Announced, RequestError, ResultError}
use Rattle.trace_model.specs.declared.entry.Entry.{Entry}
use Rattle.trace_model.specs.declared.entry.Entry.TheVariants.{ErrorBuffer, ErrorDevice, ErrorRequest, ErrorResult, Failed, Filled, Late, Partial as PartialEntry}
use Rattle.run_model.specs.declared.step.Move.{Move}
use Rattle.run_model.specs.declared.step.StepName.TheVariants.{Deliver, Fail, Finish, Partial, ReturnFailed}
use Rattle.state_facts.specs.Homes.{Homes, held_in, signalled_in}
use Rattle.state_facts.specs.Homes as buffers
use Rattle.state_facts.specs.Clients as client
use Rattle.client_calls.specs.Around.{Fits}
use Rattle.device_rows.specs.declared.entry.ErrorEntry.{ErrorEntry}
use Rattle.device_rows.specs.declared.entry.ErrorEntry.TheVariants.{Request, Result, Buffer, Device}
use Rattle.device_rows.specs.Ready.{is_delivery_ready, is_failed_return_ready, is_finish_ready, is_retire_ready, next_error, next_part}
use Rattle.device_rows.specs.Rows.{all_stopped, delivered, returned_failed, row_at, target_in, with_part, with_row}
use Rattle.run_rows.specs.Entries.{error_entry, failed_fence}
use Rattle.service_parts.specs.After.{parts_after, picture_by, repeats_in, showing, showing_target}
use Rattle.service_parts.specs.Moves.{digest_by, move_by}
use Rattle.service_parts.specs.Parts.{Parts}
use Rattle.service_state.specs.Answers.{Makes, move_with}
use Rattle.service_state.specs.Serving.{IsServing, Serving, left}
use Rattle.service_state.proofs.Made.{IsOfFrame, fits_next, frame_client, frame_fits, frame_rows, makes, same_parts}
use Rattle.service_state.proofs.Runs.{whole_left}

-- whether frame n is of a repeating request and ends by the change of its row
abbrev pub ends_with : Parts → ℕ → (RowView → RowView) → Bool
ends_with p n f = repeats_in p.kinds (row_at n p.rows) && is_retire_ready (with_row n f p.rows) n

-- the parts after an entry of frame n
abbrev pub frame_left : Serving → Entry → ℕ → (RowView → RowView) → Homes → List (Option (List ℕ)) → Parts
frame_left s e n f homes pictures =
    record s.parts {
      client = client.clients_after s.script false (ends_with s.parts n f) e s.parts.client;
      buffers = homes;
      pictures = pictures;
      rows = left n (with_row n f s.parts.rows);
    }

-- what such a step leaves, and that the client's calls fit
pub record IsFrameStep (s : Serving) (m : Move) (e : Entry) (n : ℕ) (f : RowView → RowView) (homes : Homes) (pictures : List (Option (List ℕ))) : Type 0 where
  pub made : Makes s (record { script = s.script; parts = frame_left s e n f homes pictures }) m
  pub fits : Fits (client.clients_after s.script false (ends_with s.parts n f) e s.parts.client)

-- ---- metadata

part-frame : (p : Parts) (n : FrameNo) (k : ℕ) (part : PartialResult) → IsOfFrame p (move_with (Partial n) (Some (PartialEntry n k part))) (PartialEntry n k part) n (with_part k)
part-frame p n k part = record { entry = refl; frame = refl; change = refl; keeps = λ row. refl; client = λ script repeats ends t. refl }

pub parted : (s : Serving) → IsServing s → (n : FrameNo) (k : ℕ) (part : PartialResult) → next_part s.script.faults s.parts.rows n.0 ≡ Some (k, part) → IsFrameStep s (move_with (Partial n) (Some (PartialEntry n k part))) (PartialEntry n k part) n.0 (with_part k) s.parts.buffers s.parts.pictures
parted s serving n k part at =
    let m = move_with (Partial n) (Some (PartialEntry n k part)) in
    let is = part-frame s.parts n k part in
    let ready : move_by s.script s.parts (Partial n) ≡ Some m = rw at refl in
    record {
      made = makes s (frame_left s (PartialEntry n k part) n.0 (with_part k) s.parts.buffers s.parts.pictures) m ready
          (same_parts _ _ (sym (frame_client s serving m (PartialEntry n k part) n (with_part k) is)) refl refl refl refl (sym (frame_rows s serving m (PartialEntry n k part) n (with_part k) is)) refl refl);
      fits = frame_fits s serving m (PartialEntry n k part) n (with_part k) is ready;
    }

-- ---- filled buffers

filled-frame : (p : Parts) (n : FrameNo) (t : StreamIx) (target : TargetView) (digest : List ℕ) → IsOfFrame p (move_with (Deliver n t) (Some (Filled n t target.buffer None digest))) (Filled n t target.buffer None digest) n (delivered t)
filled-frame p n t target digest = record { entry = refl; frame = refl; change = refl; keeps = λ row. refl; client = λ script repeats ends c. refl }

pub delivers : (s : Serving) → IsServing s → (n : FrameNo) (t : StreamIx) (target : TargetView) (digest bytes : List ℕ) → is_delivery_ready s.script.faults s.parts.rows n.0 t.0 ≡ true → target_in n.0 t.0 s.parts.rows ≡ Some target → digest ≡ digest_by s.parts n.0 t.0 → bytes ≡ picture_by s.parts n.0 t.0 → IsFrameStep s (move_with (Deliver n t) (Some (Filled n t target.buffer None digest))) (Filled n t target.buffer None digest) n.0 (delivered t) (buffers.homes_after (Filled n t target.buffer None digest) s.parts.buffers) (showing s.parts target.buffer.0 (Some bytes))
delivers s serving n t target digest bytes may at picture shown =
    let e = Filled n t target.buffer None digest in
    let m = move_with (Deliver n t) (Some e) in
    let is = filled-frame s.parts n t target digest in
    let ready : move_by s.script s.parts (Deliver n t) ≡ Some m = rw (may, at, picture) refl in
    record {
      made = makes s (frame_left s e n.0 (delivered t) (buffers.homes_after e s.parts.buffers) (showing s.parts target.buffer.0 (Some bytes))) m ready
          (same_parts _ _ (sym (frame_client s serving m e n (delivered t) is)) refl refl refl (ap (λ (x : List ℕ). showing s.parts target.buffer.0 (Some x)) shown) (sym (frame_rows s serving m e n (delivered t) is)) refl refl);
      fits = frame_fits s serving m e n (delivered t) is ready;
    }

-- ---- pictures of buffers that came back early

late-frame : (p : Parts) (n : FrameNo) (t : StreamIx) (d : DeviceFenceNo) (digest : List ℕ) → IsOfFrame p (move_with (Finish n t) (Some (Late d digest))) (Late d digest) n (delivered t)
late-frame p n t d digest = record { entry = refl; frame = refl; change = refl; keeps = λ row. refl; client = λ script repeats ends c. refl }

pub finishes : (s : Serving) → IsServing s → (n : FrameNo) (t : StreamIx) (target : TargetView) (d : DeviceFenceNo) (digest bytes : List ℕ) → is_finish_ready s.parts.rows n.0 t.0 ≡ true → target_in n.0 t.0 s.parts.rows ≡ Some target → held_in s.parts.buffers target.buffer.0 ≡ Some d → digest ≡ digest_by s.parts n.0 t.0 → bytes ≡ picture_by s.parts n.0 t.0 → IsFrameStep s (move_with (Finish n t) (Some (Late d digest))) (Late d digest) n.0 (delivered t) (buffers.homes_after (Late d digest) s.parts.buffers) (showing s.parts target.buffer.0 (Some bytes))
finishes s serving n t target d digest bytes may at held picture shown =
    let e = Late d digest in
    let m = move_with (Finish n t) (Some e) in
    let is = late-frame s.parts n t d digest in
    let ready : move_by s.script s.parts (Finish n t) ≡ Some m = rw (may, at, held, picture) refl in
    record {
      made = makes s (frame_left s e n.0 (delivered t) (buffers.homes_after e s.parts.buffers) (showing s.parts target.buffer.0 (Some bytes))) m ready
          (same_parts _ _ (sym (frame_client s serving m e n (delivered t) is)) refl refl refl (ap (λ (x : List ℕ). showing s.parts target.buffer.0 (Some x)) shown ∙ ap (λ (o : Option TargetView). showing_target s.parts o (picture_by s.parts n.0 t.0)) (sym at)) (sym (frame_rows s serving m e n (delivered t) is)) refl refl);
      fits = frame_fits s serving m e n (delivered t) is ready;
    }

-- ---- buffers in error

failed-frame : (p : Parts) (n : FrameNo) (t : StreamIx) (target : TargetView) (f : Option FenceNo) → IsOfFrame p (move_with (ReturnFailed n t) (Some (Failed n t target.buffer f))) (Failed n t target.buffer f) n (returned_failed t)
failed-frame p n t target f = record { entry = refl; frame = refl; change = refl; keeps = λ row. refl; client = λ script repeats ends c. refl }

pub returns_failed : (s : Serving) → IsServing s → (n : FrameNo) (t : StreamIx) (target : TargetView) (f : Option FenceNo) → is_failed_return_ready s.parts.rows n.0 t.0 ≡ true → target_in n.0 t.0 s.parts.rows ≡ Some target → f ≡ failed_fence (λ k. signalled_in s.parts.buffers k) target → IsFrameStep s (move_with (ReturnFailed n t) (Some (Failed n t target.buffer f))) (Failed n t target.buffer f) n.0 (returned_failed t) (buffers.homes_after (Failed n t target.buffer f) s.parts.buffers) (showing s.parts target.buffer.0 None)
returns_failed s serving n t target f may at fence =
    let e = Failed n t target.buffer f in
    let m = move_with (ReturnFailed n t) (Some e) in
    let is = failed-frame s.parts n t target f in
    let ready : move_by s.script s.parts (ReturnFailed n t) ≡ Some m = rw (may, at, fence) refl in
    record {
      made = makes s (frame_left s e n.0 (returned_failed t) (buffers.homes_after e s.parts.buffers) (showing s.parts target.buffer.0 None)) m ready
          (same_parts _ _ (sym (frame_client s serving m e n (returned_failed t) is)) refl refl refl refl (sym (frame_rows s serving m e n (returned_failed t) is)) refl refl);
      fits = frame_fits s serving m e n (returned_failed t) is ready;
    }

pub not_failed : (s : Serving) (n : FrameNo) (t : StreamIx) → is_failed_return_ready s.parts.rows n.0 t.0 ≡ false → move_by s.script s.parts (ReturnFailed n t) ≡ None
not_failed s n t may = rw may refl

-- ---- errors

-- what an error makes of its frame's row
abbrev pub error_change : ErrorEntry → RowView → RowView
error_change (Request n) = marked RequestError
error_change (Result n) = marked ResultError
error_change (Buffer n t) = marked (Announced t)
error_change Device = λ row. row

-- the error is of the frame
abbrev pub IsErrorOf : FrameNo → ErrorEntry → Type 0
IsErrorOf n (Request m) = m ≡ n
IsErrorOf n (Result m) = m ≡ n
IsErrorOf n (Buffer m t) = m ≡ n
IsErrorOf n Device = ⊥

error-frame : (p : Parts) (n : FrameNo) (error : ErrorEntry) → IsErrorOf n error → IsOfFrame p (move_with (Fail n) (Some (error_entry error))) (error_entry error) n (error_change error)
error-frame p n (Request m) of = record { entry = refl; frame = refl; change = rw of refl; keeps = λ row. refl; client = λ script repeats ends c. refl }
error-frame p n (Result m) of = record { entry = refl; frame = refl; change = rw of refl; keeps = λ row. refl; client = λ script repeats ends c. refl }
error-frame p n (Buffer m t) of = record { entry = refl; frame = refl; change = rw of refl; keeps = λ row. refl; client = λ script repeats ends c. refl }
error-frame p n Device of = absurd of

same-homes : (error : ErrorEntry) (homes : Homes) → buffers.homes_after (error_entry error) homes ≡ homes
same-homes (Request m) homes = refl
same-homes (Result m) homes = refl
same-homes (Buffer m t) homes = refl
same-homes Device homes = refl

pub fails : (s : Serving) → IsServing s → (n : FrameNo) (error : ErrorEntry) → next_error s.script.faults s.parts.rows n.0 ≡ Some error → IsErrorOf n error → IsFrameStep s (move_with (Fail n) (Some (error_entry error))) (error_entry error) n.0 (error_change error) s.parts.buffers s.parts.pictures
fails s serving n error at of =
    let e = error_entry error in
    let m = move_with (Fail n) (Some e) in
    let is = error-frame s.parts n error of in
    let ready : move_by s.script s.parts (Fail n) ≡ Some m = rw at refl in
    record {
      made = makes s (frame_left s e n.0 (error_change error) s.parts.buffers s.parts.pictures) m ready (by error of ready is);
      fits = frame_fits s serving m e n (error_change error) is ready;
    }
  where
    by : (x : ErrorEntry) → IsErrorOf n x → move_by s.script s.parts (Fail n) ≡ Some (move_with (Fail n) (Some (error_entry x))) → IsOfFrame s.parts (move_with (Fail n) (Some (error_entry x))) (error_entry x) n (error_change x) → frame_left s (error_entry x) n.0 (error_change x) s.parts.buffers s.parts.pictures ≡ parts_after s.script (move_with (Fail n) (Some (error_entry x))) s.parts
    by (Request k) o ready is = same_parts _ _ (sym (frame_client s serving (move_with (Fail n) (Some (ErrorRequest k))) (ErrorRequest k) n (marked RequestError) is)) refl refl refl refl (sym (frame_rows s serving (move_with (Fail n) (Some (ErrorRequest k))) (ErrorRequest k) n (marked RequestError) is)) refl refl
    by (Result k) o ready is = same_parts _ _ (sym (frame_client s serving (move_with (Fail n) (Some (ErrorResult k))) (ErrorResult k) n (marked ResultError) is)) refl refl refl refl (sym (frame_rows s serving (move_with (Fail n) (Some (ErrorResult k))) (ErrorResult k) n (marked ResultError) is)) refl refl
    by (Buffer k t) o ready is = same_parts _ _ (sym (frame_client s serving (move_with (Fail n) (Some (ErrorBuffer k t))) (ErrorBuffer k t) n (marked (Announced t)) is)) refl refl refl refl (sym (frame_rows s serving (move_with (Fail n) (Some (ErrorBuffer k t))) (ErrorBuffer k t) n (marked (Announced t)) is)) refl refl
    by Device o ready is = absurd o

pub device_fails : (s : Serving) → IsServing s → (n : FrameNo) → next_error s.script.faults s.parts.rows n.0 ≡ Some Device → Makes s (record { script = s.script; parts = record s.parts { client = client.clients_after s.script false false ErrorDevice s.parts.client; rows = all_stopped s.parts.rows } }) (move_with (Fail n) (Some ErrorDevice))
device_fails s serving n at =
    let m = move_with (Fail n) (Some ErrorDevice) in
    let ready : move_by s.script s.parts (Fail n) ≡ Some m = rw at refl in
    makes s (record s.parts { client = client.clients_after s.script false false ErrorDevice s.parts.client; rows = all_stopped s.parts.rows }) m ready
    (same_parts _ _ refl refl refl refl refl (sym (whole_left s.script s.parts serving.run m ready refl)) refl refl)

pub device_fits : (s : Serving) → IsServing s → (n : FrameNo) → next_error s.script.faults s.parts.rows n.0 ≡ Some Device → Fits (client.clients_after s.script false false ErrorDevice s.parts.client)
device_fits s serving n at =
    let m = move_with (Fail n) (Some ErrorDevice) in
    let ready : move_by s.script s.parts (Fail n) ≡ Some m = rw at refl in
    fits_next s serving m ready

pub none_fails : (s : Serving) (n : FrameNo) → next_error s.script.faults s.parts.rows n.0 ≡ None → move_by s.script s.parts (Fail n) ≡ None
none_fails s n at = rw at refl
