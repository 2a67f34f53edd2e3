-- Jobs that are given out, by the definitions over the past: the one that a step gives is out after it.
use Rattle.std.proofs.Common.{◌≡◌, ℕ, ◌==◌, Bool, true, false, ◌&&◌, ◌||◌, not, is_some, List, ◌∷◌, Option, Some, None, refl, sym, ap, ◌∙◌, find, slice_get}
use Rattle.std.specs.Option.{option_and_then, option_map}
use Rattle.std.proofs.lemmas.Bool.{and_parts, eqb-true}
use Rattle.std.proofs.lemmas.Option.{none-some, same_Some}
use Rattle.cam_types.specs.declared.job.FillTarget.{FillTarget}
use Rattle.cam_types.specs.declared.job.JobView.{JobView}
use Rattle.cam_types.specs.declared.number.FrameNo.{FrameNo}
use Rattle.cam_types.specs.declared.number.StreamIx.{StreamIx}
use Rattle.cam_types.specs.declared.row.RowView.{RowView}
use Rattle.cam_types.specs.declared.script.Fault.{Fault}
use Rattle.cam_types.specs.declared.script.Script.{Script}
use Rattle.cam_types.specs.declared.stream.StreamSpec.{StreamSpec}
use Rattle.trace_model.specs.declared.entry.Entry.{Entry}
use Rattle.trace_model.specs.declared.entry.Entry.TheVariants.{Shutter as ShutterEntry}
use Rattle.trace_model.specs.declared.entry.Sent.{Sent}
use Rattle.trace_model.specs.Configuration.{streams}
use Rattle.trace_model.specs.Frames.{each_earlier, frames, has_error, has_error_request, has_shutter, is_sent, target_of, targets_of}
use Rattle.trace_model.specs.Open.{is_open}
use Rattle.trace_model.specs.Faults.{device_fault}
use Rattle.trace_model.specs.Stopping.{is_stopping}
use Rattle.trace_model.specs.Shutter.{may_expose, shutter_at, shutter_due}
use Rattle.basic_lemmas.proofs.Lists.{find-mapped, found-passes}
use Rattle.run_model.specs.History.{trace_of}
use Rattle.run_model.specs.Jobs.{IsFillJob, IsJobOut, IsSensorJob, is_fill_out}
use Rattle.run_model.specs.Ready.{adding}
use Rattle.run_model.specs.Rows.{open_frames, row_of, rows, target_view}
use Rattle.run_model.specs.Run.{IsRun}
use Rattle.run_model.specs.declared.step.Move.{Move}
use Rattle.run_model.specs.declared.step.StepName.TheVariants.{Shutter, TakeFill}
use Rattle.run_model.proofs.Unsent.{not-done}
use Rattle.run_rows.proofs.Fills.{take-own}
use Rattle.run_rows.proofs.Fours.{target-at}
use Rattle.run_rows.proofs.Frames.{row-found}
use Rattle.run_rows.proofs.Work.{state-busy}
use Rattle.device_rows.specs.Jobs.{fill_job, sensor_job}
use Rattle.device_rows.specs.Jobs as device
use Rattle.device_rows.specs.Ready.{if_exposed, may_expose as may_expose_row, shutter_row}
use Rattle.device_rows.specs.Rows.{row_at}
use Rattle.device_core.specs.Steps.{fill_job_for, fill_job_with}
use Rattle.run_rows.specs.Entries.{shutter_entry}
use Rattle.run_model.specs.Moves.{Moves, with_move}
use Rattle.service_state.specs.Answers as step
use Rattle.service_state.specs.Serving.{Serving}
use Rattle.service_core.specs.Inside.{IsKept, state_of}
use Rattle.service_core.specs.Jobs.{Begins, Takes}
use Rattle.service_core.proofs.Keeping.{makes, runs}
use Rattle.basic_lemmas.proofs.Tests.{given-where, not-true, own-number}

shutter-same : {a b : FrameNo} {s t : ℕ} → ShutterEntry a s ≡ ShutterEntry b t → a ≡ b
shutter-same h = cc

-- ---- the sensor's job

-- the row whose exposure begins is that of a frame
shutter-frame : (script : Script) (h : List Move) (row : RowView) → shutter_row script.faults (rows script h) ≡ Some row → (k : ℕ) × (row ≡ row_of script h k)
shutter-frame script h row at =
    let frames' = open_frames (trace_of h) in
    let waits = λ (r : RowView). not (is_some r.shutter) && not r.request_error in
    by-frame (find (λ k. waits (row_of script h k)) frames') (ap (λ o. if_exposed script.faults o) (sym (find-mapped waits (row_of script h) frames')) ∙ at)
  where
    by-frame : (o : Option ℕ) → if_exposed script.faults (option_map (row_of script h) o) ≡ Some row → (k : ℕ) × (row ≡ row_of script h k)
    by-frame (Some k) is = (k, sym (given-where (may_expose_row script.faults (row_of script h k)) (row_of script h k) row is).1)
    by-frame None is = absurd (none-some _ is)

-- a frame that may be exposed has no shutter
unlit-in : (script : Script) (past : List Entry) (k : ℕ) → may_expose script past k ≡ true → has_shutter k past ≡ false
unlit-in script past k may =
    let dark' = not (has_shutter k past) && not (has_error k past) in
    let sent = is_sent k past && dark' in
    let first = each_earlier k (λ m. has_shutter m past || has_error_request m past) past in
    let a = and_parts (not (is_stopping past)) ((sent && first) && not (device_fault script k)) may in
    let b = and_parts (sent && first) (not (device_fault script k)) a.1 in
    let c = and_parts sent first b.0 in
    let d = and_parts (is_sent k past) dark' c.0 in
    let e = and_parts (not (has_shutter k past)) (not (has_error k past)) d.1 in
    not-true (has_shutter k past) e.0

-- the frame of a shutter that is due had none
dark : (script : Script) (past : List Entry) (n : FrameNo) (time : ℕ) → shutter_due script past ≡ Some (ShutterEntry n time) → has_shutter n.0 past ≡ false
dark script past n time due = by (find (may_expose script past) (frames past)) refl due
  where
    by : (o : Option ℕ) → find (may_expose script past) (frames past) ≡ o → shutter_at script past o ≡ Some (ShutterEntry n time) → has_shutter n.0 past ≡ false
    by None at is = absurd (none-some _ is)
    by (Some k) at is =
        let frame : record { 0 = k } ≡ n = shutter-same (same_Some _ _ is) in
        let may = found-passes {X = ℕ} (may_expose script past) (frames past) k at in
        rw (sym frame) (unlit-in script past k may)

pub sensor_given : (script : Script) (h : List Move) (k time : ℕ) → IsRun script h → shutter_due script (trace_of h) ≡ Some (ShutterEntry (record { 0 = k }) time) → IsSensorJob script (record { step = Shutter; entry = Some (ShutterEntry (record { 0 = k }) time) } ∷ h) (sensor_job (row_of script h k))
sensor_given script h k time run due =
    let undone = not-done script h k run (dark script (trace_of h) (record { 0 = k }) time due) in
    record { out = rw (undone, own-number k) refl; settings = refl; no_fill = refl }

-- ---- a stage's job

-- the target that a job is of
pub record IsTaken (script : Script) (h : List Move) (n s : ℕ) (job : JobView) : Type 0 where
  pub target : Sent
  pub spec : StreamSpec
  pub found : target_of n s (trace_of h) ≡ Some target
  pub stream : slice_get (streams script (trace_of h)) s ≡ Some spec
  pub is : job ≡ fill_job (row_of script h n) (target_view h n target) spec

taken-of : (script : Script) (h : List Move) (n s : ℕ) (job : JobView) → fill_job_for (streams script (trace_of h)) s (row_at n (rows script h)) ≡ Some job → IsTaken script h n s job
taken-of script h n s job at = by-open (is_open n (trace_of h)) refl
  where
    past : List Entry
    past = trace_of h

    by-spec : (t : Sent) → target_of n s (trace_of h) ≡ Some t → (p : Option StreamSpec) → slice_get (streams script (trace_of h)) s ≡ p → fill_job_with (row_of script h n) (Some (target_view h n t)) p ≡ Some job → IsTaken script h n s job
    by-spec t found (Some spec) stream is = record { target = t; spec = spec; found = found; stream = stream; is = sym (same_Some _ _ is) }
    by-spec t found None stream is = absurd (none-some _ is)

    nothing : (p : Option StreamSpec) → fill_job_with (row_of script h n) None p ≡ Some job → ⊥
    nothing (Some spec) is = none-some _ is
    nothing None is = none-some _ is

    by-target : (o : Option Sent) → target_of n s (trace_of h) ≡ o → fill_job_with (row_of script h n) (option_map (target_view h n) o) (slice_get (streams script (trace_of h)) s) ≡ Some job → IsTaken script h n s job
    by-target (Some t) found is = by-spec t found (slice_get (streams script (trace_of h)) s) refl is
    by-target None found is = absurd (nothing (slice_get (streams script (trace_of h)) s) is)

    by-open : (b : Bool) → is_open n (trace_of h) ≡ b → IsTaken script h n s job
    by-open true open' =
        let found : row_at n (rows script h) ≡ Some (row_of script h n) = row-found script h n ∙ rw open' refl in
        let is = ap (λ o. fill_job_for (streams script (trace_of h)) s o) (sym found) ∙ at in
        by-target (target_of n s (trace_of h)) refl (ap (λ o. fill_job_with (row_of script h n) o (slice_get (streams script (trace_of h)) s)) (sym (target-at script h n s)) ∙ is)
    by-open false closed =
        let found : row_at n (rows script h) ≡ None = row-found script h n ∙ rw closed refl in
        absurd (none-some _ (ap (λ o. fill_job_for (streams script (trace_of h)) s o) (sym found) ∙ at))

-- after the taking it is out
pub record IsGiven (script : Script) (h : List Move) (n : FrameNo) (s : StreamIx) (job : JobView) : Type 0 where
  pub out : IsJobOut script h job
  pub frame : job.frame ≡ n
  pub stream : option_map (λ target. target.stream) job.fill ≡ Some s

pub fill_given : (script : Script) (h : List Move) (n : FrameNo) (s : StreamIx) (job : JobView) → IsRun script (record { step = TakeFill n s; entry = None } ∷ h) → fill_job_for (streams script (trace_of h)) s.0 (row_at n.0 (rows script h)) ≡ Some job → IsGiven script (record { step = TakeFill n s; entry = None } ∷ h) n s job
fill_given script h n s job run at = let it = taken-of script h n.0 s.0 job at in by it.target it.spec it.found it.stream it.is
  where
    by : (t : Sent) (spec : StreamSpec) → target_of n.0 s.0 (trace_of h) ≡ Some t → slice_get (streams script (trace_of h)) s.0 ≡ Some spec → job ≡ fill_job (row_of script h n.0) (target_view h n.0 t) spec → IsGiven script (record { step = TakeFill n s; entry = None } ∷ h) n s job
    by t spec found spec_at is =
        let h' = record { step = TakeFill n s; entry = None } ∷ h in
        let here : t.stream.0 ≡ s.0 = eqb-true t.stream.0 s.0 (found-passes {X = Sent} (λ u. u.stream.0 == s.0) (targets_of n.0 (trace_of h)) t found) in
        let stream : t.stream ≡ s = ap (λ (i : ℕ). let x : StreamIx = record { 0 = i } in x) here in
        let busy : is_fill_out h' n.0 s.0 ≡ true = sym (state-busy script h' n.0 s.0 run) ∙ ap (λ x. device.is_fill_out x) (take-own script h n s run).0 in
        let target : FillTarget = record { stream = t.stream; buffer = t.buffer; spec = spec } in
        let out : IsFillJob script h' (fill_job (row_of script h n.0) (target_view h n.0 t) spec) target = record {
          out = ap (λ i. is_fill_out h' n.0 i) here ∙ busy;
          settings = refl;
          fill = refl;
          spec = ap (λ i. slice_get (streams script (trace_of h)) i) here ∙ spec_at;
          buffer = ap (λ i. option_map (λ (u : Sent). u.buffer) (target_of n.0 i (trace_of h))) here ∙ ap (λ (o : Option Sent). option_map (λ (u : Sent). u.buffer) o) found;
        } in
        rw is (record { out = out; frame = refl; stream = ap Some stream })

-- ---- as the service gives them out

-- the row of the sensor's job
row-with : (faults : List Fault) (rows : List RowView) (job : JobView) → Some job ≡ option_map sensor_job (shutter_row faults rows) → (row : RowView) × (shutter_row faults rows ≡ Some row) × (job ≡ sensor_job row)
row-with faults rows job at = by (shutter_row faults rows) refl at
  where
    by : (o : Option RowView) → shutter_row faults rows ≡ o → Some job ≡ option_map sensor_job o → (row : RowView) × (shutter_row faults rows ≡ Some row) × (job ≡ sensor_job row)
    by (Some row) is same = (row, is, same_Some _ _ same)
    by None is same = absurd (none-some _ (sym same))

added : (o : Option Entry) (e : Entry) → adding Shutter o ≡ Some (step.move_with Shutter (Some e)) → o ≡ Some e
added (Some x) e told = ap (λ (o : Option Move). option_and_then (λ m. m.entry) o) told
added None e told = absurd (none-some _ told)

-- what the entry is
entry-with : (time : ℕ) (o : Option RowView) (row : RowView) (e : Entry) → o ≡ Some row → adding Shutter (option_map (shutter_entry time) o) ≡ Some (step.move_with Shutter (Some e)) → e ≡ ShutterEntry row.frame time
entry-with time (Some x) row e is told =
    let entry = added (Some (shutter_entry time x)) e told in
    sym (same_Some _ _ entry) ∙ ap (λ r. shutter_entry time r) (same_Some _ _ is)
entry-with time None row e is told = absurd (none-some _ is)

pub began : (s s' : Serving) (log : Moves) (e : Entry) (job : JobView) → IsKept s log → step.Makes s s' (step.move_with Shutter (Some e)) → Some job ≡ option_map sensor_job (shutter_row s.script.faults s.parts.rows) → Begins e job (state_of s log) (state_of s' (with_move (step.move_with Shutter (Some e)) log))
began s s' log e job kept made at =
    let h = log.moves in
    let it = row-with s.script.faults s.parts.rows job at in
    let frame = shutter-frame s.script h it.0 (ap (λ p. shutter_row s.script.faults p.rows) (sym kept.left) ∙ it.1) in
    let job' : job ≡ sensor_job (row_of s.script h frame.0) = it.2 ∙ ap (λ r. sensor_job r) frame.1 in
    let entry : e ≡ ShutterEntry (record { 0 = frame.0 }) s.parts.clock = entry-with s.parts.clock (shutter_row s.script.faults s.parts.rows) it.0 e it.1 made.ready ∙ ap (λ (r : RowView). ShutterEntry r.frame s.parts.clock) frame.1 in
    let due : shutter_due s.script (trace_of h) ≡ Some e = added (shutter_due s.script (trace_of h)) e (runs s s' log (step.move_with Shutter (Some e)) kept made).0 in
    let given = sensor_given s.script h frame.0 s.parts.clock kept.run (due ∙ ap Some entry) in
    record {
      made = makes s s' log (step.move_with Shutter (Some e)) kept made;
      time = s.parts.clock;
      shutter = rw job' entry;
      out = rw (made.left, job', entry) given;
      exposure = rw job' refl;
    }

pub took : (s s' : Serving) (log : Moves) (n : FrameNo) (t : StreamIx) (job : JobView) → IsKept s log → step.Makes s s' (step.move_with (TakeFill n t) None) → fill_job_for s.parts.client.streams t.0 (row_at n.0 s.parts.rows) ≡ Some job → Takes n t job (state_of s log) (state_of s' (with_move (step.move_with (TakeFill n t) None) log))
took s s' log n t job kept made at =
    let m = step.move_with (TakeFill n t) None in
    let given = fill_given s.script log.moves n t job (runs s s' log m kept made) (ap (λ p. fill_job_for p.client.streams t.0 (row_at n.0 p.rows)) (sym kept.left) ∙ at) in
    record {
      made = makes s s' log m kept made;
      out = rw made.left given.out;
      frame = given.frame;
      stream = given.stream;
    }
