-- A job that is out stays out until a move gives it back, and was out before unless the move took it.
use Rattle.std.proofs.Common.{◌≡◌, ℕ, ◌==◌, Bool, true, false, ◌||◌, not, List, ◌∷◌, Option, Some, None, sym, ap, ◌∙◌, find, slice_get}
use Rattle.std.specs.Option.{option_map}
use Rattle.std.proofs.lemmas.Bool.{and_from, and_parts, not-true, or_parts, or_right}
use Rattle.cam_types.specs.declared.job.FillTarget.{FillTarget}
use Rattle.cam_types.specs.declared.job.JobView.{JobView}
use Rattle.cam_types.specs.declared.script.Script.{Script}
use Rattle.cam_types.specs.declared.stream.StreamSpec.{StreamSpec}
use Rattle.std.specs.List.{list_any}
use Rattle.trace_model.specs.declared.entry.Entry.{Entry}
use Rattle.trace_model.specs.declared.entry.Sent.{Sent}
use Rattle.trace_model.specs.Entry.{is_shutter}
use Rattle.trace_model.specs.Configuration.{streams}
use Rattle.trace_model.specs.Frames.{has_shutter, is_sent, target_of}
use Rattle.trace_model.specs.Open.{is_open}
use Rattle.run_model.specs.declared.step.Move.{Move}
use Rattle.run_model.specs.History.{is_fill_done, is_sensor_done, is_take_fill, trace_of, with_entry}
use Rattle.run_model.specs.Jobs.{IsFillJob, IsJobOut, IsOutWith, IsSensorJob, is_filled_in, is_sensor_done_in, is_taken_in}
use Rattle.run_model.specs.Run.{IsRun}
use Rattle.run_model.proofs.Entries.{open-sent}
use Rattle.run_model.proofs.Legal.{runs_legally}
use Rattle.trace_laws.proofs.Shutters.{shutter-sent}
use Rattle.run_model.specs.RunMoves.{by_entry}
use Rattle.run_model.proofs.Home.{fill_open}
use Rattle.run_model.proofs.Targets.{targets-same}
use Rattle.run_model.proofs.Unsent.{any-entry}
use Rattle.service_parts.proofs.Stays.{settings-stay, streams-stay}

-- ---- the sensor's

sensor-kept : (script : Script) (m : Move) (h : List Move) (job : JobView) → IsRun script (m ∷ h) → IsSensorJob script h job → is_sensor_done job.frame.0 m.step ≡ false → IsSensorJob script (m ∷ h) job
sensor-kept script m h job run is free =
    let n = job.frame.0 in
    let past = trace_of h in
    let parts = and_parts (has_shutter n past) (not (is_sensor_done_in h n)) is.out in
    let sent = shutter-sent script past n (runs_legally script h run.1) parts.0 in
    record {
      out = and_from (has_shutter n (trace_of (m ∷ h))) (not (is_sensor_done n m.step || is_sensor_done_in h n)) (any-entry (is_shutter n) m.entry past parts.0) (rw free parts.1);
      settings = is.settings ∙ sym (settings-stay script past m.entry n (runs_legally script (m ∷ h) run) sent);
      no_fill = is.no_fill;
    }

entry-was : (p : Entry → Bool) (o : Option Entry) (past : List Entry) → by_entry p o ≡ false → list_any p (with_entry o past) ≡ true → list_any p past ≡ true
entry-was p (Some e) past none h = rw none at h
entry-was p None past none h = h

sensor-was : (script : Script) (m : Move) (h : List Move) (job : JobView) → IsRun script (m ∷ h) → IsSensorJob script (m ∷ h) job → by_entry (is_shutter job.frame.0) m.entry ≡ false → IsSensorJob script h job
sensor-was script m h job run is dark =
    let n = job.frame.0 in
    let past = trace_of h in
    let parts = and_parts (has_shutter n (trace_of (m ∷ h))) (not (is_sensor_done_in (m ∷ h) n)) is.out in
    let shot = entry-was (is_shutter n) m.entry past dark parts.0 in
    let undone = (or_parts (is_sensor_done n m.step) (is_sensor_done_in h n) (not-true (is_sensor_done_in (m ∷ h) n) parts.1)).1 in
    let sent = shutter-sent script past n (runs_legally script h run.1) shot in
    record {
      out = and_from (has_shutter n past) (not (is_sensor_done_in h n)) shot (ap not undone);
      settings = is.settings ∙ settings-stay script past m.entry n (runs_legally script (m ∷ h) run) sent;
      no_fill = is.no_fill;
    }

-- ---- a stage's

-- the buffer that a frame's target for a stream has
buffers-stay : (script : Script) (m : Move) (h : List Move) (n s : ℕ) → IsRun script (m ∷ h) → is_sent n (trace_of h) ≡ true → option_map (λ (t : Sent). t.buffer) (target_of n s (trace_of (m ∷ h))) ≡ option_map (λ (t : Sent). t.buffer) (target_of n s (trace_of h))
buffers-stay script m h n s run sent =
    ap (λ (ts : List Sent). option_map (λ t. t.buffer) (find (λ t. t.stream.0 == s) ts)) (targets-same script (trace_of h) m.entry n (runs_legally script (m ∷ h) run) sent)

spec-stays : (script : Script) (m : Move) (h : List Move) (n s : ℕ) → IsRun script (m ∷ h) → is_open n (trace_of h) ≡ true → slice_get (streams script (trace_of (m ∷ h))) s ≡ slice_get (streams script (trace_of h)) s
spec-stays script m h n s run open_ =
    ap (λ (xs : List StreamSpec). slice_get xs s) (streams-stay script (trace_of h) m.entry n (runs_legally script (m ∷ h) run) open_)

fill-kept : (script : Script) (m : Move) (h : List Move) (job : JobView) (target : FillTarget) → IsRun script (m ∷ h) → IsFillJob script h job target → is_fill_done job.frame.0 target.stream.0 m.step ≡ false → IsFillJob script (m ∷ h) job target
fill-kept script m h job target run is free =
    let n = job.frame.0 in
    let s = target.stream.0 in
    let parts = and_parts (is_taken_in h n s) (not (is_filled_in h n s)) is.out in
    let open_ = fill_open script h n s run.1 is.out in
    let sent = open-sent n (trace_of h) open_ in
    record {
      out = and_from (is_taken_in (m ∷ h) n s) (not (is_fill_done n s m.step || is_filled_in h n s)) (or_right (is_take_fill n s m.step) (is_taken_in h n s) parts.0) (rw free parts.1);
      settings = is.settings ∙ sym (settings-stay script (trace_of h) m.entry n (runs_legally script (m ∷ h) run) sent);
      fill = is.fill;
      spec = spec-stays script m h n s run open_ ∙ is.spec;
      buffer = buffers-stay script m h n s run sent ∙ is.buffer;
    }

fill-was : (script : Script) (m : Move) (h : List Move) (job : JobView) (target : FillTarget) → IsRun script (m ∷ h) → IsFillJob script (m ∷ h) job target → is_take_fill job.frame.0 target.stream.0 m.step ≡ false → IsFillJob script h job target
fill-was script m h job target run is other =
    let n = job.frame.0 in
    let s = target.stream.0 in
    let parts = and_parts (is_taken_in (m ∷ h) n s) (not (is_filled_in (m ∷ h) n s)) is.out in
    let taken : is_taken_in h n s ≡ true = (let now = parts.0 in rw other at now) in
    let unfilled = (or_parts (is_fill_done n s m.step) (is_filled_in h n s) (not-true (is_filled_in (m ∷ h) n s) parts.1)).1 in
    let out = and_from (is_taken_in h n s) (not (is_filled_in h n s)) taken (ap not unfilled) in
    let open_ = fill_open script h n s run.1 out in
    let sent = open-sent n (trace_of h) open_ in
    record {
      out = out;
      settings = is.settings ∙ settings-stay script (trace_of h) m.entry n (runs_legally script (m ∷ h) run) sent;
      fill = is.fill;
      spec = sym (spec-stays script m h n s run open_) ∙ is.spec;
      buffer = sym (buffers-stay script m h n s run sent) ∙ is.buffer;
    }

-- ---- any job

-- the move gives no job of frame n back, and takes none of it out
pub record GivesNone (m : Move) (n : ℕ) : Type 0 where
  pub sensor : is_sensor_done n m.step ≡ false
  pub fill : (s : ℕ) → is_fill_done n s m.step ≡ false

pub record TakesNone (m : Move) (n : ℕ) : Type 0 where
  pub sensor : by_entry (is_shutter n) m.entry ≡ false
  pub fill : (s : ℕ) → is_take_fill n s m.step ≡ false

pub kept : (script : Script) (m : Move) (h : List Move) (job : JobView) → IsRun script (m ∷ h) → GivesNone m job.frame.0 → IsJobOut script h job → IsJobOut script (m ∷ h) job
kept script m h job run free is = by job.fill is
  where
    by : (o : Option FillTarget) → IsOutWith script h job o → IsOutWith script (m ∷ h) job o
    by None is = sensor-kept script m h job run is free.sensor
    by (Some target) is = fill-kept script m h job target run is (free.fill target.stream.0)

pub was : (script : Script) (m : Move) (h : List Move) (job : JobView) → IsRun script (m ∷ h) → TakesNone m job.frame.0 → IsJobOut script (m ∷ h) job → IsJobOut script h job
was script m h job run free is = by job.fill is
  where
    by : (o : Option FillTarget) → IsOutWith script (m ∷ h) job o → IsOutWith script h job o
    by None is = sensor-was script m h job run is free.sensor
    by (Some target) is = fill-was script m h job target run is (free.fill target.stream.0)
