-- While no frame is open no fill is out.
use Rattle.std.proofs.Common.{◌≡◌, ℕ, ◌==◌, true, false, not, List, [], ◌∷◌, Option, Some, None, refl, ◌∙◌, inl, inr, is_some}
use Rattle.std.specs.List.{list_all, list_any}
use Rattle.std.proofs.lemmas.Bool.{and_parts, both_ways, cases_Bool, eqb-true, false≢true}
use Rattle.cam_types.specs.declared.script.Script.{Script}
use Rattle.trace_model.specs.declared.entry.Entry.{Entry}
use Rattle.trace_model.specs.declared.entry.Sent.{Sent}
use Rattle.trace_model.specs.Entry.{sends}
use Rattle.trace_model.specs.Frames.{has_shutter, has_target, is_sent, send_of, targets_in, targets_of}
use Rattle.trace_model.specs.Open.{all_settled, is_quiet, is_returned, is_settled}
use Rattle.state_facts.proofs.OpenRows.{IsDone}
use Rattle.state_facts.proofs.Settled.{not-settled}
use Rattle.trace_laws.proofs.Printed.{one-of-all}
use Rattle.trace_laws.proofs.Shutters.{shutter-sent}
use Rattle.state_facts.proofs.Targets.{has_some, sent-targets}
use Rattle.state_facts.proofs.Quiet.{quiet-done}
use Rattle.run_model.specs.declared.step.Move.{Move}
use Rattle.run_model.specs.History.{trace_of}
use Rattle.run_model.specs.Jobs.{is_filled_in, is_fill_out, is_sensor_done_in, is_sensor_out, is_taken_in}
use Rattle.run_model.specs.Run.{IsRun}
use Rattle.run_rows.specs.StuckLaws.{FillsKeepBuffers, NoFillAtRest, NoSensorAtRest, SensorKeepsBuffers}
use Rattle.run_rows.proofs.Kept.{fill-kept, sensor-kept}
use Rattle.basic_lemmas.proofs.Lists.{any-found}
use Rattle.run_model.proofs.Legal.{runs_legally}
use Rattle.run_model.proofs.Targets.{taken_target}

target_sent : (past : List Entry) (n s : ℕ) → has_target n s past ≡ true → is_sent n past ≡ true
target_sent past n s has = any-found (sends n) past ∙ by (send_of n past) has
  where
    by : (o : Option Entry) → list_any (λ t. t.stream.0 == s) (targets_in o) ≡ true → is_some o ≡ true
    by None h = absurd (false≢true h)
    by (Some e) h = refl

-- the device is done with each target of a frame that is done
done_settled : (past : List Entry) (n s : ℕ) → IsDone past n → has_target n s past ≡ true → is_settled n s past ≡ true
done_settled past n s done has = one-of-all (is_settled n s past ≡ true) (λ t. is_settled n t.stream.0 past) (λ t. t.stream.0 == s) (targets_of n past) (λ t back at. rw (eqb-true t.stream.0 s at) at back) done.back has

pub no-fill : (script : Script) (h : List Move) (n s : ℕ) → IsRun script h → is_quiet (trace_of h) ≡ true → is_fill_out h n s ≡ false
no-fill script h n s run quiet =
    elim (cases_Bool (is_fill_out h n s)) [
      | inl out ↦ (
          let has = taken_target script h n s run (and_parts (is_taken_in h n s) (not (is_filled_in h n s)) out).0 in
          let done = quiet-done (trace_of h) n quiet (target_sent (trace_of h) n s has) in
          let back = done_settled (trace_of h) n s done has in
          absurd (both_ways (is_settled n s (trace_of h)) (fill-kept script h n s run out) back)
          )
      | inr none ↦ none
    ]

pub no_fill_at_rest : (script : Script) (h : List Move) → NoFillAtRest script h
no_fill_at_rest script h run quiet n s = no-fill script h n s run quiet

pub fills_keep_buffers : (script : Script) (h : List Move) → FillsKeepBuffers script h
fills_keep_buffers script h run n s out = fill-kept script h n s run out

pub sensor_keeps_buffers : (script : Script) (h : List Move) → SensorKeepsBuffers script h
sensor_keeps_buffers script h run n s out = sensor-kept script h n s run out

-- ---- the sensor

all_out : (n : ℕ) (past : List Entry) (ts : List Sent) → ((s : ℕ) → is_returned n s past ≡ false) → has_some ts ≡ true → list_all (λ t. is_settled n t.stream.0 past) ts ≡ false
all_out n past [] none some = absurd (false≢true some)
all_out n past (t ∷ ts) none some = rw (not-settled n t.stream.0 past (none t.stream.0)) refl

pub no-sensor : (script : Script) (h : List Move) (n : ℕ) → IsRun script h → is_quiet (trace_of h) ≡ true → is_sensor_out h n ≡ false
no-sensor script h n run quiet =
    elim (cases_Bool (is_sensor_out h n)) [
      | inl out ↦ (
          let legal = runs_legally script h run in
          let sent = shutter-sent script (trace_of h) n legal (and_parts (has_shutter n (trace_of h)) (not (is_sensor_done_in h n)) out).0 in
          let back = (quiet-done (trace_of h) n quiet sent).back in
          let none = all_out n (trace_of h) (targets_of n (trace_of h)) (λ s. sensor-kept script h n s run out) (sent-targets script (trace_of h) n legal sent) in
          absurd (both_ways (all_settled n (trace_of h)) none back)
          )
      | inr none ↦ none
    ]

pub no_sensor_at_rest : (script : Script) (h : List Move) → NoSensorAtRest script h
no_sensor_at_rest script h run quiet n = no-sensor script h n run quiet
