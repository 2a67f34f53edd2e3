-- A job that is out stays out at each step that adds an entry.
use Rattle.std.proofs.Common.{◌≡◌, ℕ, ◌==◌, true, not, List, ◌∷◌, Option, Some, None, refl, sym, ap, ◌∙◌, find, inl, inr, slice_get}
use Rattle.std.specs.Option.{option_map}
use Rattle.std.proofs.lemmas.Bool.{and_parts, cases_Bool, false≢true, or_right}
use Rattle.cam_types.specs.declared.job.FillTarget.{FillTarget}
use Rattle.cam_types.specs.declared.job.JobView.{JobView}
use Rattle.cam_types.specs.declared.reply.Reply.TheVariants.{Configured, Ok, Submitted, Refused}
use Rattle.cam_types.specs.declared.script.Script.{Script}
use Rattle.trace_model.specs.declared.entry.Entry.{Entry}
use Rattle.trace_model.specs.declared.entry.Entry.TheVariants.{Call}
use Rattle.trace_model.specs.declared.entry.Sent.{Sent}
use Rattle.trace_model.specs.Configuration.{streams}
use Rattle.trace_model.specs.Entry.{is_shutter}
use Rattle.trace_model.specs.Frames.{has_shutter, is_sent}
use Rattle.trace_model.specs.Legal.{IsLegal}
use Rattle.trace_laws.proofs.Frames.{sent-once}
use Rattle.run_model.proofs.Entries.{open-sent}
use Rattle.run_model.proofs.Legal.{runs_legally}
use Rattle.state_facts.proofs.Accepted.{settings-kept}
use Rattle.run_model.proofs.Home.{fill_open}
use Rattle.run_model.proofs.Targets.{dark-next}
use Rattle.run_model.specs.History.{trace_of}
use Rattle.run_model.specs.Jobs.{IsFillJob, IsJobOut, IsOutWith, IsSensorJob, is_fill_out, is_sensor_done_in}
use Rattle.run_model.specs.Run.{IsRun}
use Rattle.run_model.specs.declared.step.Move.{Move}
use Rattle.run_model.specs.declared.step.StepName.{StepName}
use Rattle.run_rows.proofs.Noted.{fill-same, no-sensor, not-silent, targets-noted}
use Rattle.run_model.specs.State.{State}
use Rattle.service_parts.proofs.AtRest.{configured_rest}
use Rattle.service_core.proofs.Outs.{no_fill_at_rest}
use Rattle.service_core.specs.Answers.{AnswersStep, adds}
use Rattle.service_core.specs.declared.step.Step.{Step}
use Rattle.service_core.specs.declared.step.Step.TheVariants.{Did, NotReady}

-- ---- at a move that adds an entry

-- the streams of the configuration stay while a fill is out
same-streams : (script : Script) (h : List Move) (step : StepName) (e : Entry) (n s : ℕ) → IsRun script (adds step e ∷ h) → is_fill_out h n s ≡ true → streams script (e ∷ trace_of h) ≡ streams script (trace_of h)
same-streams script h step (Call i word (Configured each)) n s run out =
    let rest = configured_rest script h (adds step (Call i word (Configured each))) i word each run refl in
    absurd (false≢true (sym (no_fill_at_rest script h n s run.1 rest) ∙ out))
same-streams script h step (Call i word Ok) n s run out = refl
same-streams script h step (Call i word (Submitted r)) n s run out = refl
same-streams script h step (Call i word (Refused code a b)) n s run out = refl
same-streams script h step _ n s run out = refl

fill-stays : (script : Script) (h : List Move) (step : StepName) (e : Entry) (job : JobView) (target : FillTarget) → IsRun script (adds step e ∷ h) → IsFillJob script h job target → IsFillJob script (adds step e ∷ h) job target
fill-stays script h step e job target run is =
    let past = trace_of h in
    let n = job.frame.0 in
    let s = target.stream.0 in
    let legal = runs_legally script (adds step e ∷ h) run in
    let sent = open-sent n past (fill_open script h n s run.1 is.out) in
    record {
      out = fill-same script h step e n s run.0 ∙ is.out;
      settings = is.settings ∙ sym (settings-kept script past e n legal sent (sent-once script past e n legal.1 legal.0 sent));
      fill = is.fill;
      spec = ap (λ x. slice_get x s) (same-streams script h step e n s run is.out) ∙ is.spec;
      buffer = ap (λ (ts : List Sent). option_map (λ t. t.buffer) (find (λ t. t.stream.0 == s) ts)) (targets-noted script past e n legal sent) ∙ is.buffer;
    }

shot-sent : (script : Script) (past : List Entry) (n : ℕ) → IsLegal script past → has_shutter n past ≡ true → is_sent n past ≡ true
shot-sent script past n legal shot =
    elim (cases_Bool (is_sent n past)) [
      | inl sent ↦ sent
      | inr unsent ↦ absurd (false≢true (sym (dark-next script past n legal unsent) ∙ shot))
    ]

sensor-stays : (script : Script) (h : List Move) (step : StepName) (e : Entry) (job : JobView) → IsRun script (adds step e ∷ h) → IsSensorJob script h job → IsSensorJob script (adds step e ∷ h) job
sensor-stays script h step e job run is =
    let past = trace_of h in
    let n = job.frame.0 in
    let legal = runs_legally script (adds step e ∷ h) run in
    let both = and_parts (has_shutter n past) (not (is_sensor_done_in h n)) is.out in
    let sent = shot-sent script past n legal.1 both.0 in
    let on = or_right (is_shutter n e) (has_shutter n past) both.0 in
    record {
      out = rw (on, no-sensor step n (not-silent script h step e run.0)) both.1;
      settings = is.settings ∙ sym (settings-kept script past e n legal sent (sent-once script past e n legal.1 legal.0 sent));
      no_fill = is.no_fill;
    }

out_stays : (script : Script) (h : List Move) (step : StepName) (e : Entry) (job : JobView) → IsRun script (adds step e ∷ h) → IsJobOut script h job → IsJobOut script (adds step e ∷ h) job
out_stays script h step e job run is = by job.fill is
  where
    by : (o : Option FillTarget) → IsOutWith script h job o → IsOutWith script (adds step e ∷ h) job o
    by (Some target) out = fill-stays script h step e job target run out
    by None out = sensor-stays script h step e job run out

-- ---- at a call of the service

pub carried : (step : StepName) (old new : State) (answer : Step) → AnswersStep step old answer new → IsRun new.script new.history → IsRun old.script old.history × ((job : JobView) → IsJobOut old.script old.history job → IsJobOut new.script new.history job)
carried step old new (Did e) told run =
    let run' = rw told.left at run in
    (run'.1, λ job out. rw told.left (out_stays old.script old.history step e job run' out))
carried step old new NotReady told run = (rw told.same at run, λ job out. rw told.same out)
