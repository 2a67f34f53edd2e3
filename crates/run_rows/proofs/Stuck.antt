-- A run never gets stuck: by cases over the least open frame, and where no frame is open over the buffers, the fences, the
-- queue and the client's next command.
use Rattle.std.proofs.Common.{◌≡◌, ◌⊎◌, ℕ, true, false, List, refl, inl, inr}
use Rattle.std.proofs.lemmas.Bool.{false≢true}
use Rattle.cam_types.specs.Script.{is_valid}
use Rattle.cam_types.specs.declared.script.Script.{Script}
use Rattle.trace_model.specs.Client.{begin_due, call_due}
use Rattle.trace_model.specs.Complete.{IsComplete, is_all_signalled}
use Rattle.trace_model.specs.Drop.{drop_due}
use Rattle.trace_model.specs.Legal.{IsLegal}
use Rattle.trace_model.specs.Open.{is_quiet}
use Rattle.trace_model.specs.Place.{all_in_pool}
use Rattle.trace_model.specs.Send.{send_due}
use Rattle.state_facts.proofs.Least.{quiet-or-least}
use Rattle.state_facts.proofs.Quiet.{pool-or-client, signalled-or-not, there-when-quiet}
use Rattle.state_facts.proofs.Served.{IsAble, able}
use Rattle.state_facts.proofs.Rest.{RestOf, Drops, Sends, Begins, Answers, Over, rest-of}
use Rattle.run_model.specs.declared.step.Move.{Move}
use Rattle.run_model.specs.declared.step.StepName.{StepName}
use Rattle.run_model.specs.declared.step.StepName.TheVariants.{Send, Release, Signal, Client, DropQueued, SensorDone, FillDone}
use Rattle.run_model.specs.History.{trace_of}
use Rattle.run_model.specs.Jobs.{is_sensor_out, is_fill_out}
use Rattle.run_model.specs.Ready.{is_ready, or_entry}
use Rattle.run_model.specs.Run.{IsRun}
use Rattle.run_rows.specs.StuckLaws.{HasCandidates, NeverStuck, NeverWaitsIdly, is_of_job}
use Rattle.run_rows.proofs.Named.{GoesOn, some-candidate}
use Rattle.run_rows.proofs.OpenSteps.{added, open-goes-on, or_first, or_second}
use Rattle.run_model.proofs.Legal.{runs_legally}

module _ (script : Script) (h : List Move) (can : IsAble script.profile) (run : IsRun script h) (legal : IsLegal script (trace_of h)) where
  by_rest : is_quiet (trace_of h) ≡ true → all_in_pool (trace_of h) ≡ true → is_all_signalled (trace_of h) ≡ true → RestOf script (trace_of h) → IsComplete script (trace_of h) ⊎ GoesOn script h
  by_rest quiet home signals (Drops some) = inr (DropQueued, added DropQueued (drop_due script (trace_of h)) some, refl)
  by_rest quiet home signals (Sends some) = inr (Send, added Send (send_due script (trace_of h)) some, refl)
  by_rest quiet home signals (Begins some) = inr (Client, added Client (or_entry (begin_due script (trace_of h)) (call_due script (trace_of h))) (or_first (begin_due script (trace_of h)) (call_due script (trace_of h)) some), refl)
  by_rest quiet home signals (Answers some) = inr (Client, added Client (or_entry (begin_due script (trace_of h)) (call_due script (trace_of h))) (or_second (begin_due script (trace_of h)) (call_due script (trace_of h)) some), refl)
  by_rest quiet home signals (Over empty calls) = inl (record { legal = legal; calls = calls; open_frames = quiet; queue = empty; pool = home; signals = signals })

  at_rest : is_quiet (trace_of h) ≡ true → IsComplete script (trace_of h) ⊎ GoesOn script h
  at_rest quiet =
      elim (pool-or-client script (trace_of h) legal quiet) [
        | inl home ↦ elim (signalled-or-not script (trace_of h) legal) [
          | inl signals ↦ by_rest quiet home signals (rest-of script (trace_of h) can legal quiet home)
          | inr fence ↦ inr (Signal (record { 0 = fence.0 }), rw (fence.1, fence.2) refl, fence.1)
        ]
        | inr client ↦ inr (Release (record { 0 = client.0 }), rw (client.1, there-when-quiet script (trace_of h) client.0 legal quiet) refl, client.2)
      ]

  goes_on : IsComplete script (trace_of h) ⊎ GoesOn script h
  goes_on =
      elim (quiet-or-least script (trace_of h) legal) [
        | inl quiet ↦ at_rest quiet
        | inr least ↦ inr (open-goes-on script h least.0 run legal least.1)
      ]

run_goes : (script : Script) (h : List Move) → is_valid script ≡ true → IsRun script h → IsComplete script (trace_of h) ⊎ GoesOn script h
run_goes script h valid run = goes_on script h (able script valid) run (runs_legally script h run)

pub never_stuck : (script : Script) (h : List Move) → NeverStuck script h
never_stuck script h valid run = elim (run_goes script h valid run) [ inl over ↦ inl over | inr some ↦ inr (some.0, some.1) ]

pub has_candidates : (script : Script) (h : List Move) → HasCandidates script h
has_candidates script h valid run = elim (run_goes script h valid run) [ inl over ↦ inl over | inr some ↦ inr (some-candidate script h some.0 some.1 some.2) ]

-- ---- while no job is out

other_step : (script : Script) (h : List Move) (step : StepName) → ((n : ℕ) → is_sensor_out h n ≡ false) → ((n s : ℕ) → is_fill_out h n s ≡ false) → is_ready script h step ≡ true → is_of_job step ≡ false
other_step script h (SensorDone n) sensor fill ready = let wrong : false ≡ true = rw (sensor n.0) at ready in absurd (false≢true wrong)
other_step script h (FillDone n s) sensor fill ready = let wrong : false ≡ true = rw (fill n.0 s.0) at ready in absurd (false≢true wrong)
other_step script h _ sensor fill ready = refl

pub never_idle : (script : Script) (h : List Move) → NeverWaitsIdly script h
never_idle script h valid run sensor fill =
    elim (never_stuck script h valid run) [
      | inl over ↦ inl over
      | inr some ↦ inr (some.0, some.1, other_step script h some.0 sensor fill some.1)
    ]
