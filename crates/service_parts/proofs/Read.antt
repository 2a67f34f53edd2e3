-- Each step is ready, and makes its move, exactly as the parts say.
use Rattle.std.proofs.Common.{◌≡◌, ℕ, ◌&&◌, List, Option, refl, ap, ◌∙◌}
use Rattle.std.specs.Option.{option_map}
use Rattle.cam_types.specs.declared.number.FrameNo.{FrameNo}
use Rattle.cam_types.specs.declared.number.StreamIx.{StreamIx}
use Rattle.cam_types.specs.declared.script.Script.{Script}
use Rattle.trace_model.specs.declared.entry.Entry.{Entry}
use Rattle.trace_model.specs.Client.{begin_due, call_due}
use Rattle.trace_model.specs.Fence.{is_signalled}
use Rattle.run_model.specs.declared.step.Move.{Move}
use Rattle.run_model.specs.declared.step.StepName.{StepName}
use Rattle.run_model.specs.declared.step.StepName.TheVariants.{Send, Release, Signal, Client, DropQueued, Fail, ReturnFailed, Shutter, SensorDone, Partial, TakeFill, FillDone, Deliver, Early, Finish}
use Rattle.run_model.specs.History.{trace_of}
use Rattle.run_model.specs.Ready.{adding, move_of, or_entry, silent, where_entry}
use Rattle.run_model.specs.Rows.{rows}
use Rattle.run_model.specs.Run.{IsRun}
use Rattle.run_model.proofs.Legal.{runs_legally}
use Rattle.state_facts.specs.Homes.{homes, signalled_in}
use Rattle.state_facts.proofs.BufferReadings.{earlies_are, release_is, signal_is, signalled_is}
use Rattle.state_facts.specs.Clients.{clients}
use Rattle.state_facts.specs.Replies.{begin_in, call_in}
use Rattle.state_facts.proofs.ClientReadings.{begin_is, call_is}
use Rattle.state_facts.specs.Turns.{turns}
use Rattle.device_rows.specs.Ready.{is_delivery_ready, is_early_ready, is_failed_return_ready, may_deliver}
use Rattle.device_rows.specs.Rows.{target_in}
use Rattle.run_rows.specs.Entries.{early_entry, filled_entry}
use Rattle.run_rows.specs.Kept.{is_no_row}
use Rattle.run_rows.proofs.Buffers.{take_is}
use Rattle.run_rows.proofs.Counted.{quiet_is}
use Rattle.run_rows.proofs.Errors.{error_is}
use Rattle.run_rows.proofs.Moves.{delivery_is, early_is, failed_is}
use Rattle.run_rows.proofs.Parts.{part_is}
use Rattle.run_rows.proofs.Sensor.{shutter_is}
use Rattle.run_rows.proofs.Work.{sensor_is}
use Rattle.run_rows.proofs.WorkJobs.{fill_is}
use Rattle.state_facts.proofs.StateSends.{drop_is}
use Rattle.service_parts.specs.Moves.{move_by}
use Rattle.service_parts.specs.Parts.{parts}
use Rattle.service_parts.proofs.Pictures.{digest-read}
use Rattle.service_parts.proofs.Sends.{send-read}
use Rattle.service_parts.proofs.Signals.{finish-read, passing-open, where-same}
use Rattle.service_parts.proofs.Fences.{failed-same, fill-ready-same}

-- ---- the client

client-read : (script : Script) (h : List Move) → IsRun script h → or_entry (begin_due script (trace_of h)) (call_due script (trace_of h)) ≡ or_entry (begin_in script (clients script (trace_of h))) (call_in script (is_no_row (rows script h)) (clients script (trace_of h)) (turns script (trace_of h)) (homes (trace_of h)))
client-read script h run =
    let past = trace_of h in
    either _ _ _ _ (begin_is script past)
    (call_is script past (runs_legally script h run) ∙ ap (λ b. call_in script b (clients script past) (turns script past) (homes past)) (quiet_is script h))
  where
    either : (x y z w : Option Entry) → x ≡ y → z ≡ w → or_entry x z ≡ or_entry y w
    either x y z w e f = rw (e, f) refl

-- ---- buffers that come back

signalled-same : (script : Script) (h : List Move) → IsRun script h → (f : ℕ) → is_signalled f (trace_of h) ≡ signalled_in (homes (trace_of h)) f
signalled-same script h run f = signalled_is script (trace_of h) f (runs_legally script h run)

failed-read : (script : Script) (h : List Move) (n : FrameNo) (s : StreamIx) → IsRun script h → move_of script h (ReturnFailed n s) ≡ move_by script (parts script h) (ReturnFailed n s)
failed-read script h n s run =
    failed_is script h n s run
    ∙ ap (λ (o : Option Entry). adding (ReturnFailed n s) (where_entry (is_failed_return_ready (rows script h) n.0 s.0) o))
    (failed-same (λ f. is_signalled f (trace_of h)) (λ f. signalled_in (homes (trace_of h)) f) (signalled-same script h run) n.0 s.0 (target_in n.0 s.0 (rows script h)))

take-read : (script : Script) (h : List Move) (n : FrameNo) (s : StreamIx) → IsRun script h → move_of script h (TakeFill n s) ≡ move_by script (parts script h) (TakeFill n s)
take-read script h n s run =
    ap (λ b. silent (TakeFill n s) b)
    (take_is script h n.0 s.0 run
    ∙ fill-ready-same (λ f. is_signalled f (trace_of h)) (λ f. signalled_in (homes (trace_of h)) f) (signalled-same script h run) script.faults (rows script h) n.0 s.0)

delivery-read : (script : Script) (h : List Move) (n : FrameNo) (s : StreamIx) → IsRun script h → move_of script h (Deliver n s) ≡ move_by script (parts script h) (Deliver n s)
delivery-read script h n s run =
    delivery_is script h n s run
    ∙ ap (λ (o : Option Entry). adding (Deliver n s) o)
    (where-same (is_delivery_ready script.faults (rows script h) n.0 s.0) _ _
    (λ ready. ap (λ (x : List ℕ). option_map (filled_entry x n.0 s.0) (target_in n.0 s.0 (rows script h))) (digest-read script h n.0 s.0 (passing-open script h (may_deliver script.faults (rows script h)) n.0 s.0 ready))))

early-read : (script : Script) (h : List Move) (n : FrameNo) (s : StreamIx) → IsRun script h → move_of script h (Early n s) ≡ move_by script (parts script h) (Early n s)
early-read script h n s run =
    early_is script h n s run
    ∙ ap (λ (d : ℕ). adding (Early n s) (where_entry (script.early && is_early_ready script.faults (rows script h) n.0 s.0) (option_map (early_entry d n.0 s.0) (target_in n.0 s.0 (rows script h))))) (earlies_are (trace_of h))

-- ---- each step

pub move_read : (script : Script) (h : List Move) (step : StepName) → IsRun script h → move_of script h step ≡ move_by script (parts script h) step
move_read script h Send run = ap (λ (o : Option Entry). adding Send o) (send-read script h run)
move_read script h (Release b) run = ap (λ (o : Option Entry). adding (Release b) o) (release_is script (trace_of h) b.0 (runs_legally script h run))
move_read script h (Signal f) run = ap (λ (o : Option Entry). adding (Signal f) o) (signal_is script (trace_of h) f.0 (runs_legally script h run))
move_read script h Client run = ap (λ (o : Option Entry). adding Client o) (client-read script h run)
move_read script h DropQueued run = ap (λ (o : Option Entry). adding DropQueued o) (drop_is script (trace_of h))
move_read script h (Fail n) run = ap (λ (o : Option Entry). adding (Fail n) o) (error_is script h n.0 run)
move_read script h (ReturnFailed n s) run = failed-read script h n s run
move_read script h Shutter run = ap (λ (o : Option Entry). adding Shutter o) (shutter_is script h run)
move_read script h (SensorDone n) run = ap (λ b. silent (SensorDone n) b) (sensor_is script h n.0 run)
move_read script h (Partial n) run = ap (λ (o : Option Entry). adding (Partial n) o) (part_is script h n.0 run)
move_read script h (TakeFill n s) run = take-read script h n s run
move_read script h (FillDone n s) run = ap (λ b. silent (FillDone n s) b) (fill_is script h n.0 s.0 run)
move_read script h (Deliver n s) run = delivery-read script h n s run
move_read script h (Early n s) run = early-read script h n s run
move_read script h (Finish n s) run = finish-read script h n s run
