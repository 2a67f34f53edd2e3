-- What each move makes of the client: it counts the frames of repeating requests whose rows go.
use Rattle.std.proofs.Common.{◌≡◌, ◌+◌, Bool, ◌&&◌, not, List, Option, Some, None, refl, sym, ap, ◌∙◌, find}
use Rattle.std.proofs.lemmas.Bool.{false≢true}
use Rattle.cam_types.specs.declared.script.Script.{Script}
use Rattle.trace_model.specs.declared.entry.Entry.{Entry}
use Rattle.trace_model.specs.declared.entry.Entry.TheVariants.{Partial as PartialEntry, Filled, Failed, ErrorRequest, ErrorResult, Late as LateEntry}
use Rattle.trace_model.specs.Calls.{next_command}
use Rattle.trace_model.specs.Client.{begin_due}
use Rattle.trace_model.specs.Errors.{failed_due, fence_left}
use Rattle.trace_model.specs.Filled.{early_due, filled_due}
use Rattle.trace_model.specs.Frames.{frames, shutter_time, target_of}
use Rattle.trace_model.specs.Open.{early_fences}
use Rattle.trace_model.specs.Partial.{partial_count}
use Rattle.trace_model.specs.Picture.{digest_of}
use Rattle.trace_model.specs.Queue.{first_in, queued}
use Rattle.trace_model.specs.Shutter.{may_expose}
use Rattle.trace_model.specs.Stopping.{is_stopping}
use Rattle.run_model.specs.declared.step.Move.{Move}
use Rattle.run_model.specs.declared.step.StepName.{StepName}
use Rattle.run_model.specs.declared.step.StepName.TheVariants.{Send, Release, Signal, Client, DropQueued, Fail, ReturnFailed, Shutter, SensorDone, Partial, TakeFill, FillDone, Deliver, Early, Finish}
use Rattle.run_model.specs.History.{trace_of}
use Rattle.run_model.specs.Jobs.{is_fill_out, is_filled_in, is_sensor_out}
use Rattle.run_model.specs.Ready.{adding, finish_due}
use Rattle.run_model.specs.Rows.{rows}
use Rattle.run_model.specs.Run.{IsRun}
use Rattle.run_model.proofs.Legal.{adds, begin_shape, by_test, call_shape, drop_shape, early_shape, failed_shape, filled_shape, part_shape, runs_legally, shutter_shape, where-entry}
use Rattle.state_facts.specs.Clients.{clients, finishes}
use Rattle.state_facts.specs.Clients as client
use Rattle.run_rows.proofs.Jobs.{finish-shape}
use Rattle.run_rows.proofs.Noted.{not-silent}
use Rattle.service_parts.specs.After.{ending_frame, ends_by}
use Rattle.service_parts.specs.Parts.{kinds}
use Rattle.service_parts.proofs.Ends.{end-read, late-ends, with_move}
use Rattle.run_model.proofs.Shapes.{error-shape, or-shape, send-shape}

-- what the client notes of an entry, with the end of a frame read from the rows
abbrev pub Counts : Script → List Move → StepName → Entry → Type 0
Counts script h step e =
    IsRun script (with_move step e h) → (repeats : Bool) → client.clients_after script repeats (finishes script (trace_of h) e) e (clients script (trace_of h)) ≡ client.clients_after script repeats (ends_by (kinds script (trace_of h)) (rows script h) (rows script (with_move step e h)) (ending_frame step)) e (clients script (trace_of h))

added : (step : StepName) (o : Option Entry) (e : Entry) → adding step o ≡ Some (record { step = step; entry = Some e }) → o ≡ Some e
added step o e h = let a = adds step o _ h in a.1 ∙ sym a.2

-- ---- each step

pub counted : (script : Script) (h : List Move) (step : StepName) (e : Entry) → Counts script h step e
counted script h Send e run = send-shape (Counts script h Send) script (trace_of h) e (added Send _ e run.0) (λ w ts run repeats. refl) run
counted script h (Release b) e run = by_test (Counts script h (Release b)) _ _ e (added (Release b) _ e run.0) (λ t run repeats. refl) run
counted script h (Signal f) e run = by_test (Counts script h (Signal f)) _ _ e (added (Signal f) _ e run.0) (λ t run repeats. refl) run
counted script h Client e run =
    or-shape (Counts script h Client) (begin_due script (trace_of h)) _ e (added Client _ e run.0)
    (λ d k. begin_shape (Counts script h Client) (trace_of h) (next_command script (trace_of h)) d k (λ c run repeats. refl))
    (λ d k. call_shape (Counts script h Client) script (trace_of h) (next_command script (trace_of h)) d k (λ c run repeats. refl)) run
counted script h DropQueued e run =
    drop_shape (Counts script h DropQueued) (trace_of h) (is_stopping (trace_of h)) (first_in (queued script (trace_of h))) e (added DropQueued _ e run.0) (λ w run repeats. refl) run
counted script h (Fail n) e run =
    error-shape (Counts script h (Fail n)) script (trace_of h) n.0 e (added (Fail n) _ e run.0) (λ run repeats. refl)
    (λ run repeats. ap (λ b. client.clients_after script repeats b (ErrorRequest n) (clients script (trace_of h))) (end-read script h (Fail n) (ErrorRequest n) n run refl))
    (λ run repeats. ap (λ b. client.clients_after script repeats b (ErrorResult n) (clients script (trace_of h))) (end-read script h (Fail n) (ErrorResult n) n run refl))
    (λ s run repeats. refl) run
counted script h (ReturnFailed n s) e run =
    let both = where-entry (not (is_sensor_out h n.0) && not (is_fill_out h n.0 s.0)) (failed_due (trace_of h) n.0 s.0) e (added (ReturnFailed n s) _ e run.0) in
    failed_shape (Counts script h (ReturnFailed n s)) (trace_of h) n.0 s.0 (target_of n.0 s.0 (trace_of h)) e both.1
    (λ t run repeats. ap (λ b. client.clients_after script repeats b (Failed n s t.buffer (fence_left t.fence (trace_of h))) (clients script (trace_of h))) (end-read script h (ReturnFailed n s) (Failed n s t.buffer (fence_left t.fence (trace_of h))) n run refl)) run
counted script h Shutter e run =
    shutter_shape (Counts script h Shutter) script (trace_of h) (find (may_expose script (trace_of h)) (frames (trace_of h))) e (added Shutter _ e run.0) (λ n run repeats. refl) run
counted script h (SensorDone n) e run = absurd (false≢true (sym (not-silent script h (SensorDone n) e run.0)))
counted script h (Partial n) e run =
    part_shape (Counts script h (Partial n)) script (trace_of h) n.0 (partial_count n.0 (trace_of h) + 1) (shutter_time n.0 (trace_of h)) e (added (Partial n) _ e run.0)
    (λ part run repeats. ap (λ b. client.clients_after script repeats b (PartialEntry n (partial_count n.0 (trace_of h) + 1) part) (clients script (trace_of h))) (end-read script h (Partial n) (PartialEntry n (partial_count n.0 (trace_of h) + 1) part) n run refl)) run
counted script h (TakeFill n s) e run = absurd (false≢true (sym (not-silent script h (TakeFill n s) e run.0)))
counted script h (FillDone n s) e run = absurd (false≢true (sym (not-silent script h (FillDone n s) e run.0)))
counted script h (Deliver n s) e run =
    let both = where-entry (is_filled_in h n.0 s.0) (filled_due script (trace_of h) n.0 s.0) e (added (Deliver n s) _ e run.0) in
    filled_shape (Counts script h (Deliver n s)) script (trace_of h) n.0 s.0 (target_of n.0 s.0 (trace_of h)) e both.1
    (λ t run repeats. ap (λ b. client.clients_after script repeats b (Filled n s t.buffer None (digest_of script (trace_of h) n.0 s.0)) (clients script (trace_of h))) (end-read script h (Deliver n s) (Filled n s t.buffer None (digest_of script (trace_of h) n.0 s.0)) n run refl)) run
counted script h (Early n s) e run =
    let both = where-entry (is_fill_out h n.0 s.0) (early_due script (trace_of h) n.0 s.0) e (added (Early n s) _ e run.0) in
    early_shape (Counts script h (Early n s)) script (trace_of h) n.0 s.0 (target_of n.0 s.0 (trace_of h)) e both.1 (λ t run repeats. refl) run
counted script h (Finish n s) e run =
    let both = where-entry (is_filled_in h n.0 s.0) (finish_due script (trace_of h) n.0 s.0) e (added (Finish n s) _ e run.0) in
    finish-shape (Counts script h (Finish n s)) script h n.0 s.0 (early_fences n.0 s.0 (trace_of h)) e both.0 refl both.1
    (λ d x is run repeats.
    let late : Entry = LateEntry (record { 0 = d }) x in
    ap (λ b. client.clients_after script repeats b late (clients script (trace_of h)))
    (late-ends script (trace_of h) n.0 s.0 (record { 0 = d }) x is.rest (runs_legally script (with_move (Finish n s) late h) run) is.fences
    ∙ end-read script h (Finish n s) late n run refl)) run
