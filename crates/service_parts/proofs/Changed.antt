-- The parts after each move of a run are what the move makes of those before it.
use Rattle.std.proofs.Common.{◌≡◌, ℕ, ◌+◌, Bool, true, false, List, ◌∷◌, Option, Some, None, refl, sym, ap, ◌∙◌, filter, max, if◌then◌else◌}
use Rattle.cam_types.specs.Limits.{frame_time}
use Rattle.cam_types.specs.Rows as view
use Rattle.cam_types.specs.declared.item.Settings.{Settings}
use Rattle.cam_types.specs.declared.request.Queued.{Queued}
use Rattle.cam_types.specs.declared.row.RowView.{RowView}
use Rattle.cam_types.specs.declared.script.Script.{Script}
use Rattle.trace_model.specs.declared.entry.Entry.{Entry}
use Rattle.trace_model.specs.declared.entry.Entry.TheVariants.{Shutter as ShutterEntry}
use Rattle.trace_model.specs.Legal.{IsLegal}
use Rattle.trace_model.specs.Open.{is_open}
use Rattle.trace_model.specs.Shutter.{next_time}
use Rattle.run_model.specs.declared.step.Move.{Move}
use Rattle.run_model.specs.declared.step.StepName.{StepName}
use Rattle.run_model.specs.History.{trace_of}
use Rattle.run_model.specs.Rows.{row_of, rows}
use Rattle.run_model.specs.Run.{IsRun}
use Rattle.run_model.proofs.Legal.{runs_legally}
use Rattle.state_facts.specs.Homes.{Homes}
use Rattle.state_facts.specs.Clients.{Clients, clients}
use Rattle.state_facts.specs.Clients as client
use Rattle.device_rows.specs.Rows.{row_at}
use Rattle.state_facts.specs.Turns.{Turns, next_of, turns}
use Rattle.state_facts.proofs.Readings.{next_is}
use Rattle.state_facts.specs.FrameReadings.{exposure_in, time_after}
use Rattle.state_facts.specs.FrameReadings as frame
use Rattle.state_facts.specs.Row.{Row, open_rows}
use Rattle.state_facts.specs.Row as plain
use Rattle.state_facts.proofs.FrameDone.{last_reads}
use Rattle.state_facts.proofs.OpenRows.{row-where}
use Rattle.state_facts.specs.Turns.{repeats_next, settings_next}
use Rattle.state_facts.specs.States.{State}
use Rattle.state_facts.proofs.StateSteps.{noted_is}
use Rattle.run_rows.specs.Changes.{after}
use Rattle.run_rows.proofs.Frames.{row-found}
use Rattle.run_rows.proofs.Moved.{changed_is}
use Rattle.service_parts.specs.After.{client_after, clock_by, ending_frame, ends_by, parts_after, rows_after}
use Rattle.service_parts.specs.Moves.{settings_at}
use Rattle.service_parts.specs.Parts.{Parts, kinds, parts}
use Rattle.service_parts.proofs.Client.{counted}
use Rattle.service_parts.proofs.Ends.{with_move}
use Rattle.service_parts.proofs.Accepted.{kinds-noted}
use Rattle.service_parts.proofs.Shown.{pictures_are}

-- ---- the rows

rows-changed : (script : Script) (m : Move) (h : List Move) → IsRun script (m ∷ h) → rows script (m ∷ h) ≡ rows_after (parts script h) m
rows-changed script m h run =
    changed_is script m h run
    ∙ ap (λ (o : Option Queued). filter view.is_open (after (settings_next o) m (rows script h))) (next_is script (trace_of h))

-- ---- the clock

-- both kinds of rows tell the settings of a frame that is open
exposure-same : (script : Script) (h : List Move) (n : ℕ) → IsLegal script (trace_of h) → exposure_in (frame.row_at n (open_rows script (trace_of h))) ≡ (settings_at (row_at n (rows script h))).exposure
exposure-same script h n legal =
    ap exposure_in (row-where script (trace_of h) n legal)
    ∙ (by (is_open n (trace_of h)) (plain.row_of script (trace_of h) n) (row_of script h n) refl ∙ ap (λ (v : Option RowView). (settings_at v).exposure) (sym (row-found script h n)))
  where
    by : (b : Bool) (r : Row) (v : RowView) → r.settings ≡ v.settings → exposure_in (if b then Some r else None) ≡ (settings_at (if b then Some v else None)).exposure
    by true r v same = ap (λ (s : Settings). s.exposure) same
    by false r v same = refl

clock-same : (script : Script) (h : List Move) (e : Entry) (old : ℕ) → IsLegal script (trace_of h) → time_after (open_rows script (trace_of h)) e old ≡ clock_by (rows script h) (Some e) old
clock-same script h (ShutterEntry n time) old legal = ap (λ (k : ℕ). time + max frame_time k) (exposure-same script h n.0 legal)
clock-same script h _ old legal = refl

-- ---- the client

client-changed : (script : Script) (h : List Move) (step : StepName) (e : Entry) → IsRun script (with_move step e h) → clients script (e ∷ trace_of h) ≡ client_after script (repeats_next (next_of (turns script (trace_of h)))) (ends_by (kinds script (trace_of h)) (rows script h) (rows_after (parts script h) (record { step = step; entry = Some e })) (ending_frame step)) (Some e) (clients script (trace_of h))
client-changed script h step e run =
    let past = trace_of h in
    let legal = runs_legally script (with_move step e h) run in
    let repeats = repeats_next (next_of (turns script past)) in
    ap (λ (s : State). s.client) (noted_is script past e legal)
    ∙ (ap (λ b. client.clients_after script repeats b e (clients script past)) (sym (last_reads script past e legal))
    ∙ (counted script h step e run repeats
    ∙ ap (λ (left : List RowView). client.clients_after script repeats (ends_by (kinds script past) (rows script h) left (ending_frame step)) e (clients script past)) (rows-changed script (record { step = step; entry = Some e }) h run)))

-- ---- all of it

same-parts : (a b : Clients) (c d : Turns) (k l : List Bool) (x y : Homes) (v w : List (Option (List ℕ))) (r s : List RowView) (t u : Option Settings) (i j : ℕ) → a ≡ b → c ≡ d → k ≡ l → x ≡ y → v ≡ w → r ≡ s → t ≡ u → i ≡ j → ◌≡◌ {A = Parts} (record { client = a; queue = c; kinds = k; buffers = x; pictures = v; rows = r; last = t; clock = i }) (record { client = b; queue = d; kinds = l; buffers = y; pictures = w; rows = s; last = u; clock = j })
same-parts a b c d k l x y v w r s t u i j e1 e2 e3 e4 e5 e6 e7 e8 = rw (e1, e2, e3, e4, e5, e6, e7, e8) refl

changed-by : (script : Script) (h : List Move) (step : StepName) (o : Option Entry) → IsRun script (record { step = step; entry = o } ∷ h) → parts script (record { step = step; entry = o } ∷ h) ≡ parts_after script (record { step = step; entry = o }) (parts script h)
changed-by script h step None run =
    same-parts _ _ _ _ _ _ _ _ _ _ _ _ _ _ _ _ refl refl refl refl refl (rows-changed script (record { step = step; entry = None }) h run) refl refl
changed-by script h step (Some e) run =
    let past = trace_of h in
    let legal = runs_legally script (with_move step e h) run in
    let noted = noted_is script past e legal in
    same-parts _ _ _ _ _ _ _ _ _ _ _ _ _ _ _ _ (client-changed script h step e run) (ap (λ (s : State). s.queue) noted) (kinds-noted script past e legal) (ap (λ (s : State). s.buffers) noted) (pictures_are script h step e run)
    (rows-changed script (record { step = step; entry = Some e }) h run) (ap (λ (s : State). s.last) noted) (ap (λ (s : State). s.clock) noted ∙ clock-same script h e (next_time script past) legal.1)

pub changed_parts : (script : Script) (m : Move) (h : List Move) → IsRun script (m ∷ h) → parts script (m ∷ h) ≡ parts_after script m (parts script h)
changed_parts script m h run = changed-by script h m.step m.entry run
