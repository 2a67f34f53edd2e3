-- The parts after a step are what its move makes of those before it.
use Rattle.std.proofs.Common.{◌≡◌, Bool, true, false, ◌&&◌, Some, None, refl, sym, ap, ◌∙◌, filter}
use Rattle.cam_types.specs.Rows.{is_open}
use Rattle.cam_types.specs.declared.number.FrameNo.{FrameNo}
use Rattle.cam_types.specs.declared.row.RowView.{RowView}
use Rattle.cam_types.specs.declared.script.Script.{Script}
use Rattle.trace_model.specs.declared.entry.Entry.{Entry}
use Rattle.run_model.specs.declared.step.Move.{Move}
use Rattle.run_model.specs.declared.step.StepName.{StepName}
use Rattle.state_facts.specs.Turns.{next_of}
use Rattle.state_facts.specs.Clients.{Clients}
use Rattle.state_facts.specs.Clients as client
use Rattle.client_calls.specs.Around.{Fits}
use Rattle.state_facts.specs.Turns.{repeats_next, settings_next}
use Rattle.device_rows.specs.Ready.{is_retire_ready}
use Rattle.device_rows.specs.Rows.{row_at, with_row}
use Rattle.run_rows.specs.Changes.{after}
use Rattle.service_parts.specs.After.{client_after, ending_frame, ends_by, parts_after, repeats_in, rows_after}
use Rattle.service_parts.specs.Moves.{move_by}
use Rattle.service_parts.specs.Parts.{Parts}
use Rattle.service_state.specs.Answers.{Makes, Stays}
use Rattle.service_state.specs.Serving.{IsServing, Serving, left, parts_of}
use Rattle.service_state.specs.declared.state.ServiceState.TheInside.{Inside}
use Rattle.service_state.proofs.Endings.{KeepsFrame, ending_ends, ending_rows}
use Rattle.service_state.proofs.Fitting.{fits_left}
use Rattle.service_state.proofs.Runs.{next_left, rows_open, rows_rise}

-- parts with equal fields are equal
pub same_parts : (x y : Parts) → x.client ≡ y.client → x.queue ≡ y.queue → x.kinds ≡ y.kinds → x.buffers ≡ y.buffers → x.pictures ≡ y.pictures → x.rows ≡ y.rows → x.last ≡ y.last → x.clock ≡ y.clock → x ≡ y
same_parts x y a b c d h e f g =
    let k : record { client = x.client; queue = x.queue; kinds = x.kinds; buffers = x.buffers; pictures = x.pictures; rows = x.rows; last = x.last; clock = x.clock } ≡ record { client = y.client; queue = y.queue; kinds = y.kinds; buffers = y.buffers; pictures = y.pictures; rows = y.rows; last = y.last; clock = y.clock } = rw (a, b, c, d, h, e, f, g) refl in k

-- a move that was ready, with what it left
pub makes : (s : Serving) (p : Parts) (m : Move) → move_by s.script s.parts m.step ≡ Some m → p ≡ parts_after s.script m s.parts → Makes s (record { script = s.script; parts = p }) m
makes s p m ready same = record { ready = ready; left = ap (λ (q : Parts). record { script = s.script; parts = q }) same }

-- what the client has called after it fits its types
pub fits_next : (s : Serving) → IsServing s → (m : Move) → move_by s.script s.parts m.step ≡ Some m → Fits (parts_after s.script m s.parts).client
fits_next s serving m ready = fits_left s.script (parts_after s.script m s.parts) (next_left s.script s.parts serving.run m ready) serving.typed serving.valid

-- ---- a step that may end frame n, whose row it changes

-- the step is of the frame, and so is its change; of the item that may be sent next it knows nothing
pub record IsOfFrame (p : Parts) (m : Move) (e : Entry) (n : FrameNo) (f : RowView → RowView) : Type 0 where
  pub entry : m.entry ≡ Some e
  pub frame : ending_frame m.step ≡ Some n
  pub change : after (settings_next (next_of p.queue)) m p.rows ≡ with_row n.0 f p.rows
  pub keeps : KeepsFrame f
  pub client : (script : Script) (repeats ends : Bool) (t : Clients) → client.clients_after script repeats ends e t ≡ client.clients_after script false ends e t

-- the rows left
pub frame_rows : (s : Serving) → IsServing s → (m : Move) (e : Entry) (n : FrameNo) (f : RowView → RowView) → IsOfFrame s.parts m e n f → rows_after s.parts m ≡ left n.0 (with_row n.0 f s.parts.rows)
frame_rows s serving m e n f is =
    ap (λ xs. filter is_open xs) is.change ∙ ending_rows n.0 f is.keeps s.parts.rows (rows_open s.script s.parts serving.run) (rows_rise s.script s.parts serving.run)

-- the client's calls
pub frame_client : (s : Serving) → IsServing s → (m : Move) (e : Entry) (n : FrameNo) (f : RowView → RowView) → IsOfFrame s.parts m e n f → (parts_after s.script m s.parts).client ≡ client.clients_after s.script false (repeats_in s.parts.kinds (row_at n.0 s.parts.rows) && is_retire_ready (with_row n.0 f s.parts.rows) n.0) e s.parts.client
frame_client s serving m e n f is =
    let repeats = repeats_next (next_of s.parts.queue) in
    let ends : ends_by s.parts.kinds s.parts.rows (rows_after s.parts m) (ending_frame m.step) ≡ (repeats_in s.parts.kinds (row_at n.0 s.parts.rows) && is_retire_ready (with_row n.0 f s.parts.rows) n.0) =
    ap (λ o. ends_by s.parts.kinds s.parts.rows (rows_after s.parts m) o) is.frame
    ∙ (ap (λ xs. ends_by s.parts.kinds s.parts.rows (filter is_open xs) (Some n)) is.change
    ∙ ending_ends n f is.keeps s.parts.kinds s.parts.rows (rows_open s.script s.parts serving.run) (rows_rise s.script s.parts serving.run)) in
    let ended = repeats_in s.parts.kinds (row_at n.0 s.parts.rows) && is_retire_ready (with_row n.0 f s.parts.rows) n.0 in
    let noted : (parts_after s.script m s.parts).client ≡ client.clients_after s.script repeats ended e s.parts.client =
    ap (λ b. client_after s.script repeats b m.entry s.parts.client) ends ∙ ap (λ o. client_after s.script repeats ended o s.parts.client) is.entry in
    noted ∙ is.client s.script repeats (repeats_in s.parts.kinds (row_at n.0 s.parts.rows) && is_retire_ready (with_row n.0 f s.parts.rows) n.0) s.parts.client

-- so the client's calls fit
pub frame_fits : (s : Serving) → IsServing s → (m : Move) (e : Entry) (n : FrameNo) (f : RowView → RowView) → IsOfFrame s.parts m e n f → move_by s.script s.parts m.step ≡ Some m → Fits (client.clients_after s.script false (repeats_in s.parts.kinds (row_at n.0 s.parts.rows) && is_retire_ready (with_row n.0 f s.parts.rows) n.0) e s.parts.client)
frame_fits s serving m e n f is ready = rw (sym (frame_client s serving m e n f is)) (fits_next s serving m ready)

-- ---- as a contract sees it

-- the parts as they are held
abbrev pub held : Inside → Serving
held i = record { script = i.script; parts = parts_of i.client i.captures i.buffers i.fences i.device i.last i.clock }

pub serving_as : (s t : Serving) → s ≡ t → IsServing t → IsServing s
serving_as s t same serving = rw same serving

pub makes_as : (s t new : Serving) (m : Move) → s ≡ t → IsServing t → (IsServing s → Makes s new m) → Makes t new m
makes_as s t new m same serving make = rw (sym same) (make (rw same serving))

pub stays_as : (s t new : Serving) (step : StepName) → s ≡ t → new ≡ s → move_by s.script s.parts step ≡ None → Stays t new step
stays_as s t new step same new' none = record { ready = rw (sym same) none; same = new' ∙ same }

-- what an answer in a Bool refuses is false
pub not_true : (b : Bool) → (b ≡ true → false ≡ true) → b ≡ false
not_true true h = sym (h refl)
not_true false h = refl
