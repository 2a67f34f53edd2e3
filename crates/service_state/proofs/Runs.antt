-- What holds of the parts that a run leaves, and of those after one more move.
use Rattle.std.proofs.Common.{◌≡◌, true, false, ◌∷◌, Some, refl, sym, ap, ◌∙◌, filter}
use Rattle.std.specs.List.{list_all}
use Rattle.cam_types.specs.Rows.{is_open}
use Rattle.cam_types.specs.declared.script.Script.{Script}
use Rattle.trace_model.specs.Legal.{IsLegal}
use Rattle.trace_model.specs.Queue.{next}
use Rattle.run_model.specs.declared.step.Move.{Move}
use Rattle.run_model.specs.History.{trace_of}
use Rattle.run_model.specs.Ready.{move_of}
use Rattle.run_model.specs.Rows.{rows}
use Rattle.run_model.specs.Run.{IsRun}
use Rattle.run_model.proofs.Legal.{runs_legally}
use Rattle.run_rows.specs.Changes.{after, may_end}
use Rattle.run_rows.specs.Kept.{frames_rise}
use Rattle.run_rows.proofs.Counted.{frames_rise_is}
use Rattle.run_rows.proofs.Moved.{changed_is}
use Rattle.run_rows.proofs.Whole.{all-open, whole_is}
use Rattle.state_facts.specs.Turns.{settings_next}
use Rattle.state_facts.specs.Turns.{next_of}
use Rattle.state_facts.proofs.Readings.{next_is}
use Rattle.service_parts.specs.After.{parts_after, rows_after}
use Rattle.service_parts.specs.Moves.{move_by}
use Rattle.service_parts.specs.Parts.{Parts}
use Rattle.service_parts.proofs.Changed.{changed_parts}
use Rattle.service_parts.proofs.Read.{move_read}
use Rattle.service_state.specs.Serving.{IsOfRun}

-- ---- as they stand

pub legal_left : (script : Script) (p : Parts) (r : IsOfRun script p) → IsLegal script (trace_of r.history)
legal_left script p r = runs_legally script r.history r.run

pub rows_left : (script : Script) (p : Parts) (r : IsOfRun script p) → p.rows ≡ rows script r.history
rows_left script p r = ap (λ q. q.rows) r.left

pub rows_open : (script : Script) (p : Parts) → IsOfRun script p → list_all is_open p.rows ≡ true
rows_open script p r = rw (rows_left script p r) (all-open script r.history (legal_left script p r))

pub rows_rise : (script : Script) (p : Parts) → IsOfRun script p → frames_rise p.rows ≡ true
rows_rise script p r = rw (rows_left script p r) (frames_rise_is script r.history r.run)

-- ---- after one more move

-- a step that the parts say is ready is a move of the run
pub moves : (script : Script) (p : Parts) (r : IsOfRun script p) (m : Move) → move_by script p m.step ≡ Some m → IsRun script (m ∷ r.history)
moves script p r m ready =
    let read : move_of script r.history m.step ≡ move_by script p m.step = move_read script r.history m.step r.run ∙ ap (λ q. move_by script q m.step) (sym r.left) in
    (read ∙ ready, r.run)

pub legal_next : (script : Script) (p : Parts) (r : IsOfRun script p) (m : Move) → move_by script p m.step ≡ Some m → IsLegal script (trace_of (m ∷ r.history))
legal_next script p r m ready = runs_legally script (m ∷ r.history) (moves script p r m ready)

-- and what it makes of the parts is what the run leaves then
pub next_left : (script : Script) (p : Parts) (r : IsOfRun script p) (m : Move) → move_by script p m.step ≡ Some m → IsOfRun script (parts_after script m p)
next_left script p r m ready =
    let run = moves script p r m ready in
    record { history = m ∷ r.history; run = run; left = ap (parts_after script m) r.left ∙ sym (changed_parts script m r.history run) }

-- a move whose entry ends no frame leaves every row standing
pub whole_left : (script : Script) (p : Parts) (r : IsOfRun script p) (m : Move) → move_by script p m.step ≡ Some m → may_end m.entry ≡ false → rows_after p m ≡ after (settings_next (next_of p.queue)) m p.rows
whole_left script p r m ready on =
    let run = moves script p r m ready in
    let settings : settings_next (next_of p.queue) ≡ settings_next (next script (trace_of r.history)) = ap (λ q. settings_next (next_of q.queue)) r.left ∙ ap settings_next (sym (next_is script (trace_of r.history))) in
    let change : after (settings_next (next_of p.queue)) m p.rows ≡ after (settings_next (next script (trace_of r.history))) m (rows script r.history) = rw (settings, rows_left script p r) refl in
    ap (λ xs. filter is_open xs) change ∙ (sym (changed_is script m r.history run) ∙ (whole_is script m r.history run on ∙ sym change))
