-- The history is kept: a move that the parts make is a move of the run, and the log has room for it.
use Rattle.std.proofs.Common.{◌≡◌, ◌<◌, ◌≤◌, ◌↔◌, ℕ, true, ◌∷◌, Option, Some, None, IsSome, IsTrue, refl, sym, ap, ◌∙◌, length}
use Rattle.std.specs.List.{list_all}
use Rattle.cam_types.specs.Script.{is_valid}
use Rattle.cam_types.specs.declared.script.Script.{Script}
use Rattle.trace_laws.specs.Typed.{is_typed}
use Rattle.trace_laws.proofs.Printing.{prints_all}
use Rattle.trace_model.specs.declared.entry.Entry.{Entry}
use Rattle.trace_model.specs.Complete.{IsComplete}
use Rattle.trace_model.specs.Legal.{IsLegal}
use Rattle.trace_model.specs.Printable.{is_printable}
use Rattle.run_model.specs.Bounds.{move_bound}
use Rattle.run_model.specs.History.{trace_of}
use Rattle.run_model.specs.Ready.{move_of}
use Rattle.run_model.specs.Run.{IsRun}
use Rattle.run_model.specs.declared.step.Move.{Move}
use Rattle.run_model.specs.declared.step.StepName.{StepName}
use Rattle.run_model.proofs.Legal.{runs_legally}
use Rattle.run_model.proofs.Moves.{moves_bounded, moves_leave_room}
use Rattle.run_model.specs.Moves.{Moves, no_moves, with_move}
use Rattle.service_parts.specs.After.{is_over, parts_after}
use Rattle.service_parts.specs.Moves.{move_by}
use Rattle.service_parts.specs.Parts.{parts}
use Rattle.service_parts.proofs.Changed.{changed_parts}
use Rattle.service_parts.proofs.Complete.{complete_read}
use Rattle.service_parts.proofs.Read.{move_read}
use Rattle.service_state.specs.Answers as step
use Rattle.service_state.specs.Serving.{IsOfRun, IsServing, Serving, opened}
use Rattle.service_state.proofs.Runs.{moves}
use Rattle.service_core.specs.Answers.{AnswersStep, Makes, Stays, serving, step_of}
use Rattle.service_core.specs.Inside.{IsKept, moves_after, state_of}

-- ---- as it stands

abbrev pub as_run : (s : Serving) (log : Moves) → IsKept s log → IsOfRun s.script s.parts
as_run s log kept = record { history = log.moves; run = kept.run; left = kept.left }

pub serves : (s : Serving) (log : Moves) → IsKept s log → IsServing s
serves s log kept = record { typed = kept.typed; valid = kept.valid; run = as_run s log kept }

pub opens : (script : Script) (limit : ℕ) → limit ≡ move_bound script → is_typed script ≡ true → is_valid script ≡ true → IsKept (opened script) (no_moves limit)
opens script limit room typed valid = record { left = refl; run = tt; limit = room; typed = typed; valid = valid }

pub seen : (s : Serving) (log : Moves) → IsKept s log → s ≡ serving (state_of s log)
seen s log kept = ap (λ p. let t : Serving = record { script = s.script; parts = p } in t) kept.left

pub legal : (s : Serving) (log : Moves) → IsKept s log → IsLegal s.script (trace_of log.moves)
legal s log kept = runs_legally s.script log.moves kept.run

pub printed : (s : Serving) (log : Moves) → IsKept s log → list_all is_printable (trace_of log.moves) ≡ true
printed s log kept = prints_all s.script (trace_of log.moves) kept.typed kept.valid (legal s log kept)

pub bounded : (s : Serving) (log : Moves) → IsKept s log → length log.moves ≤ move_bound s.script
bounded s log kept = moves_bounded s.script log.moves kept.run

pub completes : (s : Serving) (log : Moves) → IsKept s log → (IsTrue (is_over s.script s.parts) ↔ IsComplete s.script (trace_of log.moves))
completes s log kept =
    let told = complete_read s.script log.moves kept.run in
    let same : is_over s.script s.parts ≡ is_over s.script (parts s.script log.moves) = ap (is_over s.script) kept.left in
    (λ over. told.1 (sym same ∙ over), λ complete. same ∙ told.0 complete)

-- ---- a move that the parts make

pub runs : (s s' : Serving) (log : Moves) (m : Move) → IsKept s log → step.Makes s s' m → IsRun s.script (m ∷ log.moves)
runs s s' log m kept made = moves s.script s.parts (as_run s log kept) m made.ready

pub has_room : (s s' : Serving) (log : Moves) (m : Move) → IsKept s log → step.Makes s s' m → length log.moves < log.limit
has_room s s' log m kept made = rw kept.limit (moves_leave_room s.script m log.moves (runs s s' log m kept made))

pub keeps : (s s' : Serving) (log : Moves) (m : Move) → IsKept s log → step.Makes s s' m → IsKept s' (with_move m log)
keeps s s' log m kept made =
    rw made.left (record {
      left = ap (parts_after s.script m) kept.left ∙ sym (changed_parts s.script m log.moves (runs s s' log m kept made));
      run = runs s s' log m kept made;
      limit = kept.limit;
      typed = kept.typed;
      valid = kept.valid;
    })

pub makes : (s s' : Serving) (log : Moves) (m : Move) → IsKept s log → step.Makes s s' m → Makes m (state_of s log) (state_of s' (with_move m log))
makes s s' log m kept made = record { ready = (runs s s' log m kept made).0; left = rw made.left refl }

-- ---- a step that isn't ready

pub keeps_still : (s s' : Serving) (log : Moves) (name : StepName) → IsKept s log → step.Stays s s' name → IsKept s' log
keeps_still s s' log name kept stays = rw stays.same kept

pub stays_still : (s s' : Serving) (log : Moves) (name : StepName) → IsKept s log → step.Stays s s' name → Stays name (state_of s log) (state_of s' log)
stays_still s s' log name kept stays =
    let read = move_read s.script log.moves name kept.run in
    let unready : move_of s.script log.moves name ≡ None = read ∙ (ap (λ p. move_by s.script p name) (sym kept.left) ∙ stays.ready) in
    record { unready = unready; same = rw stays.same refl }

-- ---- a step that adds an entry where it is made

pub note_room : (s s' : Serving) (log : Moves) (name : StepName) (entry : Option Entry) → IsKept s log → step.Answers name s entry s' → IsSome entry → length log.moves < log.limit
note_room s s' log name (Some e) kept told some = has_room s s' log (step.move_with name (Some e)) kept told
note_room s s' log name None kept told some = absurd (cc)

pub note_keeps : (s s' : Serving) (log : Moves) (name : StepName) (entry : Option Entry) → IsKept s log → step.Answers name s entry s' → IsKept s' (moves_after name entry log)
note_keeps s s' log name (Some e) kept told = keeps s s' log (step.move_with name (Some e)) kept told
note_keeps s s' log name None kept told = keeps_still s s' log name kept told

pub note_answers : (s s' : Serving) (log : Moves) (name : StepName) (entry : Option Entry) → IsKept s log → step.Answers name s entry s' → AnswersStep name (state_of s log) (step_of entry) (state_of s' (moves_after name entry log))
note_answers s s' log name (Some e) kept told = makes s s' log (step.move_with name (Some e)) kept told
note_answers s s' log name None kept told = stays_still s s' log name kept told
