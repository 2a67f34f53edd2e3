-- What the entries of moves are: the moves of jobs but for the shutter add none, and only the shutter's is a shutter.
use Rattle.std.proofs.Common.{◌≡◌, ℕ, ◌+◌, true, false, ◌&&◌, not, List, [], ◌∷◌, Option, Some, None, refl, sym, find}
use Rattle.std.proofs.lemmas.Bool.{false≢true}
use Rattle.cam_types.specs.declared.script.Script.{Script}
use Rattle.trace_model.specs.declared.entry.Entry.{Entry}
use Rattle.trace_model.specs.Calls.{next_command}
use Rattle.trace_model.specs.Client.{begin_due}
use Rattle.trace_model.specs.Entry.{is_early_with, is_shutter}
use Rattle.trace_model.specs.Errors.{failed_due}
use Rattle.trace_model.specs.Filled.{early_due, filled_due}
use Rattle.trace_model.specs.Frames.{shutter_time, target_of}
use Rattle.trace_model.specs.Open.{early_fences}
use Rattle.trace_model.specs.Partial.{partial_count}
use Rattle.trace_model.specs.Queue.{first_in, queued}
use Rattle.trace_model.specs.Stopping.{is_stopping}
use Rattle.run_model.specs.declared.step.Move.{Move}
use Rattle.run_model.specs.declared.step.StepName.{StepName}
use Rattle.run_model.specs.declared.step.StepName.TheVariants.{Send, Release, Signal, Client, DropQueued, Fail, ReturnFailed, SensorDone, Partial, TakeFill, FillDone, Deliver, Early, Finish}
use Rattle.run_model.specs.History.{is_silent, trace_of}
use Rattle.run_model.specs.Jobs.{is_fill_out, is_filled_in, is_sensor_out}
use Rattle.run_model.specs.Ready.{adding, finish_due, late_with, may_take_fill, move_of}
use Rattle.run_model.proofs.Legal.{adds, adds-none, begin_shape, by_test, call_shape, drop_shape, early_shape, failed_shape, filled_shape, part_shape, where-entry}
use Rattle.run_model.specs.RunMoves.{by_entry}
use Rattle.service_parts.specs.Outs.{moves_a_job}
use Rattle.run_model.proofs.Shapes.{error-shape, late-shape, or-shape, send-shape}

-- ---- silent steps

pub silent-none : (script : Script) (h : List Move) (step : StepName) (m : Move) → move_of script h step ≡ Some m → is_silent step ≡ true → m.entry ≡ None
silent-none script h (SensorDone n) m made is = (adds-none (SensorDone n) (is_sensor_out h n.0) m made).1
silent-none script h (TakeFill n s) m made is = (adds-none (TakeFill n s) (may_take_fill script h n.0 s.0) m made).1
silent-none script h (FillDone n s) m made is = (adds-none (FillDone n s) (is_fill_out h n.0 s.0) m made).1
silent-none script h _ m made is = absurd (false≢true is)

-- ---- entries that are no shutter

abbrev pub IsDark : Entry → Type 0
IsDark e = (n : ℕ) → is_shutter n e ≡ false

abbrev pub IsDarkIn : Option Entry → Type 0
IsDarkIn o = (n : ℕ) → by_entry (is_shutter n) o ≡ false

finish-dark : (script : Script) (past : List Entry) (fences : List ℕ) (e : Entry) → late_with script past fences ≡ Some e → IsDark e
finish-dark script past [] e h = absurd (cc)
finish-dark script past (d ∷ ds) e h = late-shape IsDark script past d (find (is_early_with d) past) e h (λ x n. refl)

adds-dark : (step : StepName) (o : Option Entry) (m : Move) → adding step o ≡ Some m → ((e : Entry) → o ≡ Some e → IsDark e) → IsDarkIn m.entry
adds-dark step o m made each = let a = adds step o m made in let dark = each a.0 a.1 in λ n. rw a.2 (dark n)

-- a move of another step than the shutter adds no shutter
pub dark-move : (script : Script) (h : List Move) (step : StepName) (m : Move) → move_of script h step ≡ Some m → moves_a_job step ≡ false → IsDarkIn m.entry
dark-move script h Send m made other = adds-dark Send _ m made (λ e d. send-shape IsDark script (trace_of h) e d (λ w ts n. refl))
dark-move script h (Release b) m made other = adds-dark (Release b) _ m made (λ e d. by_test IsDark _ _ e d (λ t n. refl))
dark-move script h (Signal f) m made other = adds-dark (Signal f) _ m made (λ e d. by_test IsDark _ _ e d (λ t n. refl))
dark-move script h Client m made other =
    adds-dark Client _ m made
    (λ e d. or-shape IsDark (begin_due script (trace_of h)) _ e d (λ x l. begin_shape IsDark (trace_of h) (next_command script (trace_of h)) x l (λ c n. refl)) (λ x l. call_shape IsDark script (trace_of h) (next_command script (trace_of h)) x l (λ c n. refl)))
dark-move script h DropQueued m made other = adds-dark DropQueued _ m made (λ e d. drop_shape IsDark (trace_of h) (is_stopping (trace_of h)) (first_in (queued script (trace_of h))) e d (λ w n. refl))
dark-move script h (Fail f) m made other = adds-dark (Fail f) _ m made (λ e d. error-shape IsDark script (trace_of h) f.0 e d (λ n. refl) (λ n. refl) (λ n. refl) (λ s n. refl))
dark-move script h (ReturnFailed f t) m made other =
    adds-dark (ReturnFailed f t) _ m made
    (λ e d. failed_shape IsDark (trace_of h) f.0 t.0 (target_of f.0 t.0 (trace_of h)) e (where-entry (not (is_sensor_out h f.0) && not (is_fill_out h f.0 t.0)) (failed_due (trace_of h) f.0 t.0) e d).1 (λ u n. refl))
dark-move script h (Partial f) m made other = adds-dark (Partial f) _ m made (λ e d. part_shape IsDark script (trace_of h) f.0 (partial_count f.0 (trace_of h) + 1) (shutter_time f.0 (trace_of h)) e d (λ part n. refl))
dark-move script h (Deliver f t) m made other =
    adds-dark (Deliver f t) _ m made
    (λ e d. filled_shape IsDark script (trace_of h) f.0 t.0 (target_of f.0 t.0 (trace_of h)) e (where-entry (is_filled_in h f.0 t.0) (filled_due script (trace_of h) f.0 t.0) e d).1 (λ u n. refl))
dark-move script h (Early f t) m made other =
    adds-dark (Early f t) _ m made
    (λ e d. early_shape IsDark script (trace_of h) f.0 t.0 (target_of f.0 t.0 (trace_of h)) e (where-entry (is_fill_out h f.0 t.0) (early_due script (trace_of h) f.0 t.0) e d).1 (λ u n. refl))
dark-move script h (Finish f t) m made other =
    adds-dark (Finish f t) _ m made
    (λ e d. finish-dark script (trace_of h) (early_fences f.0 t.0 (trace_of h)) e (where-entry (is_filled_in h f.0 t.0) (finish_due script (trace_of h) f.0 t.0) e d).1)
dark-move script h _ m made other = absurd (false≢true (sym other))
