-- The rows after each move of a run are what the move makes of those before it.
use Rattle.std.proofs.Common.{◌≡◌, ℕ, Bool, true, false, List, ◌∷◌, Option, Some, None, refl, sym, inl, inr, filter}
use Rattle.std.proofs.lemmas.Bool.{cases_Bool, false≢true}
use Rattle.cam_types.specs.Rows as view
use Rattle.cam_types.specs.declared.number.FrameNo.{FrameNo}
use Rattle.cam_types.specs.declared.number.StreamIx.{StreamIx}
use Rattle.cam_types.specs.declared.script.Script.{Script}
use Rattle.trace_model.specs.declared.entry.Entry.{Entry}
use Rattle.trace_model.specs.declared.entry.Entry.TheVariants.{Begin, Call, Send as SendEntry, Dropped, Shutter as ShutterEntry, Partial as PartialEntry, Filled, Failed, ErrorRequest, ErrorResult, ErrorBuffer, ErrorDevice, Release as ReleaseEntry, Signal as SignalEntry, Early as EarlyEntry, Late as LateEntry}
use Rattle.trace_model.specs.Entry.{is_stop, is_stop_word}
use Rattle.trace_model.specs.Frames.{frames}
use Rattle.trace_model.specs.Open.{early_fences}
use Rattle.trace_model.specs.Queue.{next}
use Rattle.run_model.specs.declared.step.Move.{Move}
use Rattle.run_model.specs.declared.step.StepName.{StepName}
use Rattle.run_model.specs.declared.step.StepName.TheVariants.{Send, Release, Signal, Client, DropQueued, Fail, ReturnFailed, Shutter, SensorDone, Partial, TakeFill, FillDone, Deliver, Early, Finish}
use Rattle.run_model.specs.History.{trace_of}
use Rattle.run_model.specs.Jobs.{is_filled_in}
use Rattle.run_model.specs.Ready.{adding, finish_due, move_of}
use Rattle.run_model.specs.Rows.{rows}
use Rattle.run_model.specs.Run.{IsRun}
use Rattle.device_rows.specs.Marks.{marked}
use Rattle.device_rows.specs.declared.mark.Mark.TheVariants.{Announced, RequestError, ResultError, Stopped}
use Rattle.device_rows.specs.Rows.{all_stopped, delivered, exposed, gone_early, returned_failed, with_part, with_row}
use Rattle.basic_lemmas.proofs.Tests.{eq-turned}
use Rattle.run_model.proofs.Entries.{open-sent}
use Rattle.run_model.proofs.Legal.{adds, where-entry}
use Rattle.trace_laws.proofs.Told.{tells}
use Rattle.state_facts.specs.Turns.{settings_next}
use Rattle.run_rows.specs.Changes.{after, after_entry, after_given}
use Rattle.run_rows.proofs.Changes.{announced-row, in-place, nothing, part-row, request-row, result-row, shutter-row, stop-row}
use Rattle.run_rows.proofs.Fresh.{send-changed}
use Rattle.run_rows.proofs.Jobs.{Behind, FinishOf, FinishedBy, finish-shape, move-behind}
use Rattle.run_rows.proofs.Noted.{not-silent, rows-changed}
use Rattle.run_rows.proofs.Returned.{early-row, failed-row, filled-row, late-free, late-of, late-row}
use Rattle.run_rows.proofs.Silent.{fill-changed, sensor-changed, take-changed}

-- ---- an entry that names its frame, or none

abbrev pub is_finish : StepName → Bool
is_finish (Finish n s) = true
is_finish _ = false

no-finish : (h : List Move) (step : StepName) (d : ℕ) → is_finish step ≡ false → FinishedBy h step d → ⊥
no-finish h (Finish n s) d other by = false≢true (sym other)
no-finish h _ d other by = by

stopped-all : (script : Script) (h : List Move) (step : StepName) (e : Entry) → IsRun script (record { step = step; entry = Some e } ∷ h) → frames (e ∷ trace_of h) ≡ frames (trace_of h) → is_stop e ≡ true → ((x : ℕ) → tells x e ≡ false) → rows script (record { step = step; entry = Some e } ∷ h) ≡ filter view.is_open (all_stopped (rows script h))
stopped-all script h step e run same stop none =
    rows-changed script (record { step = step; entry = Some e }) h (marked Stopped) run same (λ x open_. stop-row script h step e x run (open-sent x (trace_of h) open_) stop none)

entry-changed : (script : Script) (h : List Move) (step : StepName) (e : Entry) → IsRun script (record { step = step; entry = Some e } ∷ h) → is_finish step ≡ false → Behind h step e → rows script (record { step = step; entry = Some e } ∷ h) ≡ filter view.is_open (after_entry (settings_next (next script (trace_of h))) e (rows script h))
entry-changed script h step (SendEntry n r i same targets) run other behind = send-changed script h step n r i same targets run
entry-changed script h step (ShutterEntry n time) run other behind =
    in-place script h step (ShutterEntry n time) n.0 (exposed time) run refl (λ x apart. (eq-turned n.0 x apart, λ u. refl)) refl (λ sent. shutter-row script h step n time run sent)
entry-changed script h step (PartialEntry n k part) run other behind =
    in-place script h step (PartialEntry n k part) n.0 (with_part k) run refl (λ x apart. (eq-turned n.0 x apart, λ u. refl)) refl (λ sent. part-row script h step n k part run sent)
entry-changed script h step (Filled n s b f d) run other behind =
    in-place script h step (Filled n s b f d) n.0 (delivered s) run refl (λ x apart. let off = eq-turned n.0 x apart in (off, λ u. rw off refl)) refl (λ sent. filled-row script h step n s b f d run sent)
entry-changed script h step (Failed n s b f) run other behind =
    in-place script h step (Failed n s b f) n.0 (returned_failed s) run refl (λ x apart. let off = eq-turned n.0 x apart in (off, λ u. rw off refl)) refl (λ sent. failed-row script h step n s b f run sent)
entry-changed script h step (EarlyEntry n s b d) run other behind =
    in-place script h step (EarlyEntry n s b d) n.0 (gone_early s) run refl (λ x apart. (eq-turned n.0 x apart, λ u. refl)) refl (λ sent. early-row script h step n s b d run behind sent)
entry-changed script h step (LateEntry d x) run other behind = absurd (no-finish h step d.0 other behind)
entry-changed script h step (ErrorRequest n) run other behind =
    in-place script h step (ErrorRequest n) n.0 (marked RequestError) run refl (λ x apart. (eq-turned n.0 x apart, λ u. refl)) refl (λ sent. request-row script h step n run sent)
entry-changed script h step (ErrorResult n) run other behind =
    in-place script h step (ErrorResult n) n.0 (marked ResultError) run refl (λ x apart. (eq-turned n.0 x apart, λ u. refl)) refl (λ sent. result-row script h step n run sent)
entry-changed script h step (ErrorBuffer n s) run other behind =
    in-place script h step (ErrorBuffer n s) n.0 (marked (Announced s)) run refl (λ x apart. (eq-turned n.0 x apart, λ u. refl)) refl (λ sent. announced-row script h step n s run sent)
entry-changed script h step ErrorDevice run other behind = stopped-all script h step ErrorDevice run refl refl (λ x. refl)
entry-changed script h step (Begin word) run other behind = elim (cases_Bool (is_stop_word word)) [
  | inl stop ↦ rw stop (stopped-all script h step (Begin word) run refl stop (λ x. refl))
  | inr goes ↦ rw goes (nothing script h step (Begin word) run refl goes (λ x. refl) (λ x u. refl))
]
entry-changed script h step (Call i w r) run other behind = nothing script h step (Call i w r) run refl refl (λ x. refl) (λ x u. refl)
entry-changed script h step (Dropped n r i) run other behind = nothing script h step (Dropped n r i) run refl refl (λ x. refl) (λ x u. refl)
entry-changed script h step (ReleaseEntry b f) run other behind = nothing script h step (ReleaseEntry b f) run refl refl (λ x. refl) (λ x u. refl)
entry-changed script h step (SignalEntry f) run other behind = nothing script h step (SignalEntry f) run refl refl (λ x. refl) (λ x u. refl)

-- ---- the picture of an early return is there

abbrev pub Finishes : Script → List Move → FrameNo → StreamIx → Option Entry → Type 0
Finishes script h n s o =
    IsRun script (record { step = Finish n s; entry = o } ∷ h) → rows script (record { step = Finish n s; entry = o } ∷ h) ≡ filter view.is_open (with_row n.0 (delivered s) (rows script h))

late-changed : (script : Script) (h : List Move) (n : FrameNo) (s : StreamIx) (d : ℕ) (x : List ℕ) → FinishOf h n.0 s.0 d → Finishes script h n s (Some (LateEntry (record { 0 = d }) x))
late-changed script h n s d x finish run =
    let is = late-of script h (Finish n s) n.0 s.0 (record { 0 = d }) x run finish in
    in-place script h (Finish n s) (LateEntry (record { 0 = d }) x) n.0 (delivered s) run refl (λ m apart. (refl, λ u. late-free h n.0 s.0 d m u is apart)) refl
    (λ sent. late-row script h (Finish n s) n.0 s.0 s (record { 0 = d }) x run refl is sent)

pub by-some : (G : Option Entry → Type 0) (o : Option Entry) (e : Entry) → o ≡ Some e → G (Some e) → G o
by-some G o e at g = rw at g

finish-changed : (script : Script) (h : List Move) (n : FrameNo) (s : StreamIx) (o : Option Entry) → Finishes script h n s o
finish-changed script h n s o run =
    let a = adds (Finish n s) _ (record { step = Finish n s; entry = o }) run.0 in
    let both = where-entry (is_filled_in h n.0 s.0) (finish_due script (trace_of h) n.0 s.0) a.0 a.1 in
    let all = finish-shape (λ e. Finishes script h n s (Some e)) script h n.0 s.0 (early_fences n.0 s.0 (trace_of h)) a.0 both.0 refl both.1 (λ d x is. late-changed script h n s d x is) in
    by-some (Finishes script h n s) o a.0 a.2 all run

-- ---- each move

pub none-added : (step : StepName) (o : Option Entry) → adding step o ≡ Some (record { step = step; entry = None }) → ⊥
none-added step o at = let a = adds step o _ at in let wrong : ◌≡◌ {A = Option Entry} None (Some a.0) = a.2 in cc

pub given-changed : (script : Script) (h : List Move) (step : StepName) (o : Option Entry) → (move_of script h step ≡ Some (record { step = step; entry = None }) → ⊥) → is_finish step ≡ false → IsRun script (record { step = step; entry = o } ∷ h) → rows script (record { step = step; entry = o } ∷ h) ≡ filter view.is_open (after_given (settings_next (next script (trace_of h))) o (rows script h))
given-changed script h step (Some e) none other run = entry-changed script h step e run other (move-behind script h step (record { step = step; entry = Some e }) run.0)
given-changed script h step None none other run = absurd (none run.0)

abbrev pub Changed : Script → List Move → StepName → Option Entry → Type 0
Changed script h step o =
    IsRun script (record { step = step; entry = o } ∷ h) → rows script (record { step = step; entry = o } ∷ h) ≡ filter view.is_open (after (settings_next (next script (trace_of h))) (record { step = step; entry = o }) (rows script h))

each-changed : (script : Script) (h : List Move) (step : StepName) (o : Option Entry) → Changed script h step o
each-changed script h (SensorDone n) None run = sensor-changed script h n run
each-changed script h (SensorDone n) (Some e) run = absurd (false≢true (sym (not-silent script h (SensorDone n) e run.0)))
each-changed script h (TakeFill n s) None run = take-changed script h n s run
each-changed script h (TakeFill n s) (Some e) run = absurd (false≢true (sym (not-silent script h (TakeFill n s) e run.0)))
each-changed script h (FillDone n s) None run = fill-changed script h n s run
each-changed script h (FillDone n s) (Some e) run = absurd (false≢true (sym (not-silent script h (FillDone n s) e run.0)))
each-changed script h (Finish n s) o run = finish-changed script h n s o run
each-changed script h Send o run = given-changed script h Send o (λ k. none-added Send _ k) refl run
each-changed script h (Release b) o run = given-changed script h (Release b) o (λ k. none-added (Release b) _ k) refl run
each-changed script h (Signal f) o run = given-changed script h (Signal f) o (λ k. none-added (Signal f) _ k) refl run
each-changed script h Client o run = given-changed script h Client o (λ k. none-added Client _ k) refl run
each-changed script h DropQueued o run = given-changed script h DropQueued o (λ k. none-added DropQueued _ k) refl run
each-changed script h (Fail n) o run = given-changed script h (Fail n) o (λ k. none-added (Fail n) _ k) refl run
each-changed script h (ReturnFailed n s) o run = given-changed script h (ReturnFailed n s) o (λ k. none-added (ReturnFailed n s) _ k) refl run
each-changed script h Shutter o run = given-changed script h Shutter o (λ k. none-added Shutter _ k) refl run
each-changed script h (Partial n) o run = given-changed script h (Partial n) o (λ k. none-added (Partial n) _ k) refl run
each-changed script h (Deliver n s) o run = given-changed script h (Deliver n s) o (λ k. none-added (Deliver n s) _ k) refl run
each-changed script h (Early n s) o run = given-changed script h (Early n s) o (λ k. none-added (Early n s) _ k) refl run

pub changed_is : (script : Script) (m : Move) (h : List Move) → IsRun script (m ∷ h) → rows script (m ∷ h) ≡ filter view.is_open (after (settings_next (next script (trace_of h))) m (rows script h))
changed_is script m h run = each-changed script h m.step m.entry run
