-- A run has at most so many moves as the script's bound: those that add an entry are as many as the entries, and those that
-- add none are at most nine for each frame.
use Rattle.std.proofs.Common.{◌≡◌, ℕ, ◌==◌, ◌*◌, ◌+◌, ◌<◌, ◌≤◌, Bool, true, false, ◌&&◌, not, List, [], ◌∷◌, Option, Some, None, refl, ap, arith, inl, inr, length, is_some}
use Rattle.std.specs.List.{list_any}
use Rattle.std.proofs.lemmas.Bool.{and_parts, cases_Bool, eqb-true, false≢true, not-true}
use Rattle.cam_types.specs.declared.script.Script.{Script}
use Rattle.trace_model.specs.declared.entry.Entry.{Entry}
use Rattle.trace_model.specs.declared.entry.Sent.{Sent}
use Rattle.trace_model.specs.Frames.{has_shutter, has_target, target_of}
use Rattle.trace_model.specs.Filled.{is_sound}
use Rattle.trace_model.specs.Open.{is_open, is_returned}
use Rattle.trace_laws.specs.Bounds.{frame_bound}
use Rattle.run_model.specs.declared.step.Move.{Move}
use Rattle.run_model.specs.declared.step.StepName.{StepName}
use Rattle.run_model.specs.declared.step.StepName.TheVariants.{Send, Release, Signal, Client, DropQueued, Fail, ReturnFailed, Shutter, SensorDone, Partial, TakeFill, FillDone, Deliver, Early, Finish}
use Rattle.run_model.specs.Bounds.{move_bound}
use Rattle.run_model.specs.History.{is_fill_done, is_sensor_done, is_take_fill, trace_of, with_entry}
use Rattle.run_model.specs.Jobs.{is_fill_out, is_filled_in, is_readout_home, is_sensor_done_in, is_sensor_out, is_taken_in}
use Rattle.run_model.specs.Ready.{may_take_fill, move_of, target_is_passed}
use Rattle.run_model.specs.Run.{IsRun}
use Rattle.trace_laws.proofs.FrameLemmas.{frames_bounded}
use Rattle.trace_laws.proofs.Shutters.{shutter-sent}
use Rattle.run_model.proofs.Entries.{entries_bounded, one_if, target-has}
use Rattle.run_model.proofs.Legal.{adds, adds-none, runs_legally}
use Rattle.run_model.proofs.Room.{HasRoom, Slot, is_slot, room-bound, room-taken, room-without, same_slot, slot, taking}
use Rattle.run_model.proofs.Slots.{frame-slot, pairs, room-after, slots, slots-few, slots-keep, target-slot, pairs-few}
use Rattle.basic_lemmas.proofs.Lists.{any-less}
use Rattle.basic_lemmas.proofs.Counts.{count-cons}
use Rattle.basic_lemmas.proofs.Tests.{own-number}

abbrev pub step_slot : StepName → Option Slot
step_slot (SensorDone n) = Some (slot 6 n.0 0)
step_slot (TakeFill n s) = Some (slot 7 n.0 s.0)
step_slot (FillDone n s) = Some (slot 8 n.0 s.0)
step_slot _ = None

abbrev pub move_slot : Move → Option Slot
move_slot m = step_slot m.step

abbrev pub jobs_of_frame : ℕ → List Slot
jobs_of_frame n = slot 6 n 0 ∷ []

abbrev pub jobs_of_target : ℕ → ℕ → List Slot
jobs_of_target n s = slot 7 n s ∷ (slot 8 n s ∷ [])

abbrev pub no_jobs : ℕ → List Slot
no_jobs f = []

abbrev pub move_slots : List Entry → List Slot
move_slots past = slots jobs_of_frame jobs_of_target no_jobs no_jobs past

-- ---- which step takes which slot

sensor_takes : (n : ℕ) (step : StepName) → is_slot (slot 6 n 0) (step_slot step) ≡ true → is_sensor_done n step ≡ true
sensor_takes n (SensorDone m) h = (and_parts (m.0 == n) true h).0
sensor_takes n _ h = absurd (false≢true h)

take_takes : (n s : ℕ) (step : StepName) → is_slot (slot 7 n s) (step_slot step) ≡ true → is_take_fill n s step ≡ true
take_takes n s (TakeFill m t) h = h
take_takes n s _ h = absurd (false≢true h)

fill_takes : (n s : ℕ) (step : StepName) → is_slot (slot 8 n s) (step_slot step) ≡ true → is_fill_done n s step ≡ true
fill_takes n s (FillDone m t) h = h
fill_takes n s _ h = absurd (false≢true h)

-- ---- what is taken is a sent frame's

passed_target : (past : List Entry) (n s : ℕ) (o : Option Sent) → target_of n s past ≡ o → target_is_passed past o ≡ true → has_target n s past ≡ true
passed_target past n s None at h = absurd (false≢true h)
passed_target past n s (Some t) at h = target-has n s past t at

take_ready : (script : Script) (h : List Move) (n s : ℕ) → may_take_fill script h n s ≡ true → (is_taken_in h n s ≡ false) × (has_target n s (trace_of h) ≡ true)
take_ready script h n s may =
    let past = trace_of h in
    let whole = is_open n past && (is_sound script past n s && not (is_returned n s past)) in
    let home = not (is_taken_in h n s) && is_readout_home h n in
    let passed = target_is_passed past (target_of n s past) in
    let first = and_parts whole (home && passed) may in
    let second = and_parts home passed first.1 in
    let third = and_parts (not (is_taken_in h n s)) (is_readout_home h n) second.0 in
    (not-true (is_taken_in h n s) third.0, passed_target past n s (target_of n s past) refl second.1)

keep_with : (p : Slot → Bool) (o : Option Entry) (past : List Entry) → list_any p (move_slots past) ≡ true → list_any p (move_slots (with_entry o past)) ≡ true
keep_with p None past h = h
keep_with p (Some e) past h = slots-keep jobs_of_frame jobs_of_target no_jobs no_jobs p e past h

take_slot : (script : Script) (h : List Move) (p : Slot → Bool) (n s : ℕ) (step : StepName) (m : Move) → move_of script h step ≡ Some m → is_take_fill n s step ≡ true → list_any p (jobs_of_target n s) ≡ true → list_any p (move_slots (trace_of h)) ≡ true
take_slot script h p n s (TakeFill j t) m k own any =
    let parts = and_parts (j.0 == n) (t.0 == s) own in
    let may = (adds-none (TakeFill j t) (may_take_fill script h j.0 t.0) m k).0 in
    let has = (take_ready script h j.0 t.0 may).1 in
    let has' : has_target n s (trace_of h) ≡ true = rw (eqb-true j.0 n parts.0, eqb-true t.0 s parts.1) at has in
    target-slot jobs_of_frame jobs_of_target no_jobs no_jobs p n s (trace_of h) any has'
take_slot script h p n s _ m k own any = absurd (false≢true own)

-- a fill that was taken is of a target
taken_slot : (script : Script) (h : List Move) (p : Slot → Bool) (n s : ℕ) → IsRun script h → is_taken_in h n s ≡ true → list_any p (jobs_of_target n s) ≡ true → list_any p (move_slots (trace_of h)) ≡ true
taken_slot script [] p n s run taken any = absurd (false≢true taken)
taken_slot script (m ∷ h) p n s run taken any =
    elim (cases_Bool (is_take_fill n s m.step)) [
      | inl own ↦ keep_with p m.entry (trace_of h) (take_slot script h p n s m.step m run.0 own any)
      | inr other ↦ (let taken' = rw other at taken in keep_with p m.entry (trace_of h) (taken_slot script h p n s run.1 taken' any))
    ]

-- ---- each move that adds no entry takes a free slot

room_with : (xs : List Move) (o : Option Entry) (past : List Entry) → HasRoom move_slot xs (move_slots past) → HasRoom move_slot xs (move_slots (with_entry o past))
room_with xs None past room = room
room_with xs (Some e) past room = room-after jobs_of_frame jobs_of_target no_jobs no_jobs move_slot xs e past room

-- whether a step takes its slot, or none
move_room : (script : Script) (h : List Move) (step : StepName) (m : Move) → IsRun script h → move_of script h step ≡ Some m → m.step ≡ step → HasRoom move_slot h (move_slots (trace_of h)) → HasRoom move_slot (m ∷ h) (move_slots (trace_of h))
move_room script h (SensorDone n) m run k at room =
    let out = (adds-none (SensorDone n) (is_sensor_out h n.0) m k).0 in
    let parts = and_parts (has_shutter n.0 (trace_of h)) (not (is_sensor_done_in h n.0)) out in
    let fresh = any-less (λ x. is_sensor_done n.0 x.step) (λ x. is_slot (slot 6 n.0 0) (move_slot x)) h (λ x. sensor_takes n.0 x.step) (not-true (is_sensor_done_in h n.0) parts.1) in
    let sent = shutter-sent script (trace_of h) n.0 (runs_legally script h run) parts.0 in
    let within = frame-slot jobs_of_frame jobs_of_target no_jobs no_jobs (same_slot (slot 6 n.0 0)) n.0 (trace_of h) (rw (own-number n.0) refl) sent in
    room-taken move_slot m h (move_slots (trace_of h)) (slot 6 n.0 0) (ap step_slot at) fresh within room
move_room script h (TakeFill n s) m run k at room =
    let ready = take_ready script h n.0 s.0 (adds-none (TakeFill n s) (may_take_fill script h n.0 s.0) m k).0 in
    let fresh = any-less (λ x. is_take_fill n.0 s.0 x.step) (λ x. is_slot (slot 7 n.0 s.0) (move_slot x)) h (λ x. take_takes n.0 s.0 x.step) ready.0 in
    let within = target-slot jobs_of_frame jobs_of_target no_jobs no_jobs (same_slot (slot 7 n.0 s.0)) n.0 s.0 (trace_of h) (rw (own-number n.0, own-number s.0) refl) ready.1 in
    room-taken move_slot m h (move_slots (trace_of h)) (slot 7 n.0 s.0) (ap step_slot at) fresh within room
move_room script h (FillDone n s) m run k at room =
    let out = (adds-none (FillDone n s) (is_fill_out h n.0 s.0) m k).0 in
    let parts = and_parts (is_taken_in h n.0 s.0) (not (is_filled_in h n.0 s.0)) out in
    let fresh = any-less (λ x. is_fill_done n.0 s.0 x.step) (λ x. is_slot (slot 8 n.0 s.0) (move_slot x)) h (λ x. fill_takes n.0 s.0 x.step) (not-true (is_filled_in h n.0 s.0) parts.1) in
    let within = taken_slot script h (same_slot (slot 8 n.0 s.0)) n.0 s.0 run parts.0 (rw (own-number n.0, own-number s.0) refl) in
    room-taken move_slot m h (move_slots (trace_of h)) (slot 8 n.0 s.0) (ap step_slot at) fresh within room
move_room script h step m run k at room = room-without move_slot m h (move_slots (trace_of h)) (ap step_slot at) room

-- ---- how many moves there are

-- every move takes a slot or adds an entry
counted : (past : List Entry) (o : Option Entry) → length (with_entry o past) ≡ one_if (is_some o) + length past
counted past None = omega arith
counted past (Some e) = omega arith

entry_or_slot : (script : Script) (h : List Move) (step : StepName) (m : Move) → move_of script h step ≡ Some m → one_if (is_some m.entry) + one_if (is_some (step_slot step)) ≡ 1
entry_or_slot script h (SensorDone n) m k = rw (adds-none (SensorDone n) (is_sensor_out h n.0) m k).1 refl
entry_or_slot script h (TakeFill n s) m k = rw (adds-none (TakeFill n s) (may_take_fill script h n.0 s.0) m k).1 refl
entry_or_slot script h (FillDone n s) m k = rw (adds-none (FillDone n s) (is_fill_out h n.0 s.0) m k).1 refl
entry_or_slot script h Send m k = rw (adds Send _ m k).2 refl
entry_or_slot script h (Release b) m k = rw (adds (Release b) _ m k).2 refl
entry_or_slot script h (Signal f) m k = rw (adds (Signal f) _ m k).2 refl
entry_or_slot script h Client m k = rw (adds Client _ m k).2 refl
entry_or_slot script h DropQueued m k = rw (adds DropQueued _ m k).2 refl
entry_or_slot script h (Fail n) m k = rw (adds (Fail n) _ m k).2 refl
entry_or_slot script h (ReturnFailed n s) m k = rw (adds (ReturnFailed n s) _ m k).2 refl
entry_or_slot script h Shutter m k = rw (adds Shutter _ m k).2 refl
entry_or_slot script h (Partial n) m k = rw (adds (Partial n) _ m k).2 refl
entry_or_slot script h (Deliver n s) m k = rw (adds (Deliver n s) _ m k).2 refl
entry_or_slot script h (Early n s) m k = rw (adds (Early n s) _ m k).2 refl
entry_or_slot script h (Finish n s) m k = rw (adds (Finish n s) _ m k).2 refl

moves-room : (script : Script) (h : List Move) → IsRun script h → HasRoom move_slot h (move_slots (trace_of h))
moves-room script [] run = omega arith
moves-room script (m ∷ h) run =
    room_with (m ∷ h) m.entry (trace_of h) (move_room script h m.step m run.1 run.0 refl (moves-room script h run.1))

all-moves : (script : Script) (h : List Move) → IsRun script h → length h ≡ length (trace_of h) + taking move_slot h
all-moves script [] run = refl
all-moves script (m ∷ h) run =
    let ih = all-moves script h run.1 in
    let k = entry_or_slot script h m.step m run.0 in
    let a = count-cons {X = Move} (λ y. is_some (move_slot y)) m h in
    let b = counted (trace_of h) m.entry in
    omega (arith, ih, k, a, b)

few_jobs : (n : ℕ) (targets : List Sent) → length targets ≤ 4 → length (jobs_of_frame n) + length (pairs jobs_of_target n targets) ≤ 9
few_jobs n targets few = let each = pairs-few jobs_of_target 2 (λ m s. refl) n targets in omega (arith, each, few)

pub moves_few : (script : Script) (h : List Move) → IsRun script h → length h ≤ 30 * frame_bound script + (2 * length script.commands + 2)
moves_few script h run =
    let legal = runs_legally script h run in
    let all = all-moves script h run in
    let entries = entries_bounded script (trace_of h) legal in
    let room = room-bound move_slot h (move_slots (trace_of h)) (moves-room script h run) in
    let few = slots-few jobs_of_frame jobs_of_target no_jobs no_jobs 9 0 0 (trace_of h) few_jobs (λ f. refl) (λ d. refl) in
    let numbers = frames_bounded script (trace_of h) legal in
    omega (arith, all, entries, room, few, numbers)

pub moves_bounded : (script : Script) (h : List Move) → IsRun script h → length h ≤ move_bound script
moves_bounded script h run = let few = moves_few script h run in omega (arith, few)

pub moves_leave_room : (script : Script) (m : Move) (h : List Move) → IsRun script (m ∷ h) → length h < move_bound script
moves_leave_room script m h run = let few = moves_bounded script (m ∷ h) run in omega (arith, few)
