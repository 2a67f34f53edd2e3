-- A send: when it is ready, what it leaves, and what the device asks of its row.
use Rattle.std.proofs.Common.{◌≡◌, ◌<◌, ◌^◌, ℕ, ◌+◌, Bool, ◌&&◌, true, false, List, [], ◌∷◌, ◌++◌, Option, Some, None, refl, sym, ap, subst, ◌∙◌, inl, inr, length, slice_get}
use Rattle.std.proofs.lemmas.Bool.{and_parts, cases_Bool, ltb-true}
use Rattle.cam_types.specs.Four.{four_list, four_of}
use Rattle.cam_types.specs.declared.four.Four.{Four}
use Rattle.cam_types.specs.declared.number.FrameNo.{FrameNo}
use Rattle.cam_types.specs.declared.request.Queued.{Queued}
use Rattle.trace_model.specs.declared.entry.Entry.{Entry}
use Rattle.trace_model.specs.declared.entry.Entry.TheVariants.{Send as SendEntry, Dropped}
use Rattle.trace_model.specs.declared.entry.Sent.{Sent}
use Rattle.trace_model.specs.Configuration.{streams}
use Rattle.trace_model.specs.Queue.{next as next_item}
use Rattle.trace_model.specs.Send.{are_last, targets_in_order}
use Rattle.run_model.specs.declared.step.StepName.TheVariants.{DropQueued, Send}
use Rattle.run_model.specs.History.{trace_of}
use Rattle.state_facts.specs.Turns.{next_of, turns}
use Rattle.state_facts.specs.Turns as queue
use Rattle.state_facts.proofs.Readings.{next_is}
use Rattle.state_facts.specs.Homes as buffers
use Rattle.state_facts.specs.Clients as client
use Rattle.client_calls.specs.Around.{Fits}
use Rattle.state_facts.specs.Turns.{settings_next}
use Rattle.state_facts.specs.States.{targets_in}
use Rattle.state_facts.proofs.Fits.{numbers_fit}
use Rattle.run_rows.specs.Changes.{fresh_row, fresh_target, fresh_targets}
use Rattle.std.specs.Option.{option_map}
use Rattle.cam_types.specs.declared.request.WaitingItem.{WaitingItem}
use Rattle.cam_types.specs.declared.stream.StreamSpec.{StreamSpec}
use Rattle.buffer_pool.specs.declared.parked.Parked.{Parked}
use Rattle.state_facts.specs.Homes.{least_in, put_all}
use Rattle.buffer_manager.specs.Taking.{AreTaken, IsTakenAt, IsTakenFor, least_targets_in, target_with_fence}
use Rattle.device_core.specs.Stored.{AreParked, IsParkedAt, IsParkedIn}
use Rattle.trace_model.specs.Send.{with_target}
use Rattle.state_facts.specs.States.{target_in}
use Rattle.run_rows.specs.Kept.{IsSound, are_below}
use Rattle.run_rows.proofs.Counted.{sends_above}
use Rattle.run_rows.proofs.Sending.{sent_sound}
use Rattle.service_parts.specs.After.{parts_after}
use Rattle.service_parts.specs.Moves.{may_go_by, move_by}
use Rattle.service_parts.specs.Parts.{Parts, base}
use Rattle.service_state.specs.Answers.{Makes, move_with}
use Rattle.service_state.specs.Serving.{IsServing, Serving}
use Rattle.service_state.proofs.Made.{fits_next, makes, same_parts, serving_as}
use Rattle.service_state.proofs.Runs.{legal_left, moves, next_left, rows_left, whole_left}

-- the entry of a send
abbrev pub send_entry : Parts → Queued → Four Sent → Entry
send_entry p next targets =
    SendEntry (record { 0 = p.queue.numbers }) next.request next.index (are_last p.last next.item.settings) targets

-- what it leaves
abbrev pub send_left : Serving → Queued → Four Sent → Parts
send_left s next targets =
    record s.parts {
      client = client.clients_after s.script next.repeating false (send_entry s.parts next targets) s.parts.client;
      queue = queue.turns_after s.script (send_entry s.parts next targets) s.parts.queue;
      buffers = buffers.homes_after (send_entry s.parts next targets) s.parts.buffers;
      pictures = put_all s.parts.buffers.first None (four_list targets) s.parts.pictures;
      rows = s.parts.rows ++ fresh_row next.item.settings (record { 0 = s.parts.queue.numbers }) next.request targets ∷ [];
      last = Some next.item.settings;
    }

send_ready : (s : Serving) (next : Queued) (targets : List Sent) → next_of s.parts.queue ≡ Some next → may_go_by s.script s.parts next ≡ true → targets_in (base s.parts) (targets_in_order next.item) ≡ Some targets → move_by s.script s.parts Send ≡ Some (move_with Send (Some (send_entry s.parts next (four_of targets))))
send_ready s next targets at may took = rw at (rw may (rw took refl))

sends : (s : Serving) → IsServing s → (next : Queued) (targets : Four Sent) → next_of s.parts.queue ≡ Some next → move_by s.script s.parts Send ≡ Some (move_with Send (Some (send_entry s.parts next targets))) → Makes s (record { script = s.script; parts = send_left s next targets }) (move_with Send (Some (send_entry s.parts next targets)))
sends s serving next targets at ready =
    let m = move_with Send (Some (send_entry s.parts next targets)) in
    makes s (send_left s next targets) m ready
    (same_parts _ _ (rw at refl) refl refl refl refl (by (next_of s.parts.queue) at ∙ sym (whole_left s.script s.parts serving.run m ready refl)) (rw at refl) refl)
  where
    by : (o : Option Queued) → o ≡ Some next → s.parts.rows ++ fresh_row next.item.settings (record { 0 = s.parts.queue.numbers }) next.request targets ∷ [] ≡ s.parts.rows ++ fresh_row (settings_next o) (record { 0 = s.parts.queue.numbers }) next.request targets ∷ []
    by o e = rw e refl

send_fits : (s : Serving) → IsServing s → (next : Queued) (targets : Four Sent) → next_of s.parts.queue ≡ Some next → move_by s.script s.parts Send ≡ Some (move_with Send (Some (send_entry s.parts next targets))) → Fits (client.clients_after s.script next.repeating false (send_entry s.parts next targets) s.parts.client)
send_fits s serving next targets at ready =
    let m = move_with Send (Some (send_entry s.parts next targets)) in
    let same : client.clients_after s.script next.repeating false (send_entry s.parts next targets) s.parts.client ≡ (parts_after s.script m s.parts).client = rw at refl in
    rw same (fits_next s serving m ready)

-- ---- not ready

pub no_buffer : (s : Serving) (next : Queued) → next_of s.parts.queue ≡ Some next → targets_in (base s.parts) (targets_in_order next.item) ≡ None → move_by s.script s.parts Send ≡ None
no_buffer s next at took = elim (cases_Bool (may_go_by s.script s.parts next)) [
  | inl may ↦ rw at (rw may (rw took refl))
  | inr may ↦ rw at (rw may refl)
]

-- ---- what the device asks of the row

second_of : (a b c d : Bool) → (a && ((b && c) && d)) ≡ true → b ≡ true
second_of a b c d all = (and_parts b c (and_parts (b && c) d (and_parts a ((b && c) && d) all).1).0).0

has_room : (s : Serving) (next : Queued) → may_go_by s.script s.parts next ≡ true → length s.parts.rows < s.script.profile.depth
has_room s next may = ltb-true (length s.parts.rows) s.script.profile.depth (second_of _ _ _ _ may)

row_sound : (s : Serving) → IsServing s → (next : Queued) (targets : Four Sent) → next_of s.parts.queue ≡ Some next → move_by s.script s.parts Send ≡ Some (move_with Send (Some (send_entry s.parts next targets))) → IsSound (length s.parts.client.streams) (fresh_row next.item.settings (record { 0 = s.parts.queue.numbers }) next.request targets)
row_sound s serving next targets at ready =
    let r = serving.run in
    let m = move_with Send (Some (send_entry s.parts next targets)) in
    let run = moves s.script s.parts r m ready in
    let sound = sent_sound s.script m r.history (record { 0 = s.parts.queue.numbers }) next.request next.index (are_last s.parts.last next.item.settings) targets run refl in
    let same : s.parts.client.streams ≡ streams s.script (trace_of r.history) = ap (λ p. p.client.streams) r.left in
    let settings : next.item.settings ≡ settings_next (next_item s.script (trace_of r.history)) = ap settings_next (sym at) ∙ (ap (λ p. settings_next (next_of p.queue)) r.left ∙ ap settings_next (sym (next_is s.script (trace_of r.history)))) in
    rw (same, settings) sound

row_above : (s : Serving) → IsServing s → (next : Queued) (targets : Four Sent) → move_by s.script s.parts Send ≡ Some (move_with Send (Some (send_entry s.parts next targets))) → are_below s.parts.queue.numbers s.parts.rows ≡ true
row_above s serving next targets ready =
    let r = serving.run in
    let m = move_with Send (Some (send_entry s.parts next targets)) in
    let run = moves s.script s.parts r m ready in
    rw (rows_left s.script s.parts r) (sends_above s.script m r.history (record { 0 = s.parts.queue.numbers }) next.request next.index (are_last s.parts.last next.item.settings) targets run refl)

-- the number of the frame after it fits
send_numbered : (s : Serving) → IsServing s → (next : Queued) (targets : Four Sent) → move_by s.script s.parts Send ≡ Some (move_with Send (Some (send_entry s.parts next targets))) → s.parts.queue.numbers + 1 < 2 ^ 32
send_numbered s serving next targets ready =
    let m = move_with Send (Some (send_entry s.parts next targets)) in
    let r = next_left s.script s.parts serving.run m ready in
    let fit = (numbers_fit s.script (trace_of r.history) serving.typed serving.valid (legal_left s.script (parts_after s.script m s.parts) r)).frames in
    let same : s.parts.queue.numbers + 1 ≡ (turns s.script (trace_of r.history)).numbers = ap (λ p. p.queue.numbers) r.left in
    rw same fit

pub drop_numbered : (s : Serving) → IsServing s → (w : WaitingItem) (n : FrameNo) → n.0 ≡ s.parts.queue.numbers → move_by s.script s.parts DropQueued ≡ Some (move_with DropQueued (Some (Dropped n w.request w.index))) → s.parts.queue.numbers + 1 < 2 ^ 32
drop_numbered s serving w n is ready =
    let m = move_with DropQueued (Some (Dropped n w.request w.index)) in
    let r = next_left s.script s.parts serving.run m ready in
    let fit = (numbers_fit s.script (trace_of r.history) serving.typed serving.valid (legal_left s.script (parts_after s.script m s.parts) r)).frames in
    let same : n.0 + 1 ≡ (turns s.script (trace_of r.history)).numbers = ap (λ p. p.queue.numbers) r.left in
    rw (sym is) (rw same fit)

-- ---- what the calls of the parts say of it

pub frame_is : (n : FrameNo) (k : ℕ) → n.0 ≡ k → n ≡ record { 0 = k }
frame_is n k e = (let g : record { 0 = n.0 } ≡ record { 0 = k } = ap (λ (j : ℕ). let f : FrameNo = record { 0 = j } in f) e in g)

taken_targets : (o : Option (List Sent)) (targets : Four Sent) → Some targets ≡ option_map four_of o → (ts : List Sent) × (o ≡ Some ts) × (targets ≡ four_of ts)
taken_targets (Some ts) targets at = (let k : targets ≡ four_of ts = cc in (ts, refl, k))
taken_targets None targets at = absurd (cc)

pub none_taken : (o : Option (List Sent)) → None ≡ option_map four_of o → o ≡ None
none_taken (Some ts) at = absurd (cc)
none_taken None at = refl

pub same_targets : (p : Parts) (streams : List ℕ) → targets_in (base p) streams ≡ least_targets_in p.buffers streams
same_targets p [] = refl
same_targets p (t ∷ ts) = by (least_in p.buffers t) (same_targets p ts)
  where
    by : (o : Option ℕ) → targets_in (base p) ts ≡ least_targets_in p.buffers ts → with_target (target_in (base p) t o) (targets_in (base p) ts) ≡ with_target (target_with_fence p.buffers t o) (least_targets_in p.buffers ts)
    by (Some b) rest = rw rest refl
    by None rest = refl

parked-at : (specs : List StreamSpec) (sent : Option Sent) (parked : Option Parked) → IsTakenAt specs sent parked → IsParkedAt specs (option_map fresh_target sent) parked
parked-at specs (Some sent) (Some parked) taken = by (slice_get specs sent.stream.0) taken
  where
    by : (o : Option StreamSpec) → IsTakenFor o sent parked → IsParkedIn o (fresh_target sent) parked
    by (Some spec) t = record { pixels = t.pixels; waiter = t.waiter }
    by None t = absurd t
parked-at specs None None taken = tt
parked-at specs (Some sent) None taken = absurd taken
parked-at specs None (Some parked) taken = absurd taken

pub parked_of : (specs : List StreamSpec) (targets : Four Sent) (parked : Four Parked) → AreTaken specs targets parked → AreParked specs (fresh_targets targets) parked
parked_of specs targets parked taken = record {
  a = parked-at specs targets.a parked.a taken.a;
  b = parked-at specs targets.b parked.b taken.b;
  c = parked-at specs targets.c parked.c taken.c;
  d = parked-at specs targets.d parked.d taken.d;
}

-- ---- a send whose item may go and whose buffers are taken

pub record IsSending (s : Serving) (next : Queued) (targets : Four Sent) : Type 0 where
  pub room : length s.parts.rows < s.script.profile.depth
  pub above : are_below s.parts.queue.numbers s.parts.rows ≡ true
  pub sound : IsSound (length s.parts.client.streams) (fresh_row next.item.settings (record { 0 = s.parts.queue.numbers }) next.request targets)
  pub numbered : s.parts.queue.numbers + 1 < 2 ^ 32
  pub fits : Fits (client.clients_after s.script next.repeating false (send_entry s.parts next targets) s.parts.client)
  pub made : Makes s (record { script = s.script; parts = send_left s next targets }) (move_with Send (Some (send_entry s.parts next targets)))

pub sending : (s t : Serving) → s ≡ t → IsServing t → (next : Queued) (targets : Four Sent) → Some next ≡ next_of s.parts.queue → true ≡ may_go_by t.script t.parts next → Some targets ≡ option_map four_of (least_targets_in s.parts.buffers (targets_in_order next.item)) → IsSending s next targets
sending s t same serving' next targets at' may' takes =
    let serving = serving_as s t same serving' in
    let at : next_of s.parts.queue ≡ Some next = sym at' in
    let it = taken_targets (least_targets_in s.parts.buffers (targets_in_order next.item)) targets takes in
    let took : targets_in (base s.parts) (targets_in_order next.item) ≡ Some it.0 = same_targets s.parts (targets_in_order next.item) ∙ it.1 in
    let may : may_go_by s.script s.parts next ≡ true = subst (λ (x : Serving). may_go_by x.script x.parts next ≡ true) (sym same) (sym may') in
    let ready' = send_ready s next it.0 at may took in
    let ready : move_by s.script s.parts Send ≡ Some (move_with Send (Some (send_entry s.parts next targets))) = rw it.2 ready' in
    record {
      room = has_room s next may;
      above = row_above s serving next targets ready;
      sound = row_sound s serving next targets at ready;
      numbered = send_numbered s serving next targets ready;
      fits = send_fits s serving next targets at ready;
      made = sends s serving next targets at ready;
    }
