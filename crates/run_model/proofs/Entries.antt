-- A legal trace has at most 21 entries for each frame, two for each command, and two more.
use Rattle.std.proofs.Common.{◌≡◌, ℕ, zero, suc, ◌==◌, ◌+◌, ◌*◌, ◌<◌, ◌≤◌, Bool, true, false, ◌&&◌, ◌||◌, not, List, [], ◌∷◌, Option, Some, None, refl, arith, length, count_by, is_some, nat_lt, if◌then◌else◌}
use Rattle.std.specs.List.{list_any}
use Rattle.std.proofs.lemmas.Bool.{and_parts, false≢true, ltb-true, not-true, or_left, or_parts}
use Rattle.cam_types.specs.declared.number.FrameNo.{FrameNo}
use Rattle.cam_types.specs.declared.number.StreamIx.{StreamIx}
use Rattle.cam_types.specs.declared.number.FenceNo.{FenceNo}
use Rattle.cam_types.specs.declared.script.Command.{Command}
use Rattle.cam_types.specs.declared.script.Script.{Script}
use Rattle.trace_model.specs.declared.entry.Entry.{Entry}
use Rattle.trace_model.specs.declared.entry.Entry.TheVariants.{Begin, Call, Send, Dropped, Shutter, Partial, Filled, Failed, ErrorRequest, ErrorResult, ErrorBuffer, ErrorDevice, Release, Signal, Early, Late}
use Rattle.trace_model.specs.declared.entry.Sent.{Sent}
use Rattle.trace_model.specs.Calls.{begun, is_waiting_command, next_command, word_of}
use Rattle.trace_model.specs.Client.{begin_of}
use Rattle.trace_model.specs.Entry.{is_call, is_early_with, is_error_buffer, is_error_device, is_error_request, is_error_result, is_late_with, is_numbering, is_part, is_release, is_shutter, returns_target, signals}
use Rattle.trace_model.specs.Errors.{error_buffer_due, error_request_due, is_cut_short, may_fail_buffer, may_fail_in_part, may_fail_request, may_fail_device_at}
use Rattle.trace_model.specs.Faults.{buffer_fault, request_fault}
use Rattle.trace_model.specs.Fence.{is_signalled}
use Rattle.trace_model.specs.Frames.{frames, has_error_request, has_shutter, has_target, is_sent, target_of, targets_of}
use Rattle.trace_model.specs.Legal.{IsLegal}
use Rattle.trace_model.specs.Numbers.{call_count, next_early, next_fence, next_number}
use Rattle.trace_model.specs.Open.{all_settled, has_error_buffer, has_error_result, has_part, has_something, is_metadata_ended, is_open, is_returned}
use Rattle.trace_model.specs.Release.{signal_due}
use Rattle.trace_model.specs.Stopping.{has_failed, is_stopped, is_stopping, stops_by}
use Rattle.trace_laws.proofs.Calls.{calls_bounded}
use Rattle.trace_laws.proofs.EarlyLemmas.{earlies_bounded}
use Rattle.trace_laws.proofs.FrameLemmas.{frames_bounded}
use Rattle.trace_laws.proofs.Shapes.{late-is}
use Rattle.trace_laws.specs.Bounds.{frame_bound}
use Rattle.trace_laws.proofs.Metadata.{request-fails, result-fails}
use Rattle.trace_laws.proofs.Parts.{part-first, part-is}
use Rattle.trace_laws.proofs.Shutters.{exposed, shutter-sent}
use Rattle.trace_laws.proofs.Once.{out-not-returned}
use Rattle.trace_laws.proofs.Returns.{early-back, early-well, filled-back, filled-well}
use Rattle.trace_model.specs.Filled.{is_sound}
use Rattle.trace_laws.proofs.FenceLemmas.{ends_bounded}
use Rattle.trace_model.specs.Summary.{is_failed_buffer}
use Rattle.run_model.proofs.Room.{HasRoom, Slot, is_slot, room-bound, room-taken, room-without, same_slot, slot, taking, used}
use Rattle.run_model.proofs.Slots.{early-slot, fence-slot, frame-slot, pairs, room-after, slots, slots-few, target-slot, pairs-few}
use Rattle.basic_lemmas.proofs.Lists.{found-any, any-less}
use Rattle.basic_lemmas.proofs.Tests.{given-where, own-number}
use Rattle.basic_lemmas.proofs.Counts.{count-cons}

-- ---- the slots that entries take

abbrev pub entry_slot : Entry → Option Slot
entry_slot (Shutter n _) = Some (slot 0 n.0 0)
entry_slot (Partial n k _) = Some (slot 1 n.0 k)
entry_slot (ErrorRequest n) = Some (slot 1 n.0 3)
entry_slot (ErrorResult n) = Some (slot 1 n.0 3)
entry_slot (ErrorBuffer n s) = Some (slot 3 n.0 s.0)
entry_slot (Filled n s _ _ _) = Some (slot 3 n.0 s.0)
entry_slot (Early n s _ _) = Some (slot 3 n.0 s.0)
entry_slot (Late d _) = Some (slot 4 d.0 0)
entry_slot (Signal f) = Some (slot 5 f.0 0)
entry_slot _ = None

abbrev pub of_frame : ℕ → List Slot
of_frame n = slot 0 n 0 ∷ (slot 1 n 1 ∷ (slot 1 n 2 ∷ (slot 1 n 3 ∷ [])))

abbrev pub of_target : ℕ → ℕ → List Slot
of_target n s = slot 3 n s ∷ []

abbrev pub of_fence : ℕ → List Slot
of_fence f = slot 5 f 0 ∷ []

abbrev pub of_early : ℕ → List Slot
of_early d = slot 4 d 0 ∷ []

abbrev pub entry_slots : List Entry → List Slot
entry_slots past = slots of_frame of_target of_fence of_early past

-- ---- a slot is free where the entry that takes it doesn't stand

shutter_takes : (n : ℕ) (e : Entry) → is_slot (slot 0 n 0) (entry_slot e) ≡ true → is_shutter n e ≡ true
shutter_takes n (Shutter m t) h = (and_parts (m.0 == n) true h).0
shutter_takes n _ h = absurd (false≢true h)

-- the entry says that metadata of frame n is missing, or it is part k of frame n
abbrev pub fails_metadata : ℕ → Entry → Bool
fails_metadata n e = is_error_result n e || is_error_request n e

part_takes : (n k : ℕ) (e : Entry) → is_slot (slot 1 n k) (entry_slot e) ≡ true → (is_part n k e || fails_metadata n e) ≡ true
part_takes n k (Partial m j part) h = or_left ((m.0 == n) && (j == k)) false h
part_takes n k (ErrorRequest m) h = (and_parts (m.0 == n) (3 == k) h).0
part_takes n k (ErrorResult m) h = or_left (m.0 == n) false (and_parts (m.0 == n) (3 == k) h).0
part_takes n k _ h = absurd (false≢true h)

buffer_takes : (n s : ℕ) (e : Entry) → is_slot (slot 3 n s) (entry_slot e) ≡ true → (is_error_buffer n s e || returns_target n s e) ≡ true
buffer_takes n s (ErrorBuffer m t) h = or_left ((m.0 == n) && (t.0 == s)) false h
buffer_takes n s (Filled m t b f d) h = h
buffer_takes n s (Early m t b d) h = h
buffer_takes n s _ h = absurd (false≢true h)

signal_takes : (f : ℕ) (e : Entry) → is_slot (slot 5 f 0) (entry_slot e) ≡ true → signals f e ≡ true
signal_takes f (Signal g) h = (and_parts (g.0 == f) true h).0
signal_takes f _ h = absurd (false≢true h)

late_takes : (d : ℕ) (e : Entry) → is_slot (slot 4 d 0) (entry_slot e) ≡ true → is_late_with d e ≡ true
late_takes d (Late f x) h = (and_parts (f.0 == d) true h).0
late_takes d _ h = absurd (false≢true h)

-- none passes one of two tests
none-of : (p q : Entry → Bool) (past : List Entry) → list_any p past ≡ false → list_any q past ≡ false → list_any (λ e. p e || q e) past ≡ false
none-of p q [] a b = refl
none-of p q (e ∷ past) a b =
    let first = or_parts (p e) (list_any p past) a in
    let second = or_parts (q e) (list_any q past) b in
    rw (first.0, second.0, none-of p q past first.1 second.1) refl

part_free : (n k : ℕ) (past : List Entry) → has_part n k past ≡ false → has_error_result n past ≡ false → has_error_request n past ≡ false → used entry_slot past (slot 1 n k) ≡ false
part_free n k past part result request =
    let errors = none-of (is_error_result n) (is_error_request n) past result request in
    any-less (λ e. is_part n k e || fails_metadata n e) (λ x. is_slot (slot 1 n k) (entry_slot x)) past (part_takes n k) (none-of (is_part n k) (fails_metadata n) past part errors)

buffer_free : (n s : ℕ) (past : List Entry) → has_error_buffer n s past ≡ false → is_returned n s past ≡ false → used entry_slot past (slot 3 n s) ≡ false
buffer_free n s past error back =
    any-less (λ e. is_error_buffer n s e || returns_target n s e) (λ x. is_slot (slot 3 n s) (entry_slot x)) past (buffer_takes n s) (none-of (is_error_buffer n s) (returns_target n s) past error back)

-- ---- each entry takes a free slot

-- a slot of a frame
frame_takes : (e : Entry) (past : List Entry) (t : Slot) (n : ℕ) → entry_slot e ≡ Some t → used entry_slot past t ≡ false → is_sent n past ≡ true → list_any (same_slot t) (of_frame n) ≡ true → HasRoom entry_slot past (entry_slots past) → HasRoom entry_slot (e ∷ past) (entry_slots past)
frame_takes e past t n at fresh sent one room =
    room-taken entry_slot e past (entry_slots past) t at fresh (frame-slot of_frame of_target of_fence of_early (same_slot t) n past one sent) room

target_takes : (e : Entry) (past : List Entry) (t : Slot) (n s : ℕ) → entry_slot e ≡ Some t → used entry_slot past t ≡ false → has_target n s past ≡ true → list_any (same_slot t) (of_target n s) ≡ true → HasRoom entry_slot past (entry_slots past) → HasRoom entry_slot (e ∷ past) (entry_slots past)
target_takes e past t n s at fresh has one room =
    room-taken entry_slot e past (entry_slots past) t at fresh (target-slot of_frame of_target of_fence of_early (same_slot t) n s past one has) room

one_of_three : (n k : ℕ) → 1 ≤ k → k ≤ 3 → list_any (same_slot (slot 1 n k)) (of_frame n) ≡ true
one_of_three n (suc zero) low high = rw (own-number n) refl
one_of_three n (suc (suc zero)) low high = rw (own-number n) refl
one_of_three n (suc (suc (suc zero))) low high = rw (own-number n) refl
one_of_three n zero low high = absurd (omega (arith, low))
one_of_three n (suc (suc (suc (suc k)))) low high = absurd (omega (arith, high))

pub target-has : (n s : ℕ) (past : List Entry) (t : Sent) → target_of n s past ≡ Some t → has_target n s past ≡ true
target-has n s past t found = found-any {X = Sent} (λ u. u.stream.0 == s) (targets_of n past) t found

pub open-sent : (n : ℕ) (past : List Entry) → is_open n past ≡ true → is_sent n past ≡ true
open-sent n past h = (and_parts (is_sent n past) (not (is_metadata_ended n past && all_settled n past)) h).0

request_sent : (script : Script) (past : List Entry) (n : FrameNo) → error_request_due script past n.0 ≡ Some (ErrorRequest n) → is_sent n.0 past ≡ true
request_sent script past n h =
    let given = given-where (may_fail_request script past n.0) (ErrorRequest (record { 0 = n.0 })) (ErrorRequest n) h in
    let cause = (request_fault script n.0 && has_shutter n.0 past) || is_stopped n.0 past in
    let first = and_parts (is_open n.0 past && not (has_something n.0 past)) cause given.0 in
    open-sent n.0 past (and_parts (is_open n.0 past) (not (has_something n.0 past)) first.0).0

buffer_fails : (script : Script) (past : List Entry) (n : FrameNo) (s : StreamIx) → error_buffer_due script past n.0 s.0 ≡ Some (ErrorBuffer n s) → (has_target n.0 s.0 past ≡ true) × (has_error_buffer n.0 s.0 past ≡ false) × (is_returned n.0 s.0 past ≡ false)
buffer_fails script past n s h =
    let given = given-where (may_fail_buffer script past n.0 s.0) (ErrorBuffer (record { 0 = n.0 }) (record { 0 = s.0 })) (ErrorBuffer n s) h in
    let rest = may_fail_in_part script past n.0 && not (has_error_request n.0 past) in
    let fresh = not (has_error_buffer n.0 s.0 past) && not (is_returned n.0 s.0 past) in
    let cause = buffer_fault script n.0 s.0 || is_cut_short past n.0 in
    let first = and_parts (has_target n.0 s.0 past && rest) (fresh && cause) given.0 in
    let second = and_parts (has_target n.0 s.0 past) rest first.0 in
    let third = and_parts fresh cause first.1 in
    let fourth = and_parts (not (has_error_buffer n.0 s.0 past)) (not (is_returned n.0 s.0 past)) third.0 in
    (second.0, not-true (has_error_buffer n.0 s.0 past) fourth.0, not-true (is_returned n.0 s.0 past) fourth.1)

signal_fresh : (past : List Entry) (f : FenceNo) → signal_due past f.0 ≡ Some (Signal f) → (f.0 < next_fence past) × (is_signalled f.0 past ≡ false)
signal_fresh past f h =
    let given = given-where (nat_lt f.0 (next_fence past) && not (is_signalled f.0 past)) (Signal (record { 0 = f.0 })) (Signal f) h in
    let parts = and_parts (nat_lt f.0 (next_fence past)) (not (is_signalled f.0 past)) given.0 in
    (ltb-true f.0 (next_fence past) parts.0, not-true (is_signalled f.0 past) parts.1)

-- the slot of the last part, where the metadata hasn't ended
last_free : (n : ℕ) (past : List Entry) → is_metadata_ended n past ≡ false → used entry_slot past (slot 1 n 3) ≡ false
last_free n past h =
    let first = or_parts (has_part n 3 past) (has_error_result n past || has_error_request n past) h in
    let second = or_parts (has_error_result n past) (has_error_request n past) first.1 in
    part_free n 3 past first.0 second.0 second.1

sound_buffer : (script : Script) (past : List Entry) (n s : ℕ) → is_sound script past n s ≡ true → has_error_buffer n s past ≡ false
sound_buffer script past n s h =
    let first = and_parts (not (request_fault script n) && not (buffer_fault script n s)) (not (has_error_request n past) && not (has_error_buffer n s past)) h in
    not-true (has_error_buffer n s past) (and_parts (not (has_error_request n past)) (not (has_error_buffer n s past)) first.1).1

pub entries-room : (script : Script) (past : List Entry) → IsLegal script past → HasRoom entry_slot past (entry_slots past)
entries-room script [] legal = omega arith
entries-room script (Shutter n time ∷ past) legal =
    let is = exposed script past n time legal.0 in
    let fresh = any-less (is_shutter n.0) (λ x. is_slot (slot 0 n.0 0) (entry_slot x)) past (shutter_takes n.0) is.1 in
    frame_takes (Shutter n time) past (slot 0 n.0 0) n.0 refl fresh is.0 (rw (own-number n.0) refl) (entries-room script past legal.1)
entries-room script (Partial n k part ∷ past) legal =
    let is = part-is script past n k part legal.0 in
    let number = is.number in
    let fresh = part_free n.0 k past (part-first script past n k part legal.1 legal.0) is.no_result is.no_request in
    let sent = shutter-sent script past n.0 legal.1 is.shutter in
    frame_takes (Partial n k part) past (slot 1 n.0 k) n.0 refl fresh sent (one_of_three n.0 k (omega (arith, number)) is.short) (entries-room script past legal.1)
entries-room script (ErrorRequest n ∷ past) legal =
    let fresh = last_free n.0 past (request-fails script past n legal.0) in
    frame_takes (ErrorRequest n) past (slot 1 n.0 3) n.0 refl fresh (request_sent script past n legal.0) (rw (own-number n.0) refl) (entries-room script past legal.1)
entries-room script (ErrorResult n ∷ past) legal =
    let is = result-fails script past n legal.0 in
    frame_takes (ErrorResult n) past (slot 1 n.0 3) n.0 refl (last_free n.0 past is.open_still) (shutter-sent script past n.0 legal.1 is.shutter) (rw (own-number n.0) refl) (entries-room script past legal.1)
entries-room script (ErrorBuffer n s ∷ past) legal =
    let is = buffer_fails script past n s legal.0 in
    target_takes (ErrorBuffer n s) past (slot 3 n.0 s.0) n.0 s.0 refl (buffer_free n.0 s.0 past is.1 is.2) is.0 (rw (own-number n.0, own-number s.0) refl) (entries-room script past legal.1)
entries-room script (Filled n s b f d ∷ past) legal =
    let back = filled-back script past n s b f d legal.0 in
    let whole = sound_buffer script past n.0 s.0 (filled-well script past n s b f d legal.0).sound in
    let fresh = buffer_free n.0 s.0 past whole (out-not-returned script past n.0 s.0 b.0 legal.1 back.out) in
    target_takes (Filled n s b f d) past (slot 3 n.0 s.0) n.0 s.0 refl fresh (target-has n.0 s.0 past back.target back.found) (rw (own-number n.0, own-number s.0) refl) (entries-room script past legal.1)
entries-room script (Early n s b d ∷ past) legal =
    let back = early-back script past n s b d legal.0 in
    let whole = sound_buffer script past n.0 s.0 (early-well script past n s b d legal.0).sound in
    let fresh = buffer_free n.0 s.0 past whole (out-not-returned script past n.0 s.0 b.0 legal.1 back.out) in
    let room = target_takes (Early n s b d) past (slot 3 n.0 s.0) n.0 s.0 refl fresh (target-has n.0 s.0 past back.target back.found) (rw (own-number n.0, own-number s.0) refl) (entries-room script past legal.1) in
    room-after of_frame of_target of_fence of_early entry_slot (Early n s b d ∷ past) (Early n s b d) past room
entries-room script (Late d x ∷ past) legal =
    let is = late-is script past d x legal.0 in
    let given = found-any {X = Entry} (is_early_with d.0) past (Early is.0 is.1 is.2 is.3) is.4 in
    let fresh = any-less (is_late_with d.0) (λ e. is_slot (slot 4 d.0 0) (entry_slot e)) past (late_takes d.0) is.5 in
    let within = early-slot of_frame of_target of_fence of_early (same_slot (slot 4 d.0 0)) d.0 past (rw (own-number d.0) refl) given in
    room-taken entry_slot (Late d x) past (entry_slots past) (slot 4 d.0 0) refl fresh within (entries-room script past legal.1)
entries-room script (Failed n s b f ∷ past) legal = room-without entry_slot (Failed n s b f) past (entry_slots past) refl (entries-room script past legal.1)
entries-room script (Signal f ∷ past) legal =
    let is = signal_fresh past f legal.0 in
    let fresh = any-less (signals f.0) (λ x. is_slot (slot 5 f.0 0) (entry_slot x)) past (signal_takes f.0) is.1 in
    let within = fence-slot of_frame of_target of_fence of_early (same_slot (slot 5 f.0 0)) script f.0 past legal.1 (rw (own-number f.0) refl) is.0 in
    room-taken entry_slot (Signal f) past (entry_slots past) (slot 5 f.0 0) refl fresh within (entries-room script past legal.1)
entries-room script (Send n r i same targets ∷ past) legal =
    room-after of_frame of_target of_fence of_early entry_slot (Send n r i same targets ∷ past) (Send n r i same targets) past (room-without entry_slot (Send n r i same targets) past (entry_slots past) refl (entries-room script past legal.1))
entries-room script (Release b f ∷ past) legal =
    room-after of_frame of_target of_fence of_early entry_slot (Release b f ∷ past) (Release b f) past (room-without entry_slot (Release b f) past (entry_slots past) refl (entries-room script past legal.1))
entries-room script (Begin w ∷ past) legal = room-without entry_slot (Begin w) past (entry_slots past) refl (entries-room script past legal.1)
entries-room script (Call i w r ∷ past) legal = room-without entry_slot (Call i w r) past (entry_slots past) refl (entries-room script past legal.1)
entries-room script (Dropped n r i ∷ past) legal = room-without entry_slot (Dropped n r i) past (entry_slots past) refl (entries-room script past legal.1)
entries-room script (ErrorDevice ∷ past) legal = room-without entry_slot ErrorDevice past (entry_slots past) refl (entries-room script past legal.1)

-- ---- the other entries

abbrev pub is_begin : Entry → Bool
is_begin (Begin _) = true
is_begin _ = false

abbrev pub one_if : Bool → ℕ
one_if b = if b then 1 else 0

at_most_one : (b : Bool) → one_if b ≤ 1
at_most_one true = omega arith
at_most_one false = omega arith

begin_given : (past : List Entry) (o : Option Command) (e : Entry) → begin_of past o ≡ Some e → is_some (begun past) ≡ false
begin_given past None e h = absurd (cc)
begin_given past (Some c) e h =
    let given = given-where (is_waiting_command c && not (is_some (begun past))) (Begin (word_of c)) e h in
    not-true (is_some (begun past)) (and_parts (is_waiting_command c) (not (is_some (begun past))) given.0).1

-- no more begins than calls and one that has no call yet
pub begins-few : (script : Script) (past : List Entry) → IsLegal script past → count_by is_begin past ≤ call_count past + one_if (is_some (begun past))
begins-few script [] legal = omega arith
begins-few script (Begin w ∷ past) legal =
    let ih = begins-few script past legal.1 in
    let none = begin_given past (next_command script past) (Begin w) legal.0 in
    let ih' : count_by is_begin past ≤ call_count past + 0 = rw none at ih in
    let one = count-cons is_begin (Begin w) past in
    let same = count-cons is_call (Begin w) past in
    omega (arith, ih', one, same)
begins-few script (Call i w r ∷ past) legal =
    let ih = begins-few script past legal.1 in
    let none = count-cons is_begin (Call i w r) past in
    let one = count-cons is_call (Call i w r) past in
    let few = at_most_one (is_some (begun past)) in
    omega (arith, ih, none, one, few)
begins-few script (_ ∷ past) legal = begins-few script past legal.1

device_once : (stopping due : Bool) (e : Entry) → (if not stopping && due then Some ErrorDevice else None) ≡ Some e → stopping ≡ false
device_once true due e h = absurd (cc)
device_once false due e h = refl

-- the device fails once
pub device-few : (script : Script) (past : List Entry) → IsLegal script past → count_by is_error_device past ≤ one_if (has_failed past)
device-few script [] legal = omega arith
device-few script (ErrorDevice ∷ past) legal =
    let ih = device-few script past legal.1 in
    let going = device_once (is_stopping past) (list_any (may_fail_device_at script past) (frames past)) ErrorDevice legal.0 in
    let whole = (or_parts (stops_by (begun past)) (has_failed past) going).1 in
    let ih' : count_by is_error_device past ≤ 0 = rw whole at ih in
    let one = count-cons is_error_device ErrorDevice past in
    omega (arith, ih', one)
device-few script (e ∷ past) legal = device-few script past legal.1

-- every entry takes a slot or is of one of these kinds
kinds : (e : Entry) → one_if (is_some (entry_slot e)) + (one_if (is_numbering e) + (one_if (is_release e) + (one_if (is_call e) + (one_if (is_begin e) + (one_if (is_failed_buffer e) + one_if (is_error_device e)))))) ≡ 1
kinds (Begin w) = refl
kinds (Call i w r) = refl
kinds (Send n r i same targets) = refl
kinds (Dropped n r i) = refl
kinds (Release b f) = refl
kinds (Failed n s b f) = refl
kinds ErrorDevice = refl
kinds _ = refl

pub all-kinds : (past : List Entry) → length past ≡ taking entry_slot past + (next_number past + (next_fence past + (call_count past + (count_by is_begin past + (count_by is_failed_buffer past + count_by is_error_device past)))))
all-kinds [] = refl
all-kinds (e ∷ past) =
    let ih = all-kinds past in
    let k = kinds e in
    let a = count-cons {X = Entry} (λ y. is_some (entry_slot y)) e past in
    let b = count-cons is_numbering e past in
    let c = count-cons is_release e past in
    let d = count-cons is_call e past in
    let f = count-cons is_begin e past in
    let i = count-cons is_failed_buffer e past in
    let g = count-cons is_error_device e past in
    omega (arith, ih, k, a, b, c, d, f, g, i)

pub entries_bounded : (script : Script) (past : List Entry) → IsLegal script past → length past ≤ 21 * frame_bound script + (2 * length script.commands + 2)
entries_bounded script past legal =
    let all = all-kinds past in
    let room = room-bound entry_slot past (entry_slots past) (entries-room script past legal) in
    let few = slots-few of_frame of_target of_fence of_early 8 1 1 past few_slots (λ f. refl) (λ d. refl) in
    let numbers = frames_bounded script past legal in
    let fences = ends_bounded script past legal in
    let earlies : next_early past ≤ 4 * frame_bound script = earlies_bounded script past legal in
    let calls = calls_bounded script past legal in
    let begins = begins-few script past legal in
    let devices = device-few script past legal in
    let one = at_most_one (is_some (begun past)) in
    let two = at_most_one (has_failed past) in
    omega (arith, all, room, few, numbers, fences, earlies, calls, begins, devices, one, two)
  where
    few_slots : (n : ℕ) (targets : List Sent) → length targets ≤ 4 → length (of_frame n) + length (pairs of_target n targets) ≤ 8
    few_slots n targets few = let each = pairs-few of_target 1 (λ m s. refl) n targets in omega (arith, each, few)
