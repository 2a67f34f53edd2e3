-- Each entry of a legal run of a valid script has a line.
use Rattle.std.proofs.Common.{◌≡◌, ℕ, zero, suc, ◌==◌, ◌+◌, ◌*◌, ◌/◌, ◌%◌, ◌<◌, ◌≤◌, ◌^◌, Bool, true, false, ◌&&◌, ◌||◌, not, List, [], ◌∷◌, Option, Some, None, refl, ap, arith, inl, inr, find, length, take, slice_get, slice_index, nat_le, nat_lt, if◌then◌else◌, length-append}
use Rattle.std.specs.Prelude.{is_some}
use Rattle.std.specs.List.{list_all, list_any}
use Rattle.std.specs.Int.{byte_at, bytes_high_first}
use Rattle.std.proofs.lemmas.Bool.{cases_Bool, false≢true, and_parts, and_from}
use Rattle.std.proofs.lemmas.Bool.Decides.{nat_tests}
use Rattle.std.proofs.lemmas.List.Folds.{list_all-append}
use Rattle.sha2.specs.Sha256.{sha256, digest_bytes, final_hash, initial_hash_256}
use Rattle.cam_types.specs.Four.{four_list, four_of}
use Rattle.cam_types.specs.Metadata.{part_at}
use Rattle.cam_types.specs.Picture.{picture}
use Rattle.cam_types.specs.Script.{command_fits, is_valid}
use Rattle.cam_types.specs.declared.four.Four.{Four}
use Rattle.cam_types.specs.declared.item.Settings.{Settings}
use Rattle.cam_types.specs.declared.number.BufferId.{BufferId}
use Rattle.cam_types.specs.declared.number.DeviceFenceNo.{DeviceFenceNo}
use Rattle.cam_types.specs.declared.number.FenceNo.{FenceNo}
use Rattle.cam_types.specs.declared.number.FrameNo.{FrameNo}
use Rattle.cam_types.specs.declared.number.RequestId.{RequestId}
use Rattle.cam_types.specs.declared.number.StreamIx.{StreamIx}
use Rattle.cam_types.specs.declared.partial_result.PartialResult.{PartialResult}
use Rattle.cam_types.specs.declared.reply.Reply.{Reply}
use Rattle.cam_types.specs.declared.reply.Reply.TheVariants.{Ok, Submitted, Configured, Refused}
use Rattle.cam_types.specs.declared.script.Command.{Command}
use Rattle.cam_types.specs.declared.script.Command.TheVariants.{Configure, Once, Burst, Repeat}
use Rattle.cam_types.specs.declared.script.Script.{Script}
use Rattle.cam_types.specs.declared.script.Word.{Word}
use Rattle.cam_types.specs.declared.stream.StreamSpec.{StreamSpec}
use Rattle.trace_model.specs.declared.entry.Entry.{Entry}
use Rattle.trace_model.specs.declared.entry.Entry.TheVariants.{Begin, Call, Send, Dropped, Shutter, Partial, Filled, Failed, ErrorRequest, ErrorResult, ErrorBuffer, ErrorDevice, Release, Signal, Early, Late}
use Rattle.trace_model.specs.declared.entry.Sent.{Sent}
use Rattle.trace_model.specs.Allowed.{IsAllowed}
use Rattle.trace_model.specs.Calls.{next_command, request_count, word_of}
use Rattle.trace_model.specs.Configuration.{buffers_of, made_count, streams}
use Rattle.trace_model.specs.Drop.{drop_of}
use Rattle.trace_model.specs.Entry.{is_early_with}
use Rattle.trace_model.specs.Errors.{error_buffer_due, error_request_due, error_result_due, failed_due, fence_left, is_cut_short, may_fail_buffer, may_fail_in_part, may_fail_request, may_fail_result}
use Rattle.trace_model.specs.Faults.{buffer_fault, request_fault, result_fault}
use Rattle.trace_model.specs.Fence.{fence_of, is_passed, is_same_fence}
use Rattle.trace_model.specs.Filled.{early_due, filled_due, late_due, may_deliver}
use Rattle.trace_model.specs.Frames.{each_earlier, frames, has_error_request, has_shutter, has_target, is_sent, settings_of, shutter_time, target_of, targets_of}
use Rattle.trace_model.specs.Legal.{IsLegal}
use Rattle.trace_model.specs.Numbers.{call_count, next_early, next_fence, next_number}
use Rattle.trace_model.specs.Open.{all_settled, has_error_buffer, has_something, is_metadata_ended, is_open, is_returned}
use Rattle.trace_model.specs.Partial.{may_have_partial, partial_count, partial_of, partial_due}
use Rattle.trace_model.specs.Picture.{digest, digest_of, digest_on}
use Rattle.trace_model.specs.Place.{Pool, is_at, place}
use Rattle.trace_model.specs.Printable.{fence_fits, is_byte, is_digest, is_printable, is_small, part_fits, reply_fits, sent_fits}
use Rattle.trace_model.specs.Queue.{first_in, next, queued}
use Rattle.cam_types.specs.declared.request.Queued.{Queued}
use Rattle.cam_types.specs.declared.request.WaitingItem.{WaitingItem}
use Rattle.trace_model.specs.Release.{release_due, signal_due}
use Rattle.trace_model.specs.Reply.{acceptance, made_for, refusal, reply, reply_with}
use Rattle.trace_model.specs.Send.{are_streams, fits_next, may_send, takes_from_pool, targets_in_order}
use Rattle.trace_model.specs.Shutter.{may_expose, shutter_due}
use Rattle.trace_model.specs.Stopping.{is_stopped, is_stopping}
use Rattle.trace_model.proofs.LawLemmas.{begins-waiting, goes, parts-shape}
use Rattle.trace_laws.specs.Bounds.{fence_bound, frame_bound, time_bound}
use Rattle.trace_laws.specs.Laws.{is_until}
use Rattle.trace_laws.specs.Typed.{command_typed, is_typed}
use Rattle.trace_laws.proofs.Accepted.{frame-moderate, is_moderate}
use Rattle.trace_laws.proofs.Calls.{by-call, calls_bounded}
use Rattle.trace_laws.proofs.BufferLemmas.{most}
use Rattle.trace_laws.proofs.EarlyLemmas.{earlies_bounded, pending}
use Rattle.trace_laws.proofs.FenceLemmas.{fences_bounded}
use Rattle.trace_laws.proofs.FrameLemmas.{frames_bounded}
use Rattle.trace_laws.proofs.NextFits.{next-small, queued-small, request-small}
use Rattle.trace_laws.proofs.Printed.{client-small, small-same, exposed-small, fence-fits, frames-small, sent-small, stream-byte, target-fits, target-small}
use Rattle.trace_laws.proofs.RefusedFits.{fits_if_any, refusal-fits, small}
use Rattle.trace_laws.proofs.Shapes.{delivers, early-is, failed-is, filled-is, late-is, release-is, shutter-is, signal-is}
use Rattle.trace_laws.proofs.StreamLemmas.{buffer-small, few-made, low-fits, made-all-low, made-low, own-stream, stream-there}
use Rattle.trace_laws.proofs.TimeLemmas.{next-time-bounded, times_bounded}
use Rattle.trace_laws.proofs.ValidLemmas.{Valid, at-most, few-frames, valid}
use Rattle.basic_lemmas.proofs.Lists.{all-filtered, found-passes, all-at, all-found}
use Rattle.trace_laws.proofs.Due.{four_filled}
use Rattle.basic_lemmas.proofs.Tests.{passed-where}

-- ---- numbers

-- the numbers of frames and fences of a valid script fit
frame-small : (script : Script) (n : ℕ) → Valid script → n ≤ frame_bound script → is_small n ≡ true
frame-small script n v l = let few = few-frames script v in small n 65664 (omega (arith, few, l)) (omega arith)

fence-small : (script : Script) (n : ℕ) → Valid script → n ≤ fence_bound script → is_small n ≡ true
fence-small script n v l = let few = few-frames script v in below n (omega (arith, few, l))
  where
    below : (n : ℕ) → n ≤ 262656 → is_small n ≡ true
    below n l = grind (arith, nat_tests)

time-fits : (script : Script) (t : ℕ) → Valid script → t ≤ time_bound script → nat_lt t (2 ^ 63) ≡ true
time-fits script t v l = let few = few-frames script v in below t (omega (arith, few, l))
  where
    below : (t : ℕ) → t ≤ 6567400000000 → nat_lt t (2 ^ 63) ≡ true
    below t l = grind (arith, nat_tests)

more_time : (t : ℕ) → nat_lt t (2 ^ 63) ≡ true → nat_lt t (2 ^ 64) ≡ true
more_time t h = grind (arith, nat_tests)

-- ---- calls

reply_prints : (script : Script) (past : List Entry) (c : Command) (e : Option Reply) → fits_if_any e ≡ true → most script.profile ≤ 16 → made_count past ≤ 36864 → is_small (request_count past) ≡ true → reply_fits (word_of c) (reply_with e (acceptance script past c)) ≡ true
reply_prints script past c (Some (Refused code first second)) h profile made' few = h
reply_prints script past c (Some Ok) h profile made' few = absurd (false≢true h)
reply_prints script past c (Some (Submitted r)) h profile made' few = absurd (false≢true h)
reply_prints script past c (Some (Configured each)) h profile made' few = absurd (false≢true h)
reply_prints script past (Configure specs) None h profile made' few =
    let fits = low-fits (four_list (four_of (made_for script.profile (made_count past) specs))) (made-low script.profile (made_count past) specs profile made') in
    rw (four_filled (made_for script.profile (made_count past) specs), fits) refl
reply_prints script past (Once item) None h profile made' few = few
reply_prints script past (Burst items) None h profile made' few = few
reply_prints script past (Repeat items) None h profile made' few = few
reply_prints script past c None h profile made' few = refl

call-prints : (script : Script) (past : List Entry) (i : ℕ) (w : Word) (r : Reply) → Valid script → is_typed script ≡ true → IsLegal script past → IsAllowed script past (Call i w r) → is_printable (Call i w r) ≡ true
call-prints script past i w r v typed legal may =
    by-call (λ e. is_printable e ≡ true) script past i w r may
    (λ c at.
    let few = calls_bounded script past legal in
    let fits = refusal-fits script past c (all-at command_fits script.commands (call_count past) c v.fit at) (all-at command_typed script.commands (call_count past) c typed at) in
    let place = small (call_count past) 512 (omega (arith, few, v.commands)) (omega arith) in
    and_from (is_small (call_count past)) (reply_fits (word_of c) (reply script past c)) place (reply_prints script past c (refusal script past c) fits v.profile (few-made script past v legal) (request-small script past v legal)))

-- ---- sends and drops

same-small : (n m : ℕ) → n ≡ m → is_small m ≡ true → is_small n ≡ true
same-small n m e h = rw e h

fence-same : (f g : Option FenceNo) → is_same_fence f g ≡ true → fence_fits g ≡ true → fence_fits f ≡ true
fence-same None g h fits = refl
fence-same (Some f) None h fits = absurd (false≢true h)
fence-same (Some f) (Some g) h fits = let same : f.0 ≡ g.0 = grind (arith, nat_tests, h) in same-small f.0 g.0 same fits

target_prints : (script : Script) (past : List Entry) (t : Sent) (s : ℕ) → Valid script → IsLegal script past → list_all is_printable past ≡ true → takes_from_pool past t ≡ true → (t.stream.0 == s) ≡ true → is_byte s ≡ true → sent_fits t ≡ true
target_prints script past t s v legal printed h same byte =
    let first = and_parts (list_any (λ b. b == t.buffer.0) (buffers_of past t.stream.0)) (is_at (place t.buffer.0 past) Pool && is_same_fence t.fence (fence_of t.buffer.0 past)) h in
    let second = and_parts (is_at (place t.buffer.0 past) Pool) (is_same_fence t.fence (fence_of t.buffer.0 past)) first.1 in
    let buffer = buffer-small past t.stream.0 t.buffer.0 (made-all-low script past v legal) first.0 in
    let fence = fence-same t.fence (fence_of t.buffer.0 past) second.1 (fence-fits t.buffer.0 past printed) in
    let number : t.stream.0 ≡ s = grind (arith, nat_tests, same) in
    let stream : is_byte t.stream.0 ≡ true = rw number byte in
    rw (stream, buffer, fence) refl

targets_print : (script : Script) (past : List Entry) (targets : List Sent) (ss : List ℕ) → Valid script → IsLegal script past → list_all is_printable past ≡ true → are_streams targets ss ≡ true → list_all is_byte ss ≡ true → list_all (takes_from_pool past) targets ≡ true → list_all sent_fits targets ≡ true
targets_print script past [] ss v legal printed are bytes pool = refl
targets_print script past (t ∷ targets) [] v legal printed are bytes pool = absurd (false≢true are)
targets_print script past (t ∷ targets) (s ∷ ss) v legal printed are bytes pool =
    let a = and_parts (t.stream.0 == s) (are_streams targets ss) are in
    let b = and_parts (is_byte s) (list_all is_byte ss) bytes in
    let p = and_parts (takes_from_pool past t) (list_all (takes_from_pool past) targets) pool in
    and_from (sent_fits t) (list_all sent_fits targets) (target_prints script past t s v legal printed p.0 a.0 b.0) (targets_print script past targets ss v legal printed a.1 b.1 p.1)

next_prints : (script : Script) (past : List Entry) (o : Option Queued) (n : FrameNo) (r : RequestId) (i : ℕ) (same : Bool) (targets : Four Sent) → Valid script → IsLegal script past → list_all is_printable past ≡ true → next script past ≡ o → fits_next script past o n.0 r.0 i same targets ≡ true → is_printable (Send n r i same targets) ≡ true
next_prints script past None n r i same targets v legal printed at h = absurd (false≢true h)
next_prints script past (Some w) n r i same targets v legal printed at h =
    let g = goes script past w n.0 r.0 i same targets h in
    let name = next-small script past w v legal at in
    let number = same-small n.0 (next_number past) g.number (frame-small script (next_number past) v (frames_bounded script past legal)) in
    let request = same-small r.0 w.request.0 g.request name.0 in
    let index = same-small i w.index g.index name.1 in
    let bytes = all-filtered is_byte (λ s. list_any (λ t. t == s) (take w.item.targets.count w.item.targets.list)) (0 ∷ (1 ∷ (2 ∷ (3 ∷ [])))) refl in
    let sent = targets_print script past (four_list targets) (targets_in_order w.item) v legal printed g.streams bytes g.pool in
    rw (number, request, index, g.filled, sent) refl

send-prints : (script : Script) (past : List Entry) (n : FrameNo) (r : RequestId) (i : ℕ) (same : Bool) (targets : Four Sent) → Valid script → IsLegal script past → list_all is_printable past ≡ true → may_send script past n.0 r.0 i same targets ≡ true → is_printable (Send n r i same targets) ≡ true
send-prints script past n r i same targets v legal printed h = next_prints script past (next script past) n r i same targets v legal printed refl h

drop_prints : (script : Script) (past : List Entry) (o : Option WaitingItem) (stopping : Bool) (n : FrameNo) (r : RequestId) (i : ℕ) → Valid script → IsLegal script past → first_in (queued script past) ≡ o → (if stopping then drop_of past o else None) ≡ Some (Dropped n r i) → is_printable (Dropped n r i) ≡ true
drop_prints script past o false n r i v legal first h = absurd (cc)
drop_prints script past None true n r i v legal first h = absurd (cc)
drop_prints script past (Some w) true n r i v legal first h =
    let number : record { 0 = next_number past } ≡ n = cc in
    let request : w.request ≡ r = cc in
    let index : w.index ≡ i = cc in
    let name = queued-small script past w v legal first in
    let name' = and_parts (is_small w.request.0) (is_small w.index) name in
    let few = frame-small script (next_number past) v (frames_bounded script past legal) in
    rw (← number, ← request, ← index, few, name'.0, name'.1) refl

-- ---- shutters and parts

shutter-prints : (script : Script) (past : List Entry) (n : FrameNo) (time : ℕ) → Valid script → IsLegal script past → list_all is_printable past ≡ true → shutter_due script past ≡ Some (Shutter n time) → is_printable (Shutter n time) ≡ true
shutter-prints script past n time v legal printed h =
    let is = shutter-is script past n time h in
    let number = all-found is_small (may_expose script past) (frames past) n.0 (frames-small past printed) is.0 in
    let early = next-time-bounded script past legal in
    let fits = more_time time (time-fits script time v (omega (arith, is.1, early))) in
    rw (number, fits) refl

time_found : (bound n : ℕ) (past : List Entry) (time : ℕ) → list_all (is_until bound) past ≡ true → list_all is_printable past ≡ true → shutter_time n past ≡ Some time → (time ≤ bound) × (is_small n ≡ true)
time_found bound n [] time times printed h = absurd (cc)
time_found bound n (Shutter m t ∷ past) time times printed h =
    let early = and_parts (nat_le t bound) (list_all (is_until bound) past) times in
    let line = and_parts (is_printable (Shutter m t)) (list_all is_printable past) printed in
    elim (cases_Bool (m.0 == n)) [
      | inl own ↦ (
          let h' = rw own at h in
          let same : t ≡ time = cc in
          let number : m.0 ≡ n = grind (arith, nat_tests, own) in
          let fits = (and_parts (is_small m.0) (nat_lt t (2 ^ 64)) line.0).0 in
          (rw (← same) (at-most t bound early.0), rw (← number) fits)
          )
      | inr other ↦ (let h' = rw other at h in time_found bound n past time early.1 line.1 h')
    ]
time_found bound n (e ∷ past) time times printed h =
    time_found bound n past time (and_parts (is_until bound e) (list_all (is_until bound) past) times).1 (and_parts (is_printable e) (list_all is_printable past) printed).1 h

part-fits : (k : ℕ) (s : Settings) (time : ℕ) → 0 < k → k ≤ 3 → is_moderate s ≡ true → nat_lt time (2 ^ 63) ≡ true → part_fits k (part_at k s time) ≡ true
part-fits zero s time some few range l = absurd (omega (arith, some))
part-fits (suc zero) s time some few range l = grind (arith, nat_tests)
part-fits (suc (suc zero)) s time some few range l = grind (arith, nat_tests)
part-fits (suc (suc (suc zero))) s time some few range l = grind (arith, nat_tests)
part-fits (suc (suc (suc (suc k)))) s time some few range l = absurd (omega (arith, few))

part_is : (b : Bool) (m n : FrameNo) (j k : ℕ) (p q : PartialResult) → (if b then Some (Partial m j p) else None) ≡ Some (Partial n k q) → (j ≡ k) × (p ≡ q)
part_is true m n j k p q h = (cc, cc)
part_is false m n j k p q h = absurd (cc)

part_prints : (script : Script) (past : List Entry) (n : FrameNo) (j k : ℕ) (part : PartialResult) (o : Option ℕ) → Valid script → IsLegal script past → list_all is_printable past ≡ true → 0 < k → k ≤ 3 → shutter_time n.0 past ≡ o → partial_of script past n.0 j o ≡ Some (Partial n k part) → is_printable (Partial n k part) ≡ true
part_prints script past n j k part None v legal printed some few at h = absurd (cc)
part_prints script past n j k part (Some time) v legal printed some few at h =
    let is = part_is (may_have_partial script past n.0 j) (record { 0 = n.0 }) n j k (part_at j (settings_of script past n.0) time) part h in
    let found = time_found (time_bound script) n.0 past time (times_bounded script past legal) printed at in
    let fits = part-fits k (settings_of script past n.0) time some few (frame-moderate script past n.0 legal) (time-fits script time v found.0) in
    let own : part_fits k part ≡ true = rw (← is.1, is.0) fits in
    rw (found.1, own) refl

partial-prints : (script : Script) (past : List Entry) (n : FrameNo) (k : ℕ) (part : PartialResult) → Valid script → IsLegal script past → list_all is_printable past ≡ true → partial_due script past n.0 ≡ Some (Partial n k part) → is_printable (Partial n k part) ≡ true
partial-prints script past n k part v legal printed h =
    let shape = parts-shape script past n k part h in
    part_prints script past n (partial_count n.0 past + 1) k part (shutter_time n.0 past) v legal printed shape.0 shape.1 refl h

-- ---- digests

byte-fits : (k n : ℕ) → is_byte (byte_at k n) ≡ true
byte-fits zero n = let l : n % 256 < 256 = omega arith in grind (arith, nat_tests)
byte-fits (suc k) n = below (n / 256 ^ suc k)
  where
    below : (m : ℕ) → is_byte (m % 256) ≡ true
    below m = let l : m % 256 < 256 = omega arith in grind (arith, nat_tests)

bytes-fit : (k n : ℕ) → list_all is_byte (bytes_high_first k n) ≡ true
bytes-fit zero n = refl
bytes-fit (suc k) n = and_from _ _ (byte-fits k n) (bytes-fit k n)

length-bytes : (k n : ℕ) → length (bytes_high_first k n) ≡ k
length-bytes zero n = refl
length-bytes (suc k) n = ap suc (length-bytes k n)

digest-bytes-fit : (h : List ℕ) (k : ℕ) → list_all is_byte (digest_bytes h k) ≡ true
unfolding digest_bytes
digest-bytes-fit h zero = refl
digest-bytes-fit h (suc k) = rw list_all-append (and_from _ _ (digest-bytes-fit h k) (bytes-fit 4 (slice_index h k)))

digest-bytes-length : (h : List ℕ) (k : ℕ) → length (digest_bytes h k) ≡ k * 4
unfolding digest_bytes
digest-bytes-length h zero = refl
digest-bytes-length h (suc k) = let ih = digest-bytes-length h k in rw (length-append, length-bytes 4 (slice_index h k), ih) (omega arith)

sha-fits : (m : List ℕ) → is_digest (sha256 m) ≡ true
unfolding sha256
sha-fits m = rw (digest-bytes-length (final_hash initial_hash_256 m) 8, digest-bytes-fit (final_hash initial_hash_256 m) 8) refl

pub digest-fits : (spec : StreamSpec) (s : Settings) (n : ℕ) → is_digest (digest spec s n) ≡ true
unfolding digest
digest-fits spec s n = sha-fits (picture spec s n)

digest-on-fits : (o : Option StreamSpec) (s : Settings) (n : ℕ) → is_some o ≡ true → is_digest (digest_on o s n) ≡ true
digest-on-fits None s n h = absurd (false≢true h)
digest-on-fits (Some spec) s n h = digest-fits spec s n

-- ---- filled and failed buffers

-- the frame, the stream and the buffer of one that comes back filled or early
delivered-fits : (script : Script) (past : List Entry) (n s b : ℕ) (t : Sent) → list_all is_printable past ≡ true → target_of n s past ≡ Some t → may_deliver script past n s t ≡ true → t.buffer.0 ≡ b → (is_small n ≡ true) × (is_byte s ≡ true) × (is_small b ≡ true)
delivered-fits script past n s b t printed found may same =
    let fits = target-fits n s past t printed found in
    let own = (and_parts (is_small t.buffer.0) (fence_fits t.fence) (and_parts (is_byte t.stream.0) (is_small t.buffer.0 && fence_fits t.fence) fits.0).1).0 in
    (exposed-small n past printed (delivers script past n s t may).shutter, fits.1, rw same at own)

filled-prints : (script : Script) (past : List Entry) (n : FrameNo) (s : StreamIx) (b : BufferId) (f : Option FenceNo) (d : List ℕ) → IsLegal script past → list_all is_printable past ≡ true → filled_due script past n.0 s.0 ≡ Some (Filled n s b f d) → is_printable (Filled n s b f d) ≡ true
filled-prints script past n s b f d legal printed h =
    let is = filled-is script past n s b f d h in
    let t : Sent = is.0 in
    let fits = delivered-fits script past n.0 s.0 b.0 t printed is.1 is.2 (ap (λ (z : BufferId). z.0) is.3) in
    let there = stream-there script past n.0 s.0 t.buffer.0 legal (delivers script past n.0 s.0 t is.2).out in
    let digest' : is_digest (digest_of script past n.0 s.0) ≡ true = digest-on-fits (slice_get (streams script past) s.0) (settings_of script past n.0) n.0 there in
    filled_line n s b f d (digest_of script past n.0 s.0) fits.0 fits.1 fits.2 is.4 is.5 digest'
  where
    filled_line : (n : FrameNo) (s : StreamIx) (b : BufferId) (f : Option FenceNo) (d e : List ℕ) → is_small n.0 ≡ true → is_byte s.0 ≡ true → is_small b.0 ≡ true → f ≡ None → d ≡ e → is_digest e ≡ true → is_printable (Filled n s b f d) ≡ true
    filled_line n s b f d e one two three none same fits = rw (one, two, three, none, same, fits) refl

early-prints : (script : Script) (past : List Entry) (n : FrameNo) (s : StreamIx) (b : BufferId) (d : DeviceFenceNo) → Valid script → IsLegal script past → list_all is_printable past ≡ true → early_due script past n.0 s.0 ≡ Some (Early n s b d) → is_printable (Early n s b d) ≡ true
early-prints script past n s b d v legal printed h =
    let is = early-is script past n s b d h in
    let t : Sent = is.0 in
    let fits = delivered-fits script past n.0 s.0 b.0 t printed is.1 is.2 (ap (λ (z : BufferId). z.0) is.3) in
    let fence = same-small d.0 (next_early past) is.4 (fence-small script (next_early past) v (earlies_bounded script past legal)) in
    early_line n s b d fits.0 fits.1 fits.2 fence
  where
    early_line : (n : FrameNo) (s : StreamIx) (b : BufferId) (d : DeviceFenceNo) → is_small n.0 ≡ true → is_byte s.0 ≡ true → is_small b.0 ≡ true → is_small d.0 ≡ true → is_printable (Early n s b d) ≡ true
    early_line n s b d one two three four = rw (one, two, three, four) refl

late-prints : (script : Script) (past : List Entry) (d : DeviceFenceNo) (x : List ℕ) → IsLegal script past → list_all is_printable past ≡ true → late_due script past d.0 ≡ Some (Late d x) → is_printable (Late d x) ≡ true
late-prints script past d x legal printed h =
    let is = late-is script past d x h in
    let n : FrameNo = is.0 in
    let s : StreamIx = is.1 in
    let b : BufferId = is.2 in
    let f : DeviceFenceNo = is.3 in
    let found : find (is_early_with d.0) past ≡ Some (Early n s b f) = is.4 in
    let p = pending script past d.0 n s b f legal found is.5 in
    let there = own-stream script past s.0 b.0 legal (p.own) in
    let digest' : is_digest (digest_of script past n.0 s.0) ≡ true = digest-on-fits (slice_get (streams script past) s.0) (settings_of script past n.0) n.0 there in
    let fits = all-found is_printable (is_early_with d.0) past (Early n s b f) printed found in
    let own : is_small f.0 ≡ true = (and_parts (is_small n.0 && (is_byte s.0 && is_small b.0)) (is_small f.0) fits).1 in
    let fence = small-same f.0 d.0 own (found-passes (is_early_with d.0) past (Early n s b f) found) in
    late_line d x (digest_of script past n.0 s.0) fence is.6 digest'
  where
    late_line : (d : DeviceFenceNo) (x e : List ℕ) → is_small d.0 ≡ true → x ≡ e → is_digest e ≡ true → is_printable (Late d x) ≡ true
    late_line d x e one same fits = rw (one, same, fits) refl

left-fits : (fence : Option FenceNo) (past : List Entry) → fence_fits fence ≡ true → fence_fits (fence_left fence past) ≡ true
left-fits fence past h =
    elim (cases_Bool (is_passed fence past)) [
      | inl passed ↦ rw passed refl
      | inr no' ↦ rw no' h
    ]

found_small : (n s : ℕ) (past : List Entry) (t : Sent) → list_all is_printable past ≡ true → target_of n s past ≡ Some t → is_small n ≡ true
found_small n s past t printed h = target-small n s past printed (found-any (λ u. u.stream.0 == s) (targets_of n past) t h)
  where
    found-any : {X : Type 0} (p : X → Bool) (xs : List X) (x : X) → find p xs ≡ Some x → list_any p xs ≡ true
    found-any p [] x h = absurd (cc)
    found-any p (y ∷ xs) x h =
        elim (cases_Bool (p y)) [
          | inl here ↦ rw here refl
          | inr no' ↦ (let h' = rw no' at h in rw no' (found-any p xs x h'))
        ]

failed-prints : (past : List Entry) (n : FrameNo) (s : StreamIx) (b : BufferId) (f : Option FenceNo) → list_all is_printable past ≡ true → failed_due past n.0 s.0 ≡ Some (Failed n s b f) → is_printable (Failed n s b f) ≡ true
failed-prints past n s b f printed h =
    let is = failed-is past n s b f h in
    let t : Sent = is.0 in
    let fits = target-fits n.0 s.0 past t printed is.1 in
    let parts = and_parts (is_small t.buffer.0) (fence_fits t.fence) (and_parts (is_byte t.stream.0) (is_small t.buffer.0 && fence_fits t.fence) fits.0).1 in
    let buffer : is_small b.0 ≡ true = rw (is.2) at parts.0 in
    let number = found_small n.0 s.0 past t printed is.1 in
    failed_line n s b f (fence_left t.fence past) number fits.1 buffer is.3 (left-fits t.fence past parts.1)
  where
    failed_line : (n : FrameNo) (s : StreamIx) (b : BufferId) (f g : Option FenceNo) → is_small n.0 ≡ true → is_byte s.0 ≡ true → is_small b.0 ≡ true → f ≡ g → fence_fits g ≡ true → is_printable (Failed n s b f) ≡ true
    failed_line n s b f g one two three same fits = rw (one, two, three, same, fits) refl

-- ---- errors

request-prints : (script : Script) (past : List Entry) (n : FrameNo) → list_all is_printable past ≡ true → error_request_due script past n.0 ≡ Some (ErrorRequest n) → is_printable (ErrorRequest n) ≡ true
request-prints script past n printed h =
    let may = passed-where (may_fail_request script past n.0) (ErrorRequest (record { 0 = n.0 })) (ErrorRequest n) h in
    let first = and_parts (is_open n.0 past && not (has_something n.0 past)) ((request_fault script n.0 && has_shutter n.0 past) || is_stopped n.0 past) may in
    let open' = and_parts (is_open n.0 past) (not (has_something n.0 past)) first.0 in
    let sent = and_parts (is_sent n.0 past) (not (is_metadata_ended n.0 past && all_settled n.0 past)) open'.0 in
    sent-small n.0 past printed sent.0

result-prints : (script : Script) (past : List Entry) (n : FrameNo) → list_all is_printable past ≡ true → error_result_due script past n.0 ≡ Some (ErrorResult n) → is_printable (ErrorResult n) ≡ true
result-prints script past n printed h =
    let may = passed-where (may_fail_result script past n.0) (ErrorResult (record { 0 = n.0 })) (ErrorResult n) h in
    let first = and_parts (may_fail_in_part script past n.0 && not (is_metadata_ended n.0 past)) (each_earlier n.0 (λ m. is_metadata_ended m past) past && (result_fault script n.0 || is_cut_short past n.0)) may in
    let part = and_parts (may_fail_in_part script past n.0) (not (is_metadata_ended n.0 past)) first.0 in
    let shutter = and_parts (has_shutter n.0 past) (not (request_fault script n.0) || is_stopped n.0 past) part.0 in
    exposed-small n.0 past printed shutter.0

buffer-prints : (script : Script) (past : List Entry) (n : FrameNo) (s : StreamIx) → list_all is_printable past ≡ true → error_buffer_due script past n.0 s.0 ≡ Some (ErrorBuffer n s) → is_printable (ErrorBuffer n s) ≡ true
buffer-prints script past n s printed h =
    let may = passed-where (may_fail_buffer script past n.0 s.0) (ErrorBuffer (record { 0 = n.0 }) (record { 0 = s.0 })) (ErrorBuffer n s) h in
    let first = and_parts (has_target n.0 s.0 past && (may_fail_in_part script past n.0 && not (has_error_request n.0 past))) ((not (has_error_buffer n.0 s.0 past) && not (is_returned n.0 s.0 past)) && (buffer_fault script n.0 s.0 || is_cut_short past n.0)) may in
    let target = and_parts (has_target n.0 s.0 past) (may_fail_in_part script past n.0 && not (has_error_request n.0 past)) first.0 in
    and_from (is_small n.0) (is_byte s.0) (target-small n.0 s.0 past printed target.0) (stream-byte n.0 s.0 past printed target.0)

-- ---- releases and signals

release-prints : (script : Script) (past : List Entry) (b : BufferId) (f : FenceNo) → Valid script → IsLegal script past → list_all is_printable past ≡ true → release_due past b.0 ≡ Some (Release b f) → is_printable (Release b f) ≡ true
release-prints script past b f v legal printed h =
    let is = release-is past b f h in
    let fence = same-small f.0 (next_fence past) is.1 (fence-small script (next_fence past) v (fences_bounded script past legal)) in
    and_from (is_small b.0) (is_small f.0) (client-small b.0 past printed is.0) fence

signal-prints : (script : Script) (past : List Entry) (f : FenceNo) → Valid script → IsLegal script past → signal_due past f.0 ≡ Some (Signal f) → is_printable (Signal f) ≡ true
signal-prints script past f v legal h =
    let less = signal-is past f h in
    let few = fences_bounded script past legal in
    fence-small script f.0 v (omega (arith, less, few))

-- ---- all entries

entry-prints : (script : Script) (past : List Entry) (e : Entry) → Valid script → is_typed script ≡ true → IsLegal script past → list_all is_printable past ≡ true → IsAllowed script past e → is_printable e ≡ true
entry-prints script past (Begin word) v typed legal printed may = begins-waiting past (next_command script past) word may
entry-prints script past (Call i w r) v typed legal printed may = call-prints script past i w r v typed legal may
entry-prints script past (Send n r i same targets) v typed legal printed may = send-prints script past n r i same targets v legal printed may
entry-prints script past (Dropped n r i) v typed legal printed may = drop_prints script past (first_in (queued script past)) (is_stopping past) n r i v legal refl may
entry-prints script past (Shutter n time) v typed legal printed may = shutter-prints script past n time v legal printed may
entry-prints script past (Partial n k part) v typed legal printed may = partial-prints script past n k part v legal printed may
entry-prints script past (Filled n s b f d) v typed legal printed may = filled-prints script past n s b f d legal printed may
entry-prints script past (Failed n s b f) v typed legal printed may = failed-prints past n s b f printed may
entry-prints script past (ErrorRequest n) v typed legal printed may = request-prints script past n printed may
entry-prints script past (ErrorResult n) v typed legal printed may = result-prints script past n printed may
entry-prints script past (ErrorBuffer n s) v typed legal printed may = buffer-prints script past n s printed may
entry-prints script past ErrorDevice v typed legal printed may = refl
entry-prints script past (Release b f) v typed legal printed may = release-prints script past b f v legal printed may
entry-prints script past (Signal f) v typed legal printed may = signal-prints script past f v legal may
entry-prints script past (Early n s b d) v typed legal printed may = early-prints script past n s b d v legal printed may
entry-prints script past (Late d x) v typed legal printed may = late-prints script past d x legal printed may

all_print : (script : Script) (past : List Entry) → Valid script → is_typed script ≡ true → IsLegal script past → list_all is_printable past ≡ true
all_print script [] v typed legal = refl
all_print script (e ∷ past) v typed legal =
    let ih = all_print script past v typed legal.1 in
    and_from (is_printable e) (list_all is_printable past) (entry-prints script past e v typed legal.1 ih legal.0) ih

pub prints_all : (script : Script) (past : List Entry) → is_typed script ≡ true → is_valid script ≡ true → IsLegal script past → list_all is_printable past ≡ true
prints_all script past typed fits legal = all_print script past (valid script fits) typed legal
