-- Of each entry that is allowed after a legal trace the list tells.
use Rattle.std.proofs.Common.{◌≡◌, ◌∙◌, ◌<◌, ℕ, ◌==◌, Bool, true, false, ◌&&◌, not, List, Option, Some, None, refl, sym, ap, arith, inl, find, nat_lt, if◌then◌else◌}
use Rattle.std.specs.Prelude.{IsSome}
use Rattle.std.specs.List.{list_all, range_with_len, flat_map}
use Rattle.std.proofs.lemmas.Bool.{and_parts, eq-eqb, eqb-true, false≢true}
use Rattle.std.proofs.lemmas.Bool.Decides.{nat_tests}
use Rattle.basic_lemmas.proofs.Lists.{found-any}
use Rattle.cam_types.specs.Four.{four_list}
use Rattle.cam_types.specs.declared.four.Four.{Four}
use Rattle.cam_types.specs.declared.number.DeviceFenceNo.{DeviceFenceNo}
use Rattle.cam_types.specs.declared.number.FrameNo.{FrameNo}
use Rattle.cam_types.specs.declared.number.RequestId.{RequestId}
use Rattle.cam_types.specs.declared.request.Queued.{Queued}
use Rattle.cam_types.specs.declared.script.Script.{Script}
use Rattle.trace_model.specs.declared.entry.Entry.{Entry}
use Rattle.trace_model.specs.declared.entry.Entry.TheVariants.{Begin, Call, Send, Dropped, Shutter, Partial, Filled, Failed, ErrorRequest, ErrorResult, ErrorBuffer, ErrorDevice, Release, Signal, Early, Late}
use Rattle.trace_model.specs.declared.entry.Sent.{Sent}
use Rattle.trace_model.specs.Allowed.{IsAllowed}
use Rattle.trace_model.specs.Client.{begin_due, call_due}
use Rattle.trace_model.specs.Configuration.{buffers_of}
use Rattle.trace_model.specs.Drop.{drop_due}
use Rattle.trace_model.specs.Entry.{is_shutter}
use Rattle.trace_model.specs.Errors.{error_buffer_due, error_device_due, error_request_due, error_result_due, failed_due, failed_of, may_fail_buffer, may_fail_in_part}
use Rattle.trace_model.specs.Fence.{early_fence_of, is_signalled, is_there}
use Rattle.trace_model.specs.Filled.{early_due, early_of, filled_due, filled_of, late_due}
use Rattle.trace_model.specs.Frames.{frames, has_error_request, has_target, target_of, targets_of}
use Rattle.trace_model.specs.Legal.{IsLegal}
use Rattle.trace_model.specs.Numbers.{next_early, next_fence, next_number}
use Rattle.trace_model.specs.Open.{is_open}
use Rattle.trace_model.specs.Partial.{partial_due}
use Rattle.trace_model.specs.Place.{Client, is_at, place}
use Rattle.trace_model.specs.Printable.{is_filled}
use Rattle.trace_model.specs.Queue.{next}
use Rattle.trace_model.specs.Release.{release_due, signal_due}
use Rattle.trace_model.specs.Send.{are_streams, fits_next, is_same_bool, least_targets, mark_of, may_go, may_send, send_due, send_next, send_with, takes_from_pool, targets_in_order}
use Rattle.trace_model.specs.Shutter.{may_expose, next_time, shutter_at, shutter_due}
use Rattle.trace_laws.proofs.Settled.{late-low}
use Rattle.state_facts.proofs.Own.{out-own}
use Rattle.trace_laws.proofs.Due.{allowed_due}
use Rattle.state_facts.proofs.StateFrames.{early_is, error_buffer_is, error_request_is, error_result_is, failed_is, filled_is, partial_is}
use Rattle.allowed_entries.specs.declared.entry.AllowedEntry.TheVariants as known
use Rattle.allowed_entries.specs.Entries.{allowed_entries, by_streams, of_ends, of_frame, of_frames, of_lates, of_next, of_releases, of_signals, open_frames}
use Rattle.allowed_entries.specs.Known.{shown, shown_where}
use Rattle.allowed_entries.specs.Told.{TellsOf}
use Rattle.allowed_entries.proofs.Lists.{behind, in-first, in-front, of-due, of-due-where, of-one, of-stream}
use Rattle.allowed_entries.proofs.Opens.{among-open, exposed-open, open-of}
use Rattle.allowed_entries.proofs.Streams.{buffer-stream, stream-low}
use Rattle.trace_laws.proofs.FenceLemmas.{at_client}

-- ---- the parts of the list

in-frame : (script : Script) (past : List Entry) (n : ℕ) (e : Entry) → is_open n past ≡ true → TellsOf e (of_frame script past n) → TellsOf e (allowed_entries script past)
unfolding allowed_entries of_frames
in-frame script past n e opened h =
    in-front e _ _ (of-one e (of_frame script past) (open_frames past) n (among-open n past opened) h)

in-next : (script : Script) (past : List Entry) (e : Entry) → TellsOf e (of_next script past) → TellsOf e (allowed_entries script past)
unfolding allowed_entries
in-next script past e h = behind e (of_frames script past) _ (in-front e _ _ h)

in-ends : (script : Script) (past : List Entry) (e : Entry) → TellsOf e (of_ends script past) → TellsOf e (allowed_entries script past)
unfolding allowed_entries
in-ends script past e h = behind e (of_frames script past) _ (behind e (of_next script past) _ (in-front e _ _ h))

in-releases : (script : Script) (past : List Entry) (e : Entry) → TellsOf e (of_releases past) → TellsOf e (allowed_entries script past)
unfolding allowed_entries
in-releases script past e h =
    behind e (of_frames script past) _ (behind e (of_next script past) _ (behind e (of_ends script past) _ (in-front e _ _ h)))

in-signals : (script : Script) (past : List Entry) (e : Entry) → TellsOf e (of_signals past) → TellsOf e (allowed_entries script past)
unfolding allowed_entries
in-signals script past e h =
    behind e (of_frames script past) _
    (behind e (of_next script past) _ (behind e (of_ends script past) _ (behind e (of_releases past) _ (in-front e _ _ h))))

in-lates : (script : Script) (past : List Entry) (e : Entry) → TellsOf e (of_lates script past) → TellsOf e (allowed_entries script past)
unfolding allowed_entries
in-lates script past e h =
    behind e (of_frames script past) _
    (behind e (of_next script past) _
    (behind e (of_ends script past) _ (behind e (of_releases past) _ (behind e (of_signals past) _ h))))

-- ---- entries of a frame

shutter-frame : (script : Script) (past : List Entry) (o : Option ℕ) (n : FrameNo) (time : ℕ) → shutter_at script past o ≡ Some (Shutter n time) → o ≡ Some n.0
shutter-frame script past None n time h = absurd (cc)
shutter-frame script past (Some m) n time h =
    let same : Shutter (record { 0 = m }) (next_time script past) ≡ Shutter n time = cc in ap Some (frame-in (ap frame-of same))
  where
    frame-of : Entry → Option ℕ
    frame-of (Shutter k t) = Some k.0
    frame-of _ = None

    frame-in : {a b : ℕ} → Some a ≡ Some b → a ≡ b
    frame-in h = cc

of-shutter : (script : Script) (past : List Entry) (n : FrameNo) (time : ℕ) → IsLegal script past → shutter_due script past ≡ Some (Shutter n time) → TellsOf (Shutter n time) (allowed_entries script past)
unfolding of_frame
of-shutter script past n time legal due =
    let found = shutter-frame script past (find (may_expose script past) (frames past)) n time due in
    in-frame script past n.0 (Shutter n time) (exposed-open script past n.0 legal found)
    (in-front (Shutter n time) _ _ (of-due-where (is_shutter n.0) (Shutter n time) (shutter_due script past) (eq-eqb n.0 n.0 refl) due))

of-partial : (script : Script) (past : List Entry) (n : ℕ) (e : Entry) → IsLegal script past → partial_due script past n ≡ Some e → TellsOf e (allowed_entries script past)
unfolding of_frame
of-partial script past n e legal due =
    let opened = open-of script past n _ e legal (sym (partial_is script past n legal) ∙ due) in
    in-frame script past n e opened (behind e (shown_where (is_shutter n) (shutter_due script past)) _ (in-front e _ _ (of-due e _ due)))

-- the streams of a target that is there
target-low : (script : Script) (past : List Entry) (n s : ℕ) (t : Sent) → IsLegal script past → target_of n s past ≡ Some t → s < 4
target-low script past n s t legal at =
    stream-low script past n s legal (found-any (λ t. t.stream.0 == s) (targets_of n past) t at)

filled-low : (script : Script) (past : List Entry) (n s : ℕ) (o : Option Sent) (e : Entry) → IsLegal script past → target_of n s past ≡ o → filled_of script past n s o ≡ Some e → s < 4
filled-low script past n s None e legal at due = absurd (cc)
filled-low script past n s (Some t) e legal at due = target-low script past n s t legal at

early-low : (script : Script) (past : List Entry) (n s : ℕ) (o : Option Sent) (e : Entry) → IsLegal script past → target_of n s past ≡ o → early_of script past n s o ≡ Some e → s < 4
early-low script past n s None e legal at due = absurd (cc)
early-low script past n s (Some t) e legal at due = target-low script past n s t legal at

failed-low : (script : Script) (past : List Entry) (n s : ℕ) (o : Option Sent) (e : Entry) → IsLegal script past → target_of n s past ≡ o → failed_of past n s o ≡ Some e → s < 4
failed-low script past n s None e legal at due = absurd (cc)
failed-low script past n s (Some t) e legal at due = target-low script past n s t legal at

if-true : (b : Bool) (x e : Entry) → (if b then Some x else None) ≡ Some e → b ≡ true
if-true true x e h = refl
if-true false x e h = absurd (cc)

error-low : (script : Script) (past : List Entry) (n s : ℕ) (e : Entry) → IsLegal script past → error_buffer_due script past n s ≡ Some e → s < 4
error-low script past n s e legal due =
    let may = if-true (may_fail_buffer script past n s) _ e due in
    let target = has_target n s past in
    let in-part = may_fail_in_part script past n && not (has_error_request n past) in
    let front = (and_parts (target && in-part) _ may).0 in
    stream-low script past n s legal (and_parts target in-part front).0

of-filled : (script : Script) (past : List Entry) (n s : ℕ) (e : Entry) → IsLegal script past → filled_due script past n s ≡ Some e → TellsOf e (allowed_entries script past)
unfolding of_frame
of-filled script past n s e legal due =
    let opened = open-of script past n _ e legal (sym (filled_is script past n s legal) ∙ due) in
    let low = filled-low script past n s (target_of n s past) e legal refl due in
    in-frame script past n e opened
    (behind e (shown_where (is_shutter n) (shutter_due script past)) _
    (behind e (shown (partial_due script past n)) _
    (in-front e _ _ (of-stream e (λ u. shown (filled_due script past n u)) s low (of-due e _ due)))))

of-early : (script : Script) (past : List Entry) (n s : ℕ) (e : Entry) → IsLegal script past → early_due script past n s ≡ Some e → TellsOf e (allowed_entries script past)
unfolding of_frame
of-early script past n s e legal due =
    let opened = open-of script past n _ e legal (sym (early_is script past n s legal) ∙ due) in
    let low = early-low script past n s (target_of n s past) e legal refl due in
    in-frame script past n e opened
    (behind e (shown_where (is_shutter n) (shutter_due script past)) _
    (behind e (shown (partial_due script past n)) _
    (behind e (by_streams (λ u. shown (filled_due script past n u))) _
    (in-front e _ _ (of-stream e (λ u. shown (early_due script past n u)) s low (of-due e _ due))))))

of-request : (script : Script) (past : List Entry) (n : ℕ) (e : Entry) → IsLegal script past → error_request_due script past n ≡ Some e → TellsOf e (allowed_entries script past)
unfolding of_frame
of-request script past n e legal due =
    let opened = open-of script past n _ e legal (sym (error_request_is script past n legal) ∙ due) in
    in-frame script past n e opened
    (behind e (shown_where (is_shutter n) (shutter_due script past)) _
    (behind e (shown (partial_due script past n)) _
    (behind e (by_streams (λ u. shown (filled_due script past n u))) _
    (behind e (by_streams (λ u. shown (early_due script past n u))) _ (in-front e _ _ (of-due e _ due))))))

of-result : (script : Script) (past : List Entry) (n : ℕ) (e : Entry) → IsLegal script past → error_result_due script past n ≡ Some e → TellsOf e (allowed_entries script past)
unfolding of_frame
of-result script past n e legal due =
    let opened = open-of script past n _ e legal (sym (error_result_is script past n legal) ∙ due) in
    in-frame script past n e opened
    (behind e (shown_where (is_shutter n) (shutter_due script past)) _
    (behind e (shown (partial_due script past n)) _
    (behind e (by_streams (λ u. shown (filled_due script past n u))) _
    (behind e (by_streams (λ u. shown (early_due script past n u))) _
    (behind e (shown (error_request_due script past n)) _ (in-front e _ _ (of-due e _ due)))))))

of-error : (script : Script) (past : List Entry) (n s : ℕ) (e : Entry) → IsLegal script past → error_buffer_due script past n s ≡ Some e → TellsOf e (allowed_entries script past)
unfolding of_frame
of-error script past n s e legal due =
    let opened = open-of script past n _ e legal (sym (error_buffer_is script past n s legal) ∙ due) in
    in-frame script past n e opened
    (behind e (shown_where (is_shutter n) (shutter_due script past)) _
    (behind e (shown (partial_due script past n)) _
    (behind e (by_streams (λ u. shown (filled_due script past n u))) _
    (behind e (by_streams (λ u. shown (early_due script past n u))) _
    (behind e (shown (error_request_due script past n)) _
    (behind e (shown (error_result_due script past n)) _
    (in-front e _ _ (of-stream e (λ u. shown (error_buffer_due script past n u)) s (error-low script past n s e legal due) (of-due e _ due)))))))))

of-failed : (script : Script) (past : List Entry) (n s : ℕ) (e : Entry) → IsLegal script past → failed_due past n s ≡ Some e → TellsOf e (allowed_entries script past)
unfolding of_frame
of-failed script past n s e legal due =
    let opened = open-of script past n _ e legal (sym (failed_is script past n s legal) ∙ due) in
    let low = failed-low script past n s (target_of n s past) e legal refl due in
    in-frame script past n e opened
    (behind e (shown_where (is_shutter n) (shutter_due script past)) _
    (behind e (shown (partial_due script past n)) _
    (behind e (by_streams (λ u. shown (filled_due script past n u))) _
    (behind e (by_streams (λ u. shown (early_due script past n u))) _
    (behind e (shown (error_request_due script past n)) _
    (behind e (shown (error_result_due script past n)) _
    (behind e (by_streams (λ u. shown (error_buffer_due script past n u))) _
    (of-stream e (λ u. shown (failed_due past n u)) s low (of-due e _ due)))))))))

-- ---- a send: the one that is due has the same number, item and mark

same-marks : (a b : Bool) → is_same_bool a b ≡ true → a ≡ b
same-marks true true h = refl
same-marks true false h = absurd (false≢true h)
same-marks false true h = absurd (false≢true h)
same-marks false false h = refl

told-send : (script : Script) (past : List Entry) (q : Queued) (o : Option (List Sent)) (n : FrameNo) (r : RequestId) (i : ℕ) (same : Bool) (targets : Four Sent) → n.0 ≡ next_number past → r.0 ≡ q.request.0 → i ≡ q.index → same ≡ mark_of script past q.item.settings → IsSome (send_with script past q o) → TellsOf (Send n r i same targets) (shown (send_with script past q o))
told-send script past q None n r i same targets number request item mark some = absurd (false≢true some)
told-send script past q (Some ts) n r i same targets number request item mark some =
    inl
    (ap (λ k. known.Send (record { 0 = k }) r i same) number
    ∙ (ap (λ k. known.Send (record { 0 = next_number past }) (record { 0 = k }) i same) request
    ∙ (ap (λ k. known.Send (record { 0 = next_number past }) q.request k same) item
    ∙ ap (λ k. known.Send (record { 0 = next_number past }) q.request q.index k) mark)))

of-next-send : (script : Script) (past : List Entry) (o : Option Queued) (n : FrameNo) (r : RequestId) (i : ℕ) (same : Bool) (targets : Four Sent) → fits_next script past o n.0 r.0 i same targets ≡ true → IsSome (send_next script past o) → TellsOf (Send n r i same targets) (shown (send_next script past o))
of-next-send script past None n r i same targets fits some = absurd (false≢true fits)
of-next-send script past (Some q) n r i same targets fits some =
    let streams = are_streams (four_list targets) (targets_in_order q.item) in
    let taken = is_filled targets && list_all (takes_from_pool past) (four_list targets) in
    let marked = is_same_bool same (mark_of script past q.item.settings) in
    let item = (r.0 == q.request.0) && (i == q.index) in
    let named = (n.0 == next_number past) && item in
    let parts = and_parts named (may_go script past q && ((streams && taken) && marked)) fits in
    let names = and_parts (n.0 == next_number past) item parts.0 in
    let items = and_parts (r.0 == q.request.0) (i == q.index) names.1 in
    let goes = and_parts (may_go script past q) ((streams && taken) && marked) parts.1 in
    let mark = (and_parts (streams && taken) marked goes.1).1 in
    let due = least_targets past (targets_in_order q.item) in
    let some' : IsSome (send_with script past q due) = rw goes.0 at some in
    rw goes.0
    (told-send script past q due n r i same targets (eqb-true n.0 (next_number past) names.0) (eqb-true r.0 q.request.0 items.0) (eqb-true i q.index items.1) (same-marks same (mark_of script past q.item.settings) mark) some')

of-send : (script : Script) (past : List Entry) (n : FrameNo) (r : RequestId) (i : ℕ) (same : Bool) (targets : Four Sent) → may_send script past n.0 r.0 i same targets ≡ true → TellsOf (Send n r i same targets) (allowed_entries script past)
unfolding of_next
of-send script past n r i same targets may =
    in-next script past (Send n r i same targets)
    (in-front (Send n r i same targets) _ _ (of-next-send script past (next script past) n r i same targets may (allowed_due script past n r i same targets may)))

-- ---- entries of no frame

of-release : (script : Script) (past : List Entry) (b : ℕ) (e : Entry) → IsLegal script past → release_due past b ≡ Some e → TellsOf e (allowed_entries script past)
unfolding of_releases
of-release script past b e legal due =
    let held = if-true (is_at (place b past) Client && is_there (early_fence_of b past) past) _ e due in
    let client = (and_parts (is_at (place b past) Client) (is_there (early_fence_of b past) past) held).0 in
    let own = out-own script past b legal (at_client (place b past) client) in
    let stream = buffer-stream past b own in
    in-releases script past e
    (of-stream e (λ s. flat_map (λ c. shown (release_due past c)) (buffers_of past s)) stream.0 stream.1.0
    (of-one e (λ c. shown (release_due past c)) (buffers_of past stream.0) b stream.1.1 (of-due e _ due)))

of-signal : (script : Script) (past : List Entry) (f : ℕ) (e : Entry) → signal_due past f ≡ Some e → TellsOf e (allowed_entries script past)
unfolding of_signals
of-signal script past f e due =
    let held = if-true (nat_lt f (next_fence past) && not (is_signalled f past)) _ e due in
    let low = (and_parts (nat_lt f (next_fence past)) (not (is_signalled f past)) held).0 in
    in-signals script past e
    (of-one e (λ g. shown (signal_due past g)) (range_with_len 0 (next_fence past)) f (in-first f (next_fence past) low) (of-due e _ due))

of-late : (script : Script) (past : List Entry) (d : DeviceFenceNo) (digest : List ℕ) → IsLegal script past → late_due script past d.0 ≡ Some (Late d digest) → TellsOf (Late d digest) (allowed_entries script past)
unfolding of_lates
of-late script past d digest legal due =
    let low = late-low script past d digest legal due in
    let test : nat_lt d.0 (next_early past) ≡ true = grind (arith, nat_tests, low) in
    in-lates script past (Late d digest)
    (of-one (Late d digest) (λ g. shown (late_due script past g)) (range_with_len 0 (next_early past)) d.0 (in-first d.0 (next_early past) test) (of-due (Late d digest) _ due))

of-begin : (script : Script) (past : List Entry) (e : Entry) → begin_due script past ≡ Some e → TellsOf e (allowed_entries script past)
unfolding of_ends
of-begin script past e due = in-ends script past e (in-front e _ _ (of-due e _ due))

of-call : (script : Script) (past : List Entry) (e : Entry) → call_due script past ≡ Some e → TellsOf e (allowed_entries script past)
unfolding of_ends
of-call script past e due =
    in-ends script past e (behind e (shown (begin_due script past)) _ (in-front e _ _ (of-due e _ due)))

of-device : (script : Script) (past : List Entry) (e : Entry) → error_device_due script past ≡ Some e → TellsOf e (allowed_entries script past)
unfolding of_ends
of-device script past e due =
    in-ends script past e
    (behind e (shown (begin_due script past)) _ (behind e (shown (call_due script past)) _ (of-due e _ due)))

of-drop : (script : Script) (past : List Entry) (e : Entry) → drop_due script past ≡ Some e → TellsOf e (allowed_entries script past)
unfolding of_next
of-drop script past e due = in-next script past e (behind e (shown (send_due script past)) _ (of-due e _ due))

-- ---- all kinds

pub all_told : (script : Script) (past : List Entry) (e : Entry) → IsLegal script past → IsAllowed script past e → TellsOf e (allowed_entries script past)
all_told script past (Begin word) legal may = of-begin script past (Begin word) may
all_told script past (Call index word reply) legal may = of-call script past (Call index word reply) may
all_told script past (Send n r i same targets) legal may = of-send script past n r i same targets may
all_told script past (Dropped n r i) legal may = of-drop script past (Dropped n r i) may
all_told script past (Shutter n time) legal may = of-shutter script past n time legal may
all_told script past (Partial n k part) legal may = of-partial script past n.0 (Partial n k part) legal may
all_told script past (Filled n s b f digest) legal may = of-filled script past n.0 s.0 (Filled n s b f digest) legal may
all_told script past (Failed n s b f) legal may = of-failed script past n.0 s.0 (Failed n s b f) legal may
all_told script past (ErrorRequest n) legal may = of-request script past n.0 (ErrorRequest n) legal may
all_told script past (ErrorResult n) legal may = of-result script past n.0 (ErrorResult n) legal may
all_told script past (ErrorBuffer n s) legal may = of-error script past n.0 s.0 (ErrorBuffer n s) legal may
all_told script past ErrorDevice legal may = of-device script past ErrorDevice may
all_told script past (Release b f) legal may = of-release script past b.0 (Release b f) legal may
all_told script past (Signal f) legal may = of-signal script past f.0 (Signal f) may
all_told script past (Early n s b d) legal may = of-early script past n.0 s.0 (Early n s b d) legal may
all_told script past (Late d digest) legal may = of-late script past d digest legal may
