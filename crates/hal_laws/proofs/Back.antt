-- Rules of callbacks: buffers that come back, and errors of buffers.
use Rattle.std.proofs.Common.{◌≡◌, ℕ, ◌==◌, Bool, true, false, ◌&&◌, ◌||◌, not, List, [], ◌∷◌, Option, Some, None, refl, sym, ap, ◌∙◌, inl, inr}
use Rattle.std.specs.List.{list_any}
use Rattle.std.specs.Option.{option_map}
use Rattle.std.proofs.lemmas.Bool.{and_parts, both_ways, cases_Bool, eq-eqb, eqb-true, false≢true, lt-ltb, not-true, or_parts}
use Rattle.basic_lemmas.proofs.Lists.{any-mapped, any-never, found-any}
use Rattle.basic_lemmas.proofs.Tests.{and-false, or-neither, not-so}
use Rattle.cam_types.specs.declared.number.BufferId.{BufferId}
use Rattle.cam_types.specs.declared.number.FenceNo.{FenceNo}
use Rattle.cam_types.specs.declared.number.FrameNo.{FrameNo}
use Rattle.cam_types.specs.declared.number.StreamIx.{StreamIx}
use Rattle.cam_types.specs.declared.script.Script.{Script}
use Rattle.trace_model.specs.declared.entry.Entry.{Entry}
use Rattle.trace_model.specs.declared.entry.Entry.TheVariants.{Shutter, Partial, Filled, Failed, ErrorRequest, ErrorResult, ErrorBuffer, ErrorDevice, Early}
use Rattle.trace_model.specs.declared.entry.Sent.{Sent}
use Rattle.trace_model.specs.Allowed.{IsAllowed}
use Rattle.trace_model.specs.Entry.{is_error_device, is_partial, returns_of_frame, returns_target, sends}
use Rattle.trace_model.specs.Errors.{failed_due, fence_left}
use Rattle.trace_model.specs.Faults.{buffer_fault, request_fault}
use Rattle.trace_model.specs.Fence.{is_passed}
use Rattle.trace_model.specs.Frames.{has_error, has_error_request, has_target, target_of, targets_of}
use Rattle.trace_model.specs.Legal.{IsLegal}
use Rattle.trace_model.specs.Open.{has_error_buffer, has_error_result, has_part, is_returned}
use Rattle.trace_model.specs.Stopping.{has_failed}
use Rattle.trace_laws.proofs.Shapes.{failed-is}
use Rattle.trace_laws.proofs.Once.{out-not-returned}
use Rattle.trace_laws.proofs.Order.{fills, passes-before, was_filled}
use Rattle.trace_laws.proofs.Returns.{ComesBack, ComesFilled, early-back, early-well, failed-back, filled-back, filled-well}
use Rattle.trace_laws.proofs.BufferSends.{is_with, out-sent}
use Rattle.trace_laws.proofs.Metadata.{result-fails}
use Rattle.trace_laws.proofs.Shutters.{no-request}
use Rattle.trace_laws.proofs.Told.{tells}
use Rattle.hal_model.specs.declared.event.HalEvent.TheVariants.{ErrorDevice as HalErrorDevice}
use Rattle.hal_model.specs.declared.event.HalEvent.{HalEvent}
use Rattle.hal_model.specs.declared.event.HalFence.{HalFence}
use Rattle.hal_model.specs.declared.event.HalFence.TheVariants.{Absent as NoFence, Number}
use Rattle.hal_model.specs.declared.event.HalTarget.{HalTarget}
use Rattle.hal_model.specs.declared.event.Returned.{Returned}
use Rattle.hal_model.specs.declared.rule.Rule.TheVariants.{BufferOrder, ErrorForGoodBuffer, ErrorTwice, ErrorUnknownStream, GoodAfterError, NotAtDevice, ReleaseFence, UnknownFrame}
use Rattle.hal_model.specs.Callbacks.{buffer_order, error_for_good_buffer, error_twice, error_unknown_stream, good_after_error, has_own_fence, is_at_device, is_back_filled, is_fence_of, is_of, is_overtaken_for, is_own_or_unknown, names_idle, not_at_device, release_fence, unknown_frame}
use Rattle.hal_model.specs.Rules.{keeps_in_session, keeps_with}
use Rattle.hal_model.specs.declared.event.Status.{Status}
use Rattle.hal_model.specs.declared.event.Status.TheVariants.{Filled as Okay, Failed as Faulty}
use Rattle.hal_model.specs.Words.{begins, gives, had_later, is_back, is_filled, is_good, is_later, is_later_with, is_live, is_number, is_refused, stands, frames as hal_frames, targets_of as hal_targets_of, is_error_device as hal_error_device}
use Rattle.hal_model.specs.Hal.{callback, client_fence, device_fence, hal, left_fence, target}
use Rattle.hal_laws.proofs.Alone.{buffer-fails, dead-end, later-above, request-bare}
use Rattle.hal_laws.proofs.Homes.{Sees, back-among, home, targets-never}
use Rattle.hal_laws.proofs.Over.{back-returned, told-live}
use Rattle.hal_laws.proofs.Readings.{IsCallbackTest, any-reads, buffer-error-reads, by_callback, never-again, request-error-reads, result-error-reads, targets-read}
use Rattle.state_facts.proofs.Errors.{target-stream}
use Rattle.hal_laws.proofs.Comes.{CalledBack, ForbidsNone, kept, passes_now}
use Rattle.basic_lemmas.proofs.Shared.{found-also}

-- ---- frames that are named are live

known : (script : Script) (past : List Entry) (e : Entry) (n : ℕ) → IsLegal script past → IsAllowed script past e → sends n e ≡ false → tells n e ≡ true → not (is_live 3 n (hal script past)) ≡ false
known script past e n legal may other told = rw (told-live script past e n legal may other told) refl

-- so each callback is heard
pub none-idle : (script : Script) (past : List Entry) → IsLegal script past → keeps_with (names_idle 3) (hal script past) ≡ true
none-idle script past legal = kept (names_idle 3) script rule past legal
  where
    rule : ForbidsNone (names_idle 3) script
    rule (CalledBack past (Shutter n time) legal may) = known script past (Shutter n time) n.0 legal may refl (eq-eqb n.0 n.0 refl)
    rule (CalledBack past (Partial n k part) legal may) = known script past (Partial n k part) n.0 legal may refl (eq-eqb n.0 n.0 refl)
    rule (CalledBack past (Filled n s b f d) legal may) = known script past (Filled n s b f d) n.0 legal may refl (eq-eqb n.0 n.0 refl)
    rule (CalledBack past (Failed n s b f) legal may) = known script past (Failed n s b f) n.0 legal may refl (eq-eqb n.0 n.0 refl)
    rule (CalledBack past (Early n s b d) legal may) = known script past (Early n s b d) n.0 legal may refl (eq-eqb n.0 n.0 refl)
    rule (CalledBack past (ErrorRequest n) legal may) = known script past (ErrorRequest n) n.0 legal may refl (eq-eqb n.0 n.0 refl)
    rule (CalledBack past (ErrorResult n) legal may) = known script past (ErrorResult n) n.0 legal may refl (eq-eqb n.0 n.0 refl)
    rule (CalledBack past (ErrorBuffer n s) legal may) = known script past (ErrorBuffer n s) n.0 legal may refl (eq-eqb n.0 n.0 refl)
    rule _ = refl

pub unknown_frame_kept : (script : Script) (past : List Entry) → IsLegal script past → keeps_in_session 3 (hal script past) UnknownFrame ≡ true
unknown_frame_kept script past legal = weaker (hal script past) (none-idle script past legal)
  where
    weaker : (log : List HalEvent) → keeps_with (names_idle 3) log ≡ true → keeps_with (unknown_frame 3) log ≡ true
    weaker [] kept = refl
    weaker (h ∷ log) kept =
        let parts = and_parts (not (names_idle 3 h log)) (keeps_with (names_idle 3) log) kept in
        rw (not-true (names_idle 3 h log) parts.0) (weaker log parts.1)

-- ---- a buffer that comes back is at the device

-- a test that a target of the frame passes is passed by one of the log's
pub any-target : (script : Script) (past : List Entry) (n s : ℕ) (t : Sent) (q : HalTarget → Bool) → target_of n s past ≡ Some t → q (target t) ≡ true → list_any q (hal_targets_of n (hal script past)) ≡ true
any-target script past n s t q found passes =
    rw (targets-read script n past, any-mapped q target (targets_of n past)) (found-also (λ u. u.stream.0 == s) (λ u. q (target u)) (targets_of n past) t found passes)

not_back : (script : Script) (past : List Entry) (n s b : ℕ) → IsLegal script past → ComesBack past n s b → is_back n b (hal script past) ≡ false
not_back script past n s b legal back =
    not-so (is_back n b (hal script past))
    (λ is. both_ways (is_returned n s past) (out-not-returned script past n s b legal back.out) (back-returned script past n s b legal (back-among past n s b back) is))

at-device : (script : Script) (past : List Entry) (n s b : ℕ) (status : Status) (fence : HalFence) → IsLegal script past → ComesBack past n s b → is_at_device n (hal script past) (record { stream = Some s; buffer = Some b; status = status; release = fence; acquire = false }) ≡ true
at-device script past n s b status fence legal back =
    any-target script past n s back.target (λ t. is_of t (record { stream = Some s; buffer = Some b; status = status; release = fence; acquire = false }) && not (is_back n t.buffer (hal script past))) back.found
    (passes back.target.stream.0 back.target.buffer.0 (target-stream past n s back.target back.found) back.buffer)
  where
    passes : (u c : ℕ) → u ≡ s → c ≡ b → (((s == u) && (b == c)) && not (is_back n c (hal script past))) ≡ true
    passes u c at at' = rw (at, at', eq-eqb s s refl, eq-eqb b b refl, not_back script past n s b legal back) refl

pub not_at_device_kept : (script : Script) (past : List Entry) → IsLegal script past → keeps_in_session 3 (hal script past) NotAtDevice ≡ true
not_at_device_kept script past legal = kept (not_at_device 3) script rule past legal
  where
    rule : ForbidsNone (not_at_device 3) script
    rule (CalledBack past (Filled n s b f d) legal may) = rw (at-device script past n.0 s.0 b.0 Okay NoFence legal (filled-back script past n s b f d may)) (and-false (is_live 3 n.0 (hal script past)))
    rule (CalledBack past (Early n s b d) legal may) = rw (at-device script past n.0 s.0 b.0 Okay (Number (device_fence d)) legal (early-back script past n s b d may)) (and-false (is_live 3 n.0 (hal script past)))
    rule (CalledBack past (Failed n s b f) legal may) = rw (at-device script past n.0 s.0 b.0 Faulty (left_fence f) legal (failed-back past n s b f may)) (and-false (is_live 3 n.0 (hal script past)))
    rule (CalledBack past (Partial n k part) legal may) = and-false (is_live 3 n.0 (hal script past))
    rule _ = refl

-- ---- good buffers in order

sound-parts : (script : Script) (past : List Entry) (n s : ℕ) → ComesFilled script past n s → (has_error_request n past ≡ false) × (has_error_buffer n s past ≡ false)
sound-parts script past n s well =
    let faults = not (request_fault script n) && not (buffer_fault script n s) in
    let errors = not (has_error_request n past) && not (has_error_buffer n s past) in
    let sound = and_parts (not (has_error_request n past)) (not (has_error_buffer n s past)) (and_parts faults errors well.sound).1 in
    (not-true (has_error_request n past) sound.0, not-true (has_error_buffer n s past) sound.1)

sees-filled : Sees is_filled fills
sees-filled n s (Filled m t c f d) h = h
sees-filled n s (Early m t c d) h = h
sees-filled n s (Failed m t c f) h = absurd (false≢true (sym (and-false (m.0 == n)) ∙ h))
sees-filled n s _ h = absurd (false≢true h)

-- no buffer for a stream is back of the kind where none of the entry's kind came for it
none_back : (q : Returned → Bool) (r : ℕ → ℕ → Entry → Bool) → Sees q r → (script : Script) (past : List Entry) (n s : ℕ) → IsLegal script past → list_any (r n s) past ≡ false → list_any (λ t. (t.stream == s) && stands n (gives q n t.buffer) (hal script past)) (hal_targets_of n (hal script past)) ≡ false
none_back q r sees script past n s legal none =
    targets-never script past n (λ t. (t.stream == s) && stands n (gives q n t.buffer) (hal script past)) each
  where
    each : (t : Sent) → list_any (is_with t.stream.0 t.buffer.0) (targets_of n past) ≡ true → ((t.stream.0 == s) && stands n (gives q n t.buffer.0) (hal script past)) ≡ false
    each t among =
        not-so ((t.stream.0 == s) && stands n (gives q n t.buffer.0) (hal script past))
        (λ both.
        let parts = and_parts (t.stream.0 == s) (stands n (gives q n t.buffer.0) (hal script past)) both in
        let back = rw (eqb-true t.stream.0 s parts.0) at (home q r sees script past n t.stream.0 t.buffer.0 legal among parts.1) in
        both_ways (list_any (r n s) past) none back)

not_overtaken : (script : Script) (past : List Entry) (n s b m : ℕ) → IsLegal script past → ComesBack past n s b → ComesFilled script past n s → (is_later n m (hal script past) && is_back_filled s m (hal script past)) ≡ false
not_overtaken script past n s b m legal back well =
    elim (cases_Bool (was_filled m s past)) [
      | inl filled ↦ not-so (is_later n m (hal script past) && is_back_filled s m (hal script past))
          (λ both.
          let later = (and_parts (stands n (begins m) (hal script past)) (not (is_refused m (hal script past))) (and_parts (is_later n m (hal script past)) (is_back_filled s m (hal script past)) both).0).0 in
          let sent = out-sent past n s b back.out in
          let above = lt-ltb n m (later-above script past n m legal sent later) in
          let passes = passes-before script past m s n legal filled sent above in
          let has : has_target n s past ≡ true = found-any (λ t. t.stream.0 == s) (targets_of n past) back.target back.found in
          let sound = sound-parts script past n s well in
          let passes' = rw (has, out-not-returned script past n s b legal back.out, sound.0, sound.1) at passes in
          false≢true passes')
      | inr none ↦ rw (none_back is_filled fills sees-filled script past m s legal none) (and-false (is_later n m (hal script past)))
    ]

in_order : (script : Script) (past : List Entry) (n s b : ℕ) → IsLegal script past → ComesBack past n s b → ComesFilled script past n s → is_overtaken_for n (hal script past) (Some s) ≡ false
in_order script past n s b legal back well =
    or-neither (list_any (is_later_with (is_back_filled s) n (hal script past)) (hal_frames (hal script past))) (had_later (is_back_filled s) n (hal script past))
    (any-never (is_later_with (is_back_filled s) n (hal script past)) (hal_frames (hal script past)) (λ m. not_overtaken script past n s b m legal back well)) (never-again (is_back_filled s) n script past legal)

pub buffer_order_kept : (script : Script) (past : List Entry) → IsLegal script past → keeps_in_session 3 (hal script past) BufferOrder ≡ true
buffer_order_kept script past legal = kept (buffer_order 3) script rule past legal
  where
    rule : ForbidsNone (buffer_order 3) script
    rule (CalledBack past (Filled n s b f d) legal may) = rw (in_order script past n.0 s.0 b.0 legal (filled-back script past n s b f d may) (filled-well script past n s b f d may)) (and-false (is_live 3 n.0 (hal script past)))
    rule (CalledBack past (Early n s b d) legal may) = rw (in_order script past n.0 s.0 b.0 legal (early-back script past n s b d may) (early-well script past n s b d may)) (and-false (is_live 3 n.0 (hal script past)))
    rule (CalledBack past (Failed n s b f) legal may) = and-false (is_live 3 n.0 (hal script past))
    rule (CalledBack past (Partial n k part) legal may) = and-false (is_live 3 n.0 (hal script past))
    rule _ = refl

-- ---- good buffers and errors

pub good_after_error_kept : (script : Script) (past : List Entry) → IsLegal script past → keeps_in_session 3 (hal script past) GoodAfterError ≡ true
good_after_error_kept script past legal = kept (good_after_error 3) script rule past legal
  where
    rule : ForbidsNone (good_after_error 3) script
    rule (CalledBack past (Filled n s b f d) legal may) =
        let sound = sound-parts script past n.0 s.0 (filled-well script past n s b f d may) in
        dead-end (is_live 3 n.0 (hal script past)) (rw (request-error-reads n.0 script past legal, buffer-error-reads n.0 s.0 script past legal, sound.0, sound.1) refl)
    rule (CalledBack past (Early n s b d) legal may) =
        let sound = sound-parts script past n.0 s.0 (early-well script past n s b d may) in
        dead-end (is_live 3 n.0 (hal script past)) (rw (request-error-reads n.0 script past legal, buffer-error-reads n.0 s.0 script past legal, sound.0, sound.1) refl)
    rule (CalledBack past (Failed n s b f) legal may) = and-false (is_live 3 n.0 (hal script past))
    rule (CalledBack past (Partial n k part) legal may) = and-false (is_live 3 n.0 (hal script past))
    rule _ = refl

-- ---- fences of failed buffers

left-own : (fence : Option FenceNo) (past : List Entry) (g : FenceNo) → Some g ≡ fence_left fence past → fence ≡ Some g
left-own fence past g h =
    elim (cases_Bool (is_passed fence past)) [
      | inl passed ↦ (let h' = rw passed at h in absurd (cc))
      | inr not' ↦ (let h' = rw not' at h in sym h')
    ]

own_fence : (script : Script) (past : List Entry) (n s b : ℕ) (g : FenceNo) (t : Sent) → target_of n s past ≡ Some t → t.buffer.0 ≡ b → t.fence ≡ Some g → has_own_fence n (hal script past) (record { stream = Some s; buffer = Some b; status = Faulty; release = Number (client_fence g); acquire = false }) ≡ true
own_fence script past n s b g t found buffer fence =
    any-target script past n s t (λ t. is_number t.buffer (Some b) && is_fence_of (Number (client_fence g)) t.fence) found
    (passes t.buffer.0 t.fence buffer fence)
  where
    passes : (c : ℕ) (o : Option FenceNo) → c ≡ b → o ≡ Some g → ((b == c) && is_fence_of (Number (client_fence g)) (option_map client_fence o)) ≡ true
    passes c o at of = rw (at, of, eq-eqb b b refl) (eq-eqb (client_fence g) (client_fence g) refl)

failed_fence : (script : Script) (past : List Entry) (n : FrameNo) (s : StreamIx) (b : BufferId) (f : Option FenceNo) → failed_due past n.0 s.0 ≡ Some (Failed n s b f) → passes_now (release_fence 3) (callback (Failed n s b f)) (hal script past) ≡ false
failed_fence script past n s b None may = and-false (is_live 3 n.0 (hal script past))
failed_fence script past n s b (Some g) may =
    let is = failed-is past n s b (Some g) may in
    rw (own_fence script past n.0 s.0 b.0 g is.0 is.1 (ap (λ (x : BufferId). x.0) is.2) (left-own is.0.fence past g is.3)) (and-false (is_live 3 n.0 (hal script past)))

pub release_fence_kept : (script : Script) (past : List Entry) → IsLegal script past → keeps_in_session 3 (hal script past) ReleaseFence ≡ true
release_fence_kept script past legal = kept (release_fence 3) script rule past legal
  where
    rule : ForbidsNone (release_fence 3) script
    rule (CalledBack past (Failed n s b f) legal may) = failed_fence script past n s b f may
    rule (CalledBack past (Filled n s b f d) legal may) = and-false (is_live 3 n.0 (hal script past))
    rule (CalledBack past (Early n s b d) legal may) = and-false (is_live 3 n.0 (hal script past))
    rule (CalledBack past (Partial n k part) legal may) = and-false (is_live 3 n.0 (hal script past))
    rule _ = refl

-- ---- errors of buffers

sees-good : Sees is_good returns_target
sees-good n s (Filled m t c f d) h = h
sees-good n s (Early m t c d) h = absurd (false≢true (sym (and-false (m.0 == n)) ∙ h))
sees-good n s (Failed m t c f) h = absurd (false≢true (sym (and-false (m.0 == n)) ∙ h))
sees-good n s _ h = absurd (false≢true h)

pub error_for_good_kept : (script : Script) (past : List Entry) → IsLegal script past → keeps_in_session 3 (hal script past) ErrorForGoodBuffer ≡ true
error_for_good_kept script past legal = kept (error_for_good_buffer 3) script rule past legal
  where
    rule : ForbidsNone (error_for_good_buffer 3) script
    rule (CalledBack past (ErrorBuffer n s) legal may) = dead-end (is_live 3 n.0 (hal script past)) (none_back is_good returns_target sees-good script past n.0 s.0 legal (buffer-fails script past n s may).out)
    rule _ = refl

pub error_unknown_kept : (script : Script) (past : List Entry) → IsLegal script past → keeps_in_session 3 (hal script past) ErrorUnknownStream ≡ true
error_unknown_kept script past legal = kept (error_unknown_stream 3) script rule past legal
  where
    rule : ForbidsNone (error_unknown_stream 3) script
    rule (CalledBack past (ErrorBuffer n s) legal may) =
        let has : has_target n.0 s.0 past ≡ true = (buffer-fails script past n s may).target in
        let known' : list_any (λ t. t.stream == s.0) (hal_targets_of n.0 (hal script past)) ≡ true = rw (targets-read script n.0 past, any-mapped (λ t. t.stream == s.0) target (targets_of n.0 past)) has in
        rw known' (and-false (is_live 3 n.0 (hal script past)))
    rule _ = refl

pub device-reads : (script : Script) (past : List Entry) → list_any hal_error_device (hal script past) ≡ has_failed past
device-reads script past = any-reads hal_error_device is_error_device of each script past
  where
    of : IsCallbackTest hal_error_device
    of HalErrorDevice h = absurd (false≢true (sym h))
    of _ h = refl

    each : (e : Entry) → by_callback hal_error_device (callback e) ≡ is_error_device e
    each ErrorDevice = refl
    each _ = refl

pub error_twice_kept : (script : Script) (past : List Entry) → IsLegal script past → keeps_in_session 3 (hal script past) ErrorTwice ≡ true
error_twice_kept script past legal = kept (error_twice 3) script rule past legal
  where
    rule : ForbidsNone (error_twice 3) script
    rule (CalledBack past (ErrorRequest n) legal may) =
        let bare = or_parts (list_any (is_partial n.0) past) (list_any (returns_of_frame n.0) past || has_error n.0 past) (request-bare script past n may).1 in
        let rest = or_parts (list_any (returns_of_frame n.0) past) (has_error n.0 past) bare.1 in
        dead-end (is_live 3 n.0 (hal script past)) (request-error-reads n.0 script past legal ∙ no-request n.0 past rest.1)
    rule (CalledBack past (ErrorResult n) legal may) =
        dead-end (is_live 3 n.0 (hal script past)) (result-error-reads n.0 script past legal ∙ (or_parts (has_error_result n.0 past) (has_error_request n.0 past) (or_parts (has_part n.0 3 past) (has_error_result n.0 past || has_error_request n.0 past) (result-fails script past n may).open_still).1).0)
    rule (CalledBack past (ErrorBuffer n s) legal may) = dead-end (is_live 3 n.0 (hal script past)) (dead-end (is_own_or_unknown n.0 (hal script past) (Some s.0)) (buffer-error-reads n.0 s.0 script past legal ∙ (buffer-fails script past n s may).first))
    rule _ = refl
