-- Each rule is kept, and so the report is empty.
use Rattle.std.proofs.Common.{◌≡◌, ℕ, true, false, not, List, [], ◌∷◌, ◌++◌, Option, Some, None, refl, sym, ◌∙◌}
use Rattle.std.specs.List.{list_all, list_any}
use Rattle.std.proofs.lemmas.Bool.{and_parts, false≢true, not-true, or_parts}
use Rattle.basic_lemmas.proofs.Lists.{all-where}
use Rattle.std.specs.Option.{option_to_list}
use Rattle.cam_types.specs.Script.{is_valid}
use Rattle.cam_types.specs.declared.script.Script.{Script}
use Rattle.trace_model.specs.declared.entry.Entry.{Entry}
use Rattle.trace_model.specs.Legal.{IsLegal}
use Rattle.trace_model.specs.Stopping.{has_failed}
use Rattle.hal_model.specs.declared.event.HalEvent.{HalEvent}
use Rattle.hal_model.specs.declared.rule.Rule.{Rule}
use Rattle.hal_model.specs.declared.rule.Rule.TheVariants.{InitOrder, InitTwice, NoConfiguration, NoOutput, NoSettings, TwoInputs, ConfigureInFlight, OverlappingCalls, CallAfterClose, FrameNumber, HeldBuffer, RepeatedStream, TooManyBuffers, UnknownStream, AcceptedBeforeInit, AcceptedInitTwice, AcceptedDead, AcceptedNoOutput, AcceptedTwoInputs, AcceptedNoSettings, AcceptedUnknownStream, NoMaxBuffers, RefusedRequest, RefusedAfterCallback, UnknownFrame, CallbackAfterClose, CallbackAfterFailure, FailedWithFrames, ShutterTwice, ShutterAfterRequestError, EmptyResult, PartialNumber, PartialTwice, MetadataAfterRequestError, MetadataOrder, NotAtDevice, BufferStatus, BufferOrder, FailedBufferOrder, GoodAfterError, AcquireFence, ReleaseFence, ErrorTwice, ErrorBesideRequestError, RequestErrorLate, ErrorForGoodBuffer, ErrorUnknownStream, FlushLeft, CloseLeft, FailedWithoutNotice, NoShutter}
use Rattle.hal_model.specs.Rules.{breaches_in, breaks, breaks_in_session, is_strict, keeps, keeps_in_session, keeps_with, plain_rules, report_by}
use Rattle.hal_model.specs.Callbacks.{ends_again, heard, names_idle}
use Rattle.hal_model.specs.Words.{is_callback, is_open_ok, session}
use Rattle.hal_model.specs.declared.event.HalEvent.TheVariants.{OpenBegin, OpenOk, InitBegin, InitOk}
use Rattle.trace_model.specs.declared.entry.Entry.TheVariants.{Begin, Call, Send}
use Rattle.hal_model.specs.Hal.{callback, called, events, flush_begun, hal, whole_log}
use Rattle.hal_laws.proofs.Keep.{begun-other, callback_back, called-other, is_other, none_passes}
use Rattle.hal_laws.specs.Keeping.{KeepsHeader, KeepsStrictly, KeepsTheRest, LeavesNothing, ReportsNothing, is_of_failure, is_unkept}
use Rattle.hal_laws.proofs.Alone.{error_beside_kept, metadata_failed_kept, metadata_order_kept, partial_number_kept, partial_twice_kept, request_error_kept, shutter_failed_kept, shutter_twice_kept}
use Rattle.hal_laws.proofs.Asked.{no_max_buffers_kept}
use Rattle.hal_laws.proofs.Back.{buffer_order_kept, error_for_good_kept, error_twice_kept, error_unknown_kept, good_after_error_kept, none-idle, not_at_device_kept, release_fence_kept, unknown_frame_kept}
use Rattle.hal_laws.proofs.Calling.{accepted_no_settings_kept, accepted_unknown_stream_kept, close_left_kept, configure_in_flight_kept, flush_left_kept, frame_number_kept, held_buffer_kept, init_order_kept, no_settings_kept, repeated_stream_kept, unknown_stream_kept}
use Rattle.hal_laws.proofs.Closing.{call_after_close_kept, callback_after_close_kept, callback_after_failure_kept, failed_with_frames_kept}
use Rattle.hal_laws.proofs.Crowding.{too_many_buffers_kept}
use Rattle.hal_laws.proofs.Ending.{accepted_before_init_kept, accepted_dead_kept, accepted_no_output_kept, accepted_two_inputs_kept, failed_without_notice_kept, no_configuration_kept, no_output_kept, no_shutter_kept, overlapping_calls_kept, two_inputs_kept, ends-once}
use Rattle.hal_laws.proofs.Resting.{none-outstanding}
use Rattle.hal_laws.proofs.Plain.{accepted_init_twice_kept, acquire_fence_kept, buffer_status_kept, empty_result_kept, init_twice_kept, refused_after_kept, refused_request_kept}

each_in_session : (script : Script) (past : List Entry) → is_valid script ≡ true → IsLegal script past → (rule : Rule) → is_unkept rule ≡ false → (is_of_failure rule ≡ true → has_failed past ≡ false) → keeps_in_session 3 (hal script past) rule ≡ true
each_in_session script past valid legal InitOrder plain sound = init_order_kept script past legal
each_in_session script past valid legal InitTwice plain sound = init_twice_kept script past legal
each_in_session script past valid legal NoConfiguration plain sound = no_configuration_kept script past legal
each_in_session script past valid legal NoOutput plain sound = no_output_kept script past legal
each_in_session script past valid legal NoSettings plain sound = no_settings_kept script past legal
each_in_session script past valid legal TwoInputs plain sound = two_inputs_kept script past legal
each_in_session script past valid legal ConfigureInFlight plain sound = configure_in_flight_kept script past legal
each_in_session script past valid legal OverlappingCalls plain sound = overlapping_calls_kept script past legal
each_in_session script past valid legal CallAfterClose plain sound = call_after_close_kept script past legal
each_in_session script past valid legal FrameNumber plain sound = frame_number_kept script past legal
each_in_session script past valid legal HeldBuffer plain sound = held_buffer_kept script past legal
each_in_session script past valid legal RepeatedStream plain sound = repeated_stream_kept script past legal
each_in_session script past valid legal TooManyBuffers plain sound = too_many_buffers_kept script past legal
each_in_session script past valid legal UnknownStream plain sound = unknown_stream_kept script past legal
each_in_session script past valid legal AcceptedBeforeInit plain sound = accepted_before_init_kept script past legal
each_in_session script past valid legal AcceptedInitTwice plain sound = accepted_init_twice_kept script past legal
each_in_session script past valid legal AcceptedDead plain sound = accepted_dead_kept script past legal
each_in_session script past valid legal AcceptedNoOutput plain sound = accepted_no_output_kept script past legal
each_in_session script past valid legal AcceptedTwoInputs plain sound = accepted_two_inputs_kept script past legal
each_in_session script past valid legal AcceptedNoSettings plain sound = accepted_no_settings_kept script past legal
each_in_session script past valid legal AcceptedUnknownStream plain sound = accepted_unknown_stream_kept script past legal
each_in_session script past valid legal NoMaxBuffers plain sound = no_max_buffers_kept script past valid legal
each_in_session script past valid legal RefusedRequest plain sound = refused_request_kept script past legal
each_in_session script past valid legal RefusedAfterCallback plain sound = refused_after_kept script past legal
each_in_session script past valid legal UnknownFrame plain sound = unknown_frame_kept script past legal
each_in_session script past valid legal CallbackAfterClose plain sound = callback_after_close_kept script past legal
each_in_session script past valid legal CallbackAfterFailure plain sound = callback_after_failure_kept script past (sound refl)
each_in_session script past valid legal FailedWithFrames plain sound = failed_with_frames_kept script past (sound refl)
each_in_session script past valid legal ShutterTwice plain sound = shutter_twice_kept script past legal
each_in_session script past valid legal ShutterAfterRequestError plain sound = shutter_failed_kept script past legal
each_in_session script past valid legal EmptyResult plain sound = empty_result_kept script past legal
each_in_session script past valid legal PartialNumber plain sound = partial_number_kept script past legal
each_in_session script past valid legal PartialTwice plain sound = partial_twice_kept script past legal
each_in_session script past valid legal MetadataAfterRequestError plain sound = metadata_failed_kept script past legal
each_in_session script past valid legal MetadataOrder plain sound = metadata_order_kept script past legal
each_in_session script past valid legal NotAtDevice plain sound = not_at_device_kept script past legal
each_in_session script past valid legal BufferStatus plain sound = buffer_status_kept script past legal
each_in_session script past valid legal BufferOrder plain sound = buffer_order_kept script past legal
each_in_session script past valid legal FailedBufferOrder plain sound = absurd (false≢true (sym plain))
each_in_session script past valid legal GoodAfterError plain sound = good_after_error_kept script past legal
each_in_session script past valid legal AcquireFence plain sound = acquire_fence_kept script past legal
each_in_session script past valid legal ReleaseFence plain sound = release_fence_kept script past legal
each_in_session script past valid legal ErrorTwice plain sound = error_twice_kept script past legal
each_in_session script past valid legal ErrorBesideRequestError plain sound = error_beside_kept script past legal
each_in_session script past valid legal RequestErrorLate plain sound = request_error_kept script past legal
each_in_session script past valid legal ErrorForGoodBuffer plain sound = error_for_good_kept script past legal
each_in_session script past valid legal ErrorUnknownStream plain sound = error_unknown_kept script past legal
each_in_session script past valid legal FlushLeft plain sound = flush_left_kept script past legal
each_in_session script past valid legal CloseLeft plain sound = close_left_kept script past legal
each_in_session script past valid legal FailedWithoutNotice plain sound = failed_without_notice_kept script past legal
each_in_session script past valid legal NoShutter plain sound = no_shutter_kept script past legal

-- ---- the log of a trace is one session, which begins with its open

opened_once : (h : HalEvent) → is_other h ≡ true → is_open_ok h ≡ false
opened_once OpenOk h = absurd (false≢true h)
opened_once _ h = refl

abbrev opening_log : List HalEvent
opening_log = OpenBegin ∷ []

-- the session of a part of the log is that part
abbrev IsSession : List HalEvent → Type 0
IsSession log = session (log ++ opening_log) ≡ log

session-more : (e : HalEvent) (log : List HalEvent) → is_open_ok e ≡ false → IsSession log → IsSession (e ∷ log)
session-more e log other same = rw (other, same) refl

-- where each callback is of a live frame and each call returns once, all is heard
abbrev IsHeard : List HalEvent → Type 0
IsHeard log = (keeps_with (names_idle 3) log ≡ true) × (keeps_with ends_again log ≡ true)

heard-whole : (log : List HalEvent) → IsHeard log → heard 3 log ≡ log
heard-whole [] all = refl
heard-whole (e ∷ log) all =
    let named = and_parts (not (names_idle 3 e log)) (keeps_with (names_idle 3) log) all.0 in
    let once = and_parts (not (ends_again e log)) (keeps_with ends_again log) all.1 in
    rw (heard-whole log (named.1, once.1), not-true (names_idle 3 e log) named.0, not-true (ends_again e log) once.0) refl

-- a log whose parts are sessions keeps a rule in its session where it keeps it
abbrev Agrees : Rule → List HalEvent → Type 0
Agrees rule log = IsSession log × (IsHeard log → keeps_in_session 3 log rule ≡ true → keeps 3 (log ++ opening_log) rule ≡ true)

agrees-more : (rule : Rule) (e : HalEvent) (log : List HalEvent) → is_open_ok e ≡ false → Agrees rule log → Agrees rule (e ∷ log)
agrees-more rule e log other agrees = (session-more e log other agrees.0, kept)
  where
    kept : IsHeard (e ∷ log) → keeps_in_session 3 (e ∷ log) rule ≡ true → keeps 3 ((e ∷ log) ++ opening_log) rule ≡ true
    kept told h =
        let all : IsHeard log = ((and_parts (not (names_idle 3 e log)) (keeps_with (names_idle 3) log) told.0).1, (and_parts (not (ends_again e log)) (keeps_with ends_again log) told.1).1) in
        let parts = and_parts (not (breaks_in_session 3 rule e log)) (keeps_with (breaks_in_session 3 rule) log) h in
        rw (agrees.0, heard-whole log all, not-true (breaks_in_session 3 rule e log) parts.0) (agrees.1 all parts.1)

agrees-append : (rule : Rule) (hs log : List HalEvent) → list_any is_open_ok hs ≡ false → Agrees rule log → Agrees rule (hs ++ log)
agrees-append rule [] log none agrees = agrees
agrees-append rule (h ∷ hs) log none agrees =
    let parts = or_parts (is_open_ok h) (list_any is_open_ok hs) none in
    agrees-more rule h (hs ++ log) parts.0 (agrees-append rule hs log parts.1 agrees)

opening_keeps : (rule : Rule) → keeps 3 (OpenOk ∷ opening_log) rule ≡ true
opening_keeps InitOrder = refl
opening_keeps _ = refl

now_opened : (e : Entry) (o : Option HalEvent) → callback e ≡ o → list_any is_open_ok (option_to_list o) ≡ false
now_opened e None at = refl
now_opened e (Some h) at = rw (back_no_open h (callback_back e h at)) refl
  where
    back_no_open : (h : HalEvent) → is_callback h ≡ true → is_open_ok h ≡ false
    back_no_open OpenOk h = absurd (false≢true h)
    back_no_open _ h = refl

agrees : (script : Script) (past : List Entry) (rule : Rule) → Agrees rule (hal script past)
agrees script [] rule = agrees-more rule InitOk (InitBegin ∷ (OpenOk ∷ [])) refl (agrees-more rule InitBegin (OpenOk ∷ []) refl (refl, λ told h. opening_keeps rule))
agrees script (Begin w ∷ past) rule = agrees-append rule (flush_begun w past) (hal script past) (none_passes is_open_ok (flush_begun w past) opened_once (begun-other w past)) (agrees script past rule)
agrees script (Call i w r ∷ past) rule = agrees-append rule (called script past i w r) (hal script past) (none_passes is_open_ok (called script past i w r) opened_once (called-other script past i w r)) (agrees script past rule)
agrees script (Send n r i same targets ∷ past) rule = agrees-append rule (events script past (Send n r i same targets)) (hal script past) refl (agrees script past rule)
agrees script (e ∷ past) rule = agrees-append rule (option_to_list (callback e)) (hal script past) (now_opened e (callback e) refl) (agrees script past rule)

pub each-kept : (script : Script) (past : List Entry) → is_valid script ≡ true → IsLegal script past → (rule : Rule) → is_unkept rule ≡ false → (is_of_failure rule ≡ true → has_failed past ≡ false) → keeps 3 (whole_log script past) rule ≡ true
each-kept script past valid legal rule plain sound = (agrees script past rule).1 (none-idle script past legal, ends-once script past legal) (each_in_session script past valid legal rule plain sound)

-- ---- so the report is empty

pub keeps_header : (script : Script) (past : List Entry) → KeepsHeader script past
keeps_header script past valid legal sound =
    all-where (λ rule. not (is_strict rule)) (keeps 3 (whole_log script past)) plain_rules
    (λ rule plain. each-kept script past valid legal rule (not-strict rule plain) (λ _. sound)) refl
  where
    not-strict : (rule : Rule) → not (is_strict rule) ≡ true → is_unkept rule ≡ false
    not-strict FailedBufferOrder h = absurd (false≢true h)
    not-strict _ h = refl

pub keeps_strictly : (script : Script) (past : List Entry) → KeepsStrictly script past
keeps_strictly script past valid legal sound rule plain = each-kept script past valid legal rule plain (λ _. sound)

pub keeps_the_rest : (script : Script) (past : List Entry) → KeepsTheRest script past
keeps_the_rest script past valid legal rule plain other = each-kept script past valid legal rule plain (λ is. absurd (false≢true (sym other ∙ is)))

no_breaches : (k : ℕ) (e : HalEvent) (past : List HalEvent) (some : List Rule) → list_all (keeps k (e ∷ past)) some ≡ true → breaches_in k e past some ≡ []
no_breaches k e past [] all = refl
no_breaches k e past (rule ∷ more) all =
    let parts = and_parts (keeps k (e ∷ past) rule) (list_all (keeps k (e ∷ past)) more) all in
    let first = and_parts (not (breaks k rule e past)) (keeps_with (breaks k rule) past) parts.0 in
    rw (not-true (breaks k rule e past) first.0) (no_breaches k e past more parts.1)

-- a log that keeps each rule has an empty report
pub nothing-told : (k : ℕ) (some : List Rule) (log : List HalEvent) → list_all (keeps k log) some ≡ true → report_by some k log ≡ []
nothing-told k some [] all = refl
nothing-told k some (e ∷ past) all =
    rw (nothing-told k some past (all-where (keeps k (e ∷ past)) (keeps k past) some (λ rule kept. (and_parts (not (breaks k rule e past)) (keeps_with (breaks k rule) past) kept).1) all))
    (no_breaches k e past some all)

pub reports_nothing : (script : Script) (past : List Entry) → ReportsNothing script past
reports_nothing script past valid legal sound = nothing-told 3 plain_rules (whole_log script past) (keeps_header script past valid legal sound)

pub leaves_nothing : (script : Script) (past : List Entry) → LeavesNothing script past
leaves_nothing script past complete = rw (agrees script past InitOrder).0 (none-outstanding script past complete.legal complete.open_frames)
