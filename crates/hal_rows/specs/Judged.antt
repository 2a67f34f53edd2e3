-- The rules as functions of an event and the state.
use Rattle.std.specs.Prelude.{ℕ, ◌==◌, ◌+◌, Bool, true, false, ◌&&◌, ◌||◌, not, List, [], ◌∷◌, ◌++◌, Option, Some, None, count_by, filter, find, map, nat_le, nat_lt, sum_by, if◌then◌else◌}
use Rattle.std.specs.List.{list_all, list_any}
use Rattle.hal_model.specs.declared.event.HalEvent.{HalEvent}
use Rattle.hal_model.specs.declared.event.HalEvent.TheVariants.{OpenBegin, InitBegin, InitOk, TemplateOk, ConfigureBegin, ConfigureOk, RequestBegin, RequestOk, RequestError, Shutter, ErrorRequest, ErrorResult, ErrorBuffer, ErrorDevice, Results, FlushOk, CloseBegin, CloseEnd}
use Rattle.hal_model.specs.declared.event.HalStream.{HalStream}
use Rattle.hal_model.specs.declared.event.HalTarget.{HalTarget}
use Rattle.hal_model.specs.declared.event.Pack.TheVariants.{Entries, Empty, Absent}
use Rattle.hal_model.specs.declared.event.Returned.{Returned}
use Rattle.hal_model.specs.declared.rule.Breach.{Breach}
use Rattle.hal_model.specs.declared.rule.Rule.{Rule}
use Rattle.hal_model.specs.declared.rule.Rule.TheVariants.{InitOrder, InitTwice, NoConfiguration, NoOutput, NoSettings, TwoInputs, ConfigureInFlight, OverlappingCalls, CallAfterClose, FrameNumber, HeldBuffer, RepeatedStream, TooManyBuffers, UnknownStream, AcceptedBeforeInit, AcceptedInitTwice, AcceptedDead, AcceptedNoOutput, AcceptedTwoInputs, AcceptedNoSettings, AcceptedUnknownStream, NoMaxBuffers, RefusedRequest, RefusedAfterCallback, UnknownFrame, CallbackAfterClose, CallbackAfterFailure, FailedWithFrames, ShutterTwice, ShutterAfterRequestError, EmptyResult, PartialNumber, PartialTwice, MetadataAfterRequestError, MetadataOrder, NotAtDevice, BufferStatus, BufferOrder, FailedBufferOrder, GoodAfterError, AcquireFence, ReleaseFence, ErrorTwice, ErrorBesideRequestError, RequestErrorLate, ErrorForGoodBuffer, ErrorUnknownStream, FlushLeft, CloseLeft, FailedWithoutNotice, NoShutter}
use Rattle.hal_model.specs.Callbacks.{has_acquire, is_fence_of, is_for, is_of, is_some_listed, is_unclear}
use Rattle.hal_model.specs.Device.{is_idle_most, is_unnamed}
use Rattle.hal_model.specs.Framework.{has_no_output, has_two_inputs, is_empty, is_past, is_twice_buffer, is_twice_stream, puts_out}
use Rattle.hal_model.specs.declared.rule.Fault.{Fault}
use Rattle.hal_model.specs.Rules.{at, at_buffers, at_stream, at_targets, frame_in, ordered, plain}
use Rattle.hal_model.specs.Words.{has_stream, is_absent, is_begin, is_callback, is_failed_buffer, is_filled, is_no_device, is_number, is_point, is_same_number}
use Rattle.hal_rows.specs.declared.device.Device.{Device}
use Rattle.hal_rows.specs.declared.row.Row.{Row}
use Rattle.hal_rows.specs.declared.row.TargetRow.{TargetRow}
use Rattle.hal_rows.specs.Row.{has_number, is_orderly_in, is_row_complete, is_row_done, is_row_in_call, is_row_in_time, is_row_outstanding, is_row_unannounced, is_row_unannounced_at, row_for}
use Rattle.hal_rows.specs.declared.order.Order.{Order}
use Rattle.hal_rows.specs.declared.order.Order.TheVariants.{Sound, Filled, Orderly, Other}
use Rattle.hal_rows.specs.State.{HalState, later_at}

abbrev pub of_found : (Row → Bool) → Option Row → Bool
of_found test (Some r) = test r
of_found test None = false

-- the row of request n passes the test; its request is in call too
abbrev pub of_live : (Row → Bool) → ℕ → HalState → Bool
of_live test n s = of_found test (row_for n s.rows)

abbrev pub of_called : (Row → Bool) → ℕ → HalState → Bool
of_called test n s = of_found (λ r. is_row_in_call r && test r) (row_for n s.rows)

abbrev pub is_row : Row → Bool
is_row r = true

-- ---- the framework

abbrev pub init_order_at : HalEvent → HalState → Bool
init_order_at OpenBegin s = false
init_order_at InitBegin s = false
init_order_at CloseBegin s = false
init_order_at e s = is_begin e && not s.device.initialized

abbrev pub init_twice_at : HalEvent → HalState → Bool
init_twice_at InitBegin s = s.device.init_begun
init_twice_at _ s = false

abbrev pub no_configuration_at : HalEvent → HalState → Bool
no_configuration_at (RequestBegin _ _ _ _ _) s = not s.device.configured
no_configuration_at _ s = false

abbrev pub no_output_at : HalEvent → HalState → Bool
no_output_at (RequestBegin _ _ targets _ _) s = is_empty targets
no_output_at (ConfigureBegin _ streams) s = has_no_output streams
no_output_at _ s = false

abbrev pub no_settings_at : HalEvent → HalState → Bool
no_settings_at (RequestBegin _ same _ _ _) s = same && not s.device.settings
no_settings_at _ s = false

abbrev pub two_inputs_at : HalEvent → HalState → Bool
two_inputs_at (ConfigureBegin _ streams) s = has_two_inputs streams
two_inputs_at _ s = false

abbrev pub is_row_awaited : Row → Bool
is_row_awaited r =
    r.accepted
    && not (((r.last_part || (r.result_error || r.failed)) || r.last_empty) && list_all (λ t. t.back) r.targets)

abbrev pub is_row_in_flight : Row → Bool
is_row_in_flight r = is_row_in_call r || (is_row_awaited r && not r.flushed)

abbrev pub configure_in_flight_at : HalEvent → HalState → Bool
configure_in_flight_at (ConfigureBegin _ _) s = list_any is_row_in_flight s.rows
configure_in_flight_at _ s = false

abbrev pub is_requesting_at : HalState → Bool
is_requesting_at s = list_any is_row_in_call s.rows

abbrev pub is_in_other_call_at : Device → Bool
is_in_other_call_at d = d.opening.out || (d.init.out || (d.template.out || (d.flush.out || d.close.out)))

abbrev pub overlapping_calls_at : HalEvent → HalState → Bool
overlapping_calls_at (RequestBegin _ _ _ _ _) s = is_requesting_at s || s.device.configure.out
overlapping_calls_at (ConfigureBegin _ _) s = is_requesting_at s || s.device.configure.out
overlapping_calls_at CloseBegin s = (is_requesting_at s || s.device.configure.out) || is_in_other_call_at s.device
overlapping_calls_at _ s = false

abbrev pub call_after_close_at : HalEvent → HalState → Bool
call_after_close_at OpenBegin s = false
call_after_close_at e s = is_begin e && s.device.closing

abbrev pub is_row_called_from : ℕ → Row → Bool
is_row_called_from n r = is_row_in_call r && not (nat_lt r.frame n)

abbrev pub frame_number_at : HalEvent → HalState → Bool
frame_number_at (RequestBegin n _ _ _ _) s = nat_lt n s.device.top || list_any (is_row_called_from n) s.rows
frame_number_at _ s = false

abbrev pub is_holding : ℕ → TargetRow → Bool
is_holding b t = (t.target.buffer == b) && not t.back

abbrev pub is_held_at : ℕ → List Row → Bool
is_held_at b each = list_any (λ r. list_any (is_holding b) r.targets) each

abbrev pub is_held_target_at : List HalTarget → HalState → HalTarget → Bool
is_held_target_at targets s t = is_held_at t.buffer s.rows || is_twice_buffer targets t

abbrev pub held_buffer_at : HalEvent → HalState → Bool
held_buffer_at (RequestBegin _ _ targets _ _) s = list_any (is_held_target_at targets s) targets
held_buffer_at _ s = false

abbrev pub repeated_stream_at : HalEvent → HalState → Bool
repeated_stream_at (RequestBegin _ _ targets _ _) s = list_any (is_twice_stream targets) targets
repeated_stream_at _ s = false

abbrev pub is_holding_for : ℕ → TargetRow → Bool
is_holding_for s t = (t.target.stream == s) && not t.back

abbrev pub held_count_at : ℕ → List Row → ℕ
held_count_at s each = sum_by (λ r. count_by (is_holding_for s) r.targets) each

abbrev pub is_too_many_at : List HalTarget → HalState → HalTarget → Bool
is_too_many_at targets s t =
    is_past (find (λ x. x.stream == t.stream) s.device.most)
    (held_count_at t.stream s.rows + count_by (λ u. u.stream == t.stream) targets)

abbrev pub too_many_buffers_at : HalEvent → HalState → Bool
too_many_buffers_at (RequestBegin _ _ targets _ _) s = list_any (is_too_many_at targets s) targets
too_many_buffers_at _ s = false

abbrev pub is_unknown_in : List HalStream → HalTarget → Bool
is_unknown_in streams t = not (has_stream t.stream streams)

abbrev pub unknown_stream_at : HalEvent → HalState → Bool
unknown_stream_at (RequestBegin _ _ targets _ _) s = list_any (is_unknown_in s.device.streams) targets
unknown_stream_at _ s = false

abbrev pub is_flawed_at : HalEvent → HalState → Bool
is_flawed_at e s =
    ((init_order_at e s || (no_configuration_at e s || no_output_at e s))
    || (no_settings_at e s || (overlapping_calls_at e s || call_after_close_at e s)))
    || ((frame_number_at e s || (held_buffer_at e s || repeated_stream_at e s))
    || (too_many_buffers_at e s || unknown_stream_at e s))

-- ---- the device, where a call returns

abbrev pub accepted_before_init_at : HalEvent → HalState → Bool
accepted_before_init_at (TemplateOk _) s = not s.device.template.initialized
accepted_before_init_at (ConfigureOk _) s = not s.device.configure.initialized
accepted_before_init_at (RequestOk n) s = of_called (λ r. not r.initialized) n s
accepted_before_init_at FlushOk s = not s.device.flush.initialized
accepted_before_init_at _ s = false

abbrev pub accepted_init_twice_at : HalEvent → HalState → Bool
accepted_init_twice_at InitOk s = s.device.init.initialized
accepted_init_twice_at _ s = false

abbrev pub accepted_dead_at : HalEvent → HalState → Bool
accepted_dead_at InitOk s = s.device.init.dead
accepted_dead_at (TemplateOk _) s = s.device.template.dead
accepted_dead_at (ConfigureOk _) s = s.device.configure.dead
accepted_dead_at (RequestOk n) s = of_called (λ r. r.dead) n s
accepted_dead_at FlushOk s = s.device.flush.dead
accepted_dead_at _ s = false

abbrev pub is_row_without_target : Row → Bool
is_row_without_target r = is_empty r.targets

abbrev pub accepted_no_output_at : HalEvent → HalState → Bool
accepted_no_output_at (ConfigureOk _) s = has_no_output s.device.asked
accepted_no_output_at (RequestOk n) s = of_called is_row_without_target n s
accepted_no_output_at _ s = false

abbrev pub accepted_two_inputs_at : HalEvent → HalState → Bool
accepted_two_inputs_at (ConfigureOk _) s = has_two_inputs s.device.asked
accepted_two_inputs_at _ s = false

abbrev pub accepted_no_settings_at : HalEvent → HalState → Bool
accepted_no_settings_at (RequestOk n) s = of_called (λ r. r.same && not s.device.settings) n s
accepted_no_settings_at _ s = false

abbrev pub is_target_unknown_in : List HalStream → TargetRow → Bool
is_target_unknown_in streams t = is_unknown_in streams t.target

abbrev pub accepted_unknown_stream_at : HalEvent → HalState → Bool
accepted_unknown_stream_at (RequestOk n) s =
    of_called (λ r. list_any (is_target_unknown_in s.device.streams) r.targets) n s
accepted_unknown_stream_at _ s = false

abbrev pub no_max_buffers_at : HalEvent → HalState → Bool
no_max_buffers_at (ConfigureOk most) s =
    list_any (is_idle_most s.device.asked) most || list_any (is_unnamed most) s.device.asked
no_max_buffers_at _ s = false

-- what excuses a refusal at the begin
abbrev pub is_output_in : List HalStream → HalTarget → Bool
is_output_in streams t = list_any (λ x. (x.stream == t.stream) && puts_out x.direction) streams

abbrev pub excused_at : HalEvent → HalState → Bool
excused_at (RequestBegin n same targets no_handle bad_settings) s =
    (is_flawed_at (RequestBegin n same targets no_handle bad_settings) s || (no_handle || bad_settings))
    || ((not (list_all (is_output_in s.device.streams) targets)
    || (has_no_output s.device.streams || has_two_inputs s.device.streams)) || s.device.flush.out)
excused_at _ s = true

abbrev pub refused_request_at : HalEvent → HalState → Bool
refused_request_at (RequestError n error) s =
    of_called (λ r. not (is_no_device error) && not ((s.device.dead || r.entered) || r.excused)) n s
refused_request_at _ s = false

abbrev pub refused_after_callback_at : HalEvent → HalState → Bool
refused_after_callback_at (RequestError n error) s = of_called (λ r. not (is_no_device error) && r.said) n s
refused_after_callback_at _ s = false

abbrev pub is_row_left_by_flush : Row → Bool
is_row_left_by_flush r = r.before_flush && is_row_outstanding r

abbrev pub flush_left_at : HalEvent → HalState → Bool
flush_left_at FlushOk s = not s.device.dead && list_any is_row_left_by_flush s.rows
flush_left_at _ s = false

abbrev pub close_left_at : HalEvent → HalState → Bool
close_left_at CloseEnd s = not s.device.dead && list_any is_row_outstanding s.rows
close_left_at _ s = false

abbrev pub failed_with_frames_at : HalEvent → HalState → Bool
failed_with_frames_at ErrorDevice s = list_any is_row_outstanding s.rows
failed_with_frames_at _ s = false

-- ---- the points

abbrev pub is_row_newly_complete : HalEvent → Row → Bool
is_row_newly_complete e r = is_row_complete r && (not (is_row_done r) && is_row_in_time e r)

abbrev pub is_row_silent : HalEvent → Row → Bool
is_row_silent e r = is_row_newly_complete e r && is_row_unannounced r

abbrev pub is_row_unlit : HalEvent → Row → Bool
is_row_unlit e r = is_row_newly_complete e r && (not r.failed && (r.something && not r.shutter))

abbrev pub failed_without_notice_at : HalEvent → HalState → Bool
failed_without_notice_at e s = is_point e && (not s.device.dead && list_any (is_row_silent e) s.rows)

abbrev pub no_shutter_at : HalEvent → HalState → Bool
no_shutter_at e s = is_point e && (not s.device.dead && list_any (is_row_unlit e) s.rows)

-- ---- the device, in its callbacks

abbrev pub names_idle_at : HalEvent → HalState → Bool
names_idle_at (Shutter n _) s = not (of_live is_row n s)
names_idle_at (ErrorRequest n) s = not (of_live is_row n s)
names_idle_at (ErrorResult n) s = not (of_live is_row n s)
names_idle_at (ErrorBuffer n _) s = not (of_live is_row n s)
names_idle_at (Results n _ _ _ _) s = not (of_live is_row n s)
names_idle_at _ s = false

abbrev pub is_last_word_at : HalEvent → HalState → Bool
is_last_word_at (ErrorResult n) s = nat_lt n s.device.top
is_last_word_at (ErrorBuffer n _) s = nat_lt n s.device.top
is_last_word_at (Results n _ Empty [] _) s = nat_lt n s.device.top
is_last_word_at (Results n _ Absent [] _) s = nat_lt n s.device.top
is_last_word_at _ s = false

abbrev pub unknown_frame_at : HalEvent → HalState → Bool
unknown_frame_at e s = names_idle_at e s && not (is_last_word_at e s)

abbrev pub ends_again_at : HalEvent → HalState → Bool
ends_again_at (RequestOk n) s = not (of_called is_row n s)
ends_again_at (RequestError n _) s = not (of_called is_row n s)
ends_again_at _ s = false

abbrev pub callback_after_close_at : HalEvent → HalState → Bool
callback_after_close_at e s = is_callback e && s.device.closed

abbrev pub callback_after_failure_at : HalEvent → HalState → Bool
callback_after_failure_at e s = is_callback e && s.device.failed

abbrev pub shutter_twice_at : HalEvent → HalState → Bool
shutter_twice_at (Shutter n _) s = of_live (λ r. r.shutter) n s
shutter_twice_at _ s = false

abbrev pub shutter_after_request_error_at : HalEvent → HalState → Bool
shutter_after_request_error_at (Shutter n _) s = of_live (λ r. r.failed) n s
shutter_after_request_error_at _ s = false

abbrev pub empty_result_at : HalEvent → HalState → Bool
empty_result_at (Results _ _ Absent buffers input) s = is_empty buffers && not input
empty_result_at _ s = false

abbrev pub partial_number_at : ℕ → HalEvent → HalState → Bool
partial_number_at k (Results _ j Entries _ _) s = not (nat_lt 0 j && nat_le j k)
partial_number_at k (Results _ j Empty _ _) s = nat_lt k j
partial_number_at k (Results _ j Absent _ _) s = not (j == 0)
partial_number_at k _ s = false

abbrev pub is_row_part_seen : ℕ → Row → Bool
is_row_part_seen j r = list_any (λ p. (p.number == j) && p.seen) r.parts

abbrev pub partial_twice_at : HalEvent → HalState → Bool
partial_twice_at (Results n j Entries _ _) s = of_live (is_row_part_seen j) n s
partial_twice_at _ s = false

abbrev pub metadata_after_request_error_at : HalEvent → HalState → Bool
metadata_after_request_error_at (Results n _ Entries _ _) s = of_live (λ r. r.failed) n s
metadata_after_request_error_at _ s = false

abbrev pub metadata_order_at : ℕ → HalEvent → HalState → Bool
metadata_order_at k (Results n j Entries _ _) s =
    of_live (λ r. ((j == k) && not (r.result_error || r.failed)) && later_at Sound r s) n s
metadata_order_at k _ s = false

abbrev pub is_row_astray : Row → List Returned → Returned → Bool
is_row_astray r earlier b =
    not (list_any (λ t. is_of t.target b && not t.back) r.targets)
    || list_any (λ q. is_same_number q.buffer b.buffer) earlier

abbrev pub row_astray : Row → List Returned → List Returned → List (Option ℕ)
row_astray r earlier [] = []
row_astray r earlier (b ∷ buffers) =
    if is_row_astray r earlier b
    then b.stream ∷ row_astray r (b ∷ earlier) buffers else row_astray r (b ∷ earlier) buffers

abbrev pub not_at_device_at : HalEvent → HalState → Bool
not_at_device_at (Results n _ _ buffers _) s = of_live (λ r. is_some_listed (row_astray r [] buffers)) n s
not_at_device_at _ s = false

abbrev pub buffer_status_at : HalEvent → HalState → Bool
buffer_status_at (Results _ _ _ buffers _) s = list_any is_unclear buffers
buffer_status_at _ s = false

abbrev pub is_row_overtaken_for : HalState → Row → Option ℕ → Bool
is_row_overtaken_for s r (Some x) = later_at (Filled x) r s
is_row_overtaken_for s r None = false

abbrev pub is_row_overtaken : HalState → Row → Returned → Bool
is_row_overtaken s r b = is_filled b && is_row_overtaken_for s r b.stream

abbrev pub buffer_order_at : HalEvent → HalState → Bool
buffer_order_at (Results n _ _ buffers _) s = of_live (λ r. list_any (is_row_overtaken s r) buffers) n s
buffer_order_at _ s = false

abbrev pub other_order : Returned → ℕ → Order
other_order b x = if is_filled b then Other x else Orderly x

abbrev pub is_row_disorderly_for : HalState → Row → Returned → Option ℕ → Bool
is_row_disorderly_for s r b (Some x) = later_at (other_order b x) r s
is_row_disorderly_for s r b None = false

abbrev pub is_row_disorderly : HalState → Row → Returned → Bool
is_row_disorderly s r b = is_orderly_in s.device.flush.out b && is_row_disorderly_for s r b b.stream

abbrev pub failed_buffer_order_at : HalEvent → HalState → Bool
failed_buffer_order_at (Results n _ _ buffers _) s = of_live (λ r. list_any (is_row_disorderly s r) buffers) n s
failed_buffer_order_at _ s = false

abbrev pub is_row_announced_for : Row → Option ℕ → Bool
is_row_announced_for r (Some x) = has_number x r.notices
is_row_announced_for r None = false

abbrev pub is_row_wrongly_filled : Row → Returned → Bool
is_row_wrongly_filled r b = is_filled b && (r.failed || is_row_announced_for r b.stream)

abbrev pub good_after_error_at : HalEvent → HalState → Bool
good_after_error_at (Results n _ _ buffers _) s = of_live (λ r. list_any (is_row_wrongly_filled r) buffers) n s
good_after_error_at _ s = false

abbrev pub acquire_fence_at : HalEvent → HalState → Bool
acquire_fence_at (Results _ _ _ buffers _) s = list_any has_acquire buffers
acquire_fence_at _ s = false

abbrev pub is_row_wrongly_fenced : Row → Returned → Bool
is_row_wrongly_fenced r b =
    is_failed_buffer b
    && (not (is_absent b.release)
    && not (list_any (λ t. is_number t.target.buffer b.buffer && is_fence_of b.release t.target.fence) r.targets))

abbrev pub release_fence_at : HalEvent → HalState → Bool
release_fence_at (Results n _ _ buffers _) s = of_live (λ r. list_any (is_row_wrongly_fenced r) buffers) n s
release_fence_at _ s = false

abbrev pub is_row_for : Option ℕ → TargetRow → Bool
is_row_for x t = is_for x t.target

abbrev pub is_row_told_of : Option ℕ → Row → Bool
is_row_told_of (Some x) r = list_any (is_row_for (Some x)) r.targets && has_number x r.notices
is_row_told_of None r = r.unknown_notice

abbrev pub error_twice_at : HalEvent → HalState → Bool
error_twice_at (ErrorRequest n) s = of_live (λ r. r.failed) n s
error_twice_at (ErrorResult n) s = of_live (λ r. r.result_error) n s
error_twice_at (ErrorBuffer n x) s = of_live (is_row_told_of x) n s
error_twice_at _ s = false

abbrev pub error_beside_request_error_at : HalEvent → HalState → Bool
error_beside_request_error_at (ErrorResult n) s = of_live (λ r. r.failed) n s
error_beside_request_error_at (ErrorBuffer n _) s = of_live (λ r. r.failed) n s
error_beside_request_error_at _ s = false

abbrev pub request_error_late_at : HalEvent → HalState → Bool
request_error_late_at (ErrorRequest n) s = of_live (λ r. r.something || r.part_error) n s
request_error_late_at _ s = false

abbrev pub is_row_back_good : Option ℕ → Row → Bool
is_row_back_good x r = list_any (λ t. is_row_for x t && t.good) r.targets

abbrev pub error_for_good_buffer_at : HalEvent → HalState → Bool
error_for_good_buffer_at (ErrorBuffer n x) s = of_live (is_row_back_good x) n s
error_for_good_buffer_at _ s = false

abbrev pub error_unknown_stream_at : HalEvent → HalState → Bool
error_unknown_stream_at (ErrorBuffer n x) s = of_live (λ r. not (list_any (is_row_for x) r.targets)) n s
error_unknown_stream_at _ s = false

-- ---- all rules

abbrev pub breaks_at : ℕ → Rule → HalEvent → HalState → Bool
breaks_at k InitOrder e s = init_order_at e s
breaks_at k InitTwice e s = init_twice_at e s
breaks_at k NoConfiguration e s = no_configuration_at e s
breaks_at k NoOutput e s = no_output_at e s
breaks_at k NoSettings e s = no_settings_at e s
breaks_at k TwoInputs e s = two_inputs_at e s
breaks_at k ConfigureInFlight e s = configure_in_flight_at e s
breaks_at k OverlappingCalls e s = overlapping_calls_at e s
breaks_at k CallAfterClose e s = call_after_close_at e s
breaks_at k FrameNumber e s = frame_number_at e s
breaks_at k HeldBuffer e s = held_buffer_at e s
breaks_at k RepeatedStream e s = repeated_stream_at e s
breaks_at k TooManyBuffers e s = too_many_buffers_at e s
breaks_at k UnknownStream e s = unknown_stream_at e s
breaks_at k AcceptedBeforeInit e s = accepted_before_init_at e s
breaks_at k AcceptedInitTwice e s = accepted_init_twice_at e s
breaks_at k AcceptedDead e s = accepted_dead_at e s
breaks_at k AcceptedNoOutput e s = accepted_no_output_at e s
breaks_at k AcceptedTwoInputs e s = accepted_two_inputs_at e s
breaks_at k AcceptedNoSettings e s = accepted_no_settings_at e s
breaks_at k AcceptedUnknownStream e s = accepted_unknown_stream_at e s
breaks_at k NoMaxBuffers e s = no_max_buffers_at e s
breaks_at k RefusedRequest e s = refused_request_at e s
breaks_at k RefusedAfterCallback e s = refused_after_callback_at e s
breaks_at k UnknownFrame e s = unknown_frame_at e s
breaks_at k CallbackAfterClose e s = callback_after_close_at e s
breaks_at k CallbackAfterFailure e s = callback_after_failure_at e s
breaks_at k FailedWithFrames e s = failed_with_frames_at e s
breaks_at k ShutterTwice e s = shutter_twice_at e s
breaks_at k ShutterAfterRequestError e s = shutter_after_request_error_at e s
breaks_at k EmptyResult e s = empty_result_at e s
breaks_at k PartialNumber e s = partial_number_at k e s
breaks_at k PartialTwice e s = partial_twice_at e s
breaks_at k MetadataAfterRequestError e s = metadata_after_request_error_at e s
breaks_at k MetadataOrder e s = metadata_order_at k e s
breaks_at k NotAtDevice e s = not_at_device_at e s
breaks_at k BufferStatus e s = buffer_status_at e s
breaks_at k BufferOrder e s = buffer_order_at e s
breaks_at k FailedBufferOrder e s = failed_buffer_order_at e s
breaks_at k GoodAfterError e s = good_after_error_at e s
breaks_at k AcquireFence e s = acquire_fence_at e s
breaks_at k ReleaseFence e s = release_fence_at e s
breaks_at k ErrorTwice e s = error_twice_at e s
breaks_at k ErrorBesideRequestError e s = error_beside_request_error_at e s
breaks_at k RequestErrorLate e s = request_error_late_at e s
breaks_at k ErrorForGoodBuffer e s = error_for_good_buffer_at e s
breaks_at k ErrorUnknownStream e s = error_unknown_stream_at e s
breaks_at k FlushLeft e s = flush_left_at e s
breaks_at k CloseLeft e s = close_left_at e s
breaks_at k FailedWithoutNotice e s = failed_without_notice_at e s
breaks_at k NoShutter e s = no_shutter_at e s

-- ---- what is at fault

abbrev pub at_rows : List Row → List Fault
at_rows each = map (λ r. at r.frame None) each

abbrev pub at_target_rows : ℕ → List TargetRow → List Fault
at_target_rows n targets = map (λ t. at n (Some t.target.stream)) targets

-- of the row of request n, where it has one
abbrev pub for_row : {T : Type 0} → (Row → List T) → Option Row → List T
for_row f (Some r) = f r
for_row f None = []

abbrev pub of_row : {T : Type 0} → (Row → List T) → ℕ → HalState → List T
of_row f n s = for_row f (row_for n s.rows)

abbrev pub row_silences : List Row → List Fault
row_silences [] = []
row_silences (r ∷ each) =
    at_target_rows r.frame (filter (is_row_unannounced_at r) r.targets) ++ row_silences each

abbrev pub faults_at : Rule → HalEvent → HalState → List Fault
faults_at InitOrder e s = plain ∷ []
faults_at InitTwice e s = plain ∷ []
faults_at TwoInputs e s = plain ∷ []
faults_at ConfigureInFlight e s = at_rows (filter is_row_in_flight s.rows)
faults_at OverlappingCalls e s = plain ∷ []
faults_at CallAfterClose e s = plain ∷ []
faults_at HeldBuffer (RequestBegin n same targets a b) s =
    at_targets n (filter (is_held_target_at targets s) targets)
faults_at RepeatedStream (RequestBegin n same targets a b) s =
    at_targets n (filter (is_twice_stream targets) targets)
faults_at TooManyBuffers (RequestBegin n same targets a b) s =
    at_targets n (filter (is_too_many_at targets s) targets)
faults_at UnknownStream (RequestBegin n same targets a b) s =
    at_targets n (filter (is_unknown_in s.device.streams) targets)
faults_at AcceptedBeforeInit e s = plain ∷ []
faults_at AcceptedInitTwice e s = plain ∷ []
faults_at AcceptedDead e s = plain ∷ []
faults_at AcceptedTwoInputs e s = plain ∷ []
faults_at AcceptedUnknownStream (RequestOk n) s =
    of_row (λ r. at_target_rows n (filter (is_target_unknown_in s.device.streams) r.targets)) n s
faults_at NoMaxBuffers (ConfigureOk most) s =
    map at_stream
    (map (λ x. x.stream) (filter (is_idle_most s.device.asked) most)
    ++ map (λ x. x.stream) (filter (is_unnamed most) s.device.asked))
faults_at FailedWithFrames e s = at_rows (filter is_row_outstanding s.rows)
faults_at NotAtDevice (Results n j pack buffers input) s = of_row (λ r. map (at n) (row_astray r [] buffers)) n s
faults_at BufferStatus (Results n j pack buffers input) s = at_buffers n (filter is_unclear buffers)
faults_at BufferOrder (Results n j pack buffers input) s =
    of_row (λ r. at_buffers n (filter (is_row_overtaken s r) buffers)) n s
faults_at FailedBufferOrder (Results n j pack buffers input) s =
    of_row (λ r. at_buffers n (filter (is_row_disorderly s r) buffers)) n s
faults_at GoodAfterError (Results n j pack buffers input) s =
    of_row (λ r. at_buffers n (filter (is_row_wrongly_filled r) buffers)) n s
faults_at AcquireFence (Results n j pack buffers input) s = at_buffers n (filter has_acquire buffers)
faults_at ReleaseFence (Results n j pack buffers input) s =
    of_row (λ r. at_buffers n (filter (is_row_wrongly_fenced r) buffers)) n s
faults_at ErrorTwice (ErrorBuffer n x) s = at n x ∷ []
faults_at ErrorBesideRequestError (ErrorBuffer n x) s = at n x ∷ []
faults_at ErrorForGoodBuffer (ErrorBuffer n x) s = at n x ∷ []
faults_at ErrorUnknownStream (ErrorBuffer n x) s = at n x ∷ []
faults_at FlushLeft e s = at_rows (filter is_row_left_by_flush s.rows)
faults_at CloseLeft e s = at_rows (filter is_row_outstanding s.rows)
faults_at FailedWithoutNotice e s = row_silences (filter (is_row_silent e) s.rows)
faults_at NoShutter e s = at_rows (filter (is_row_unlit e) s.rows)
faults_at rule e s = record { frame = frame_in e; stream = None } ∷ []

-- ---- the breaches of an event; line is its number

abbrev pub breach_of : ℕ → Rule → Fault → Breach
breach_of line rule x = record { line = line; rule = rule; frame = x.frame; stream = x.stream }

abbrev pub breaches_at : ℕ → ℕ → HalEvent → HalState → Rule → List Breach
breaches_at k line e s rule =
    if breaks_at k rule e s then map (breach_of line rule) (ordered (faults_at rule e s)) else []

abbrev pub all_breaches_at : ℕ → ℕ → HalEvent → HalState → List Rule → List Breach
all_breaches_at k line e s [] = []
all_breaches_at k line e s (rule ∷ more) = breaches_at k line e s rule ++ all_breaches_at k line e s more
