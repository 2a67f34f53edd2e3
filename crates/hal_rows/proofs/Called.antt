-- The rules of calls, read of the state.
use Rattle.std.proofs.Common.{◌≡◌, ℕ, ◌==◌, ◌+◌, Bool, ◌&&◌, ◌||◌, not, List, [], ◌∷◌, Some, refl, sym, ap, find, map, count_by}
use Rattle.std.specs.List.{list_any}
use Rattle.basic_lemmas.proofs.Lists.{any-mapped, any-agree}
use Rattle.hal_model.specs.declared.event.HalEvent.{HalEvent}
use Rattle.hal_model.specs.declared.event.HalEvent.TheVariants.{OpenBegin, InitBegin, InitOk, TemplateOk, ConfigureBegin, ConfigureOk, RequestBegin, RequestOk, RequestError, ErrorDevice, FlushOk, CloseBegin, CloseEnd}
use Rattle.hal_model.specs.declared.event.HalTarget.{HalTarget}
use Rattle.hal_model.specs.Device.{accepted_before_init, accepted_dead, accepted_init_twice, accepted_no_output, accepted_no_settings, accepted_two_inputs, accepted_unknown_stream, close_left, failed_with_frames, flush_left, is_excused, is_excused_at, is_left_by_flush, is_said, is_same, no_max_buffers, refused_after_callback, refused_request}
use Rattle.hal_model.specs.Framework.{call_after_close, configure_in_flight, frame_number, held_buffer, init_order, init_twice, is_empty, is_flawed, is_held_target, is_in_flight, is_past, is_too_many, is_twice_buffer, is_unknown_to, no_configuration, no_output, no_settings, overlapping_calls, repeated_stream, too_many_buffers, two_inputs, unknown_stream}
use Rattle.hal_model.specs.Points.{failed_without_notice, is_silent, is_unlit, no_shutter}
use Rattle.hal_model.specs.Words.{before, begins, is_configuring, is_dead, is_in_other_call, is_initialized, is_no_device, is_point, is_settings_known, most, stands, streams, targets_of}
use Rattle.hal_rows.specs.Judged.{accepted_before_init_at, accepted_dead_at, accepted_init_twice_at, accepted_no_output_at, accepted_no_settings_at, accepted_two_inputs_at, accepted_unknown_stream_at, call_after_close_at, close_left_at, configure_in_flight_at, excused_at, failed_with_frames_at, failed_without_notice_at, flush_left_at, frame_number_at, held_buffer_at, init_order_at, init_twice_at, is_flawed_at, is_held_target_at, is_row_in_flight, is_row_left_by_flush, is_row_silent, is_row_unlit, is_row_without_target, is_target_unknown_in, is_too_many_at, no_configuration_at, no_max_buffers_at, no_output_at, no_settings_at, no_shutter_at, overlapping_calls_at, refused_after_callback_at, refused_request_at, repeated_stream_at, too_many_buffers_at, two_inputs_at, unknown_stream_at}
use Rattle.hal_rows.specs.Laws.{IsHeard}
use Rattle.hal_rows.specs.Row.{target_row}
use Rattle.hal_rows.specs.State.{hal_state}
use Rattle.hal_rows.proofs.Found.{any-rows}
use Rattle.hal_rows.proofs.Noted.{above_top}
use Rattle.hal_rows.proofs.Words.{called-from-reads, held-counts, held-reads, in-flight-gone, in-flight-reads, left-gone, left-reads, of-called, outstanding-some, requesting-reads, silent-gone, silent-reads, unlit-gone, unlit-reads}

-- ---- the framework

pub init-order : (k : ℕ) (e : HalEvent) (past : List HalEvent) → init_order e past ≡ init_order_at e (hal_state k past)
init-order k OpenBegin past = refl
init-order k InitBegin past = refl
init-order k CloseBegin past = refl
init-order k _ past = refl

pub init-twice : (k : ℕ) (e : HalEvent) (past : List HalEvent) → init_twice e past ≡ init_twice_at e (hal_state k past)
init-twice k InitBegin past = refl
init-twice k _ past = refl

pub no-configuration : (k : ℕ) (e : HalEvent) (past : List HalEvent) → no_configuration e past ≡ no_configuration_at e (hal_state k past)
no-configuration k (RequestBegin n same ts a b) past = refl
no-configuration k _ past = refl

pub no-output : (k : ℕ) (e : HalEvent) (past : List HalEvent) → no_output e past ≡ no_output_at e (hal_state k past)
no-output k (RequestBegin n same ts a b) past = refl
no-output k (ConfigureBegin m ss) past = refl
no-output k _ past = refl

pub no-settings : (k : ℕ) (e : HalEvent) (past : List HalEvent) → no_settings e past ≡ no_settings_at e (hal_state k past)
no-settings k (RequestBegin n same ts a b) past = refl
no-settings k _ past = refl

pub two-inputs : (k : ℕ) (e : HalEvent) (past : List HalEvent) → two_inputs e past ≡ two_inputs_at e (hal_state k past)
two-inputs k (ConfigureBegin m ss) past = refl
two-inputs k _ past = refl

pub configure-in-flight : (k : ℕ) (e : HalEvent) (past : List HalEvent) → IsHeard k past → configure_in_flight k e past ≡ configure_in_flight_at e (hal_state k past)
configure-in-flight k (ConfigureBegin m ss) past heard = any-rows k past (is_in_flight k past) is_row_in_flight (in-flight-gone k past heard) (in-flight-reads k past)
configure-in-flight k _ past heard = refl

pub overlapping-calls : (k : ℕ) (e : HalEvent) (past : List HalEvent) → overlapping_calls e past ≡ overlapping_calls_at e (hal_state k past)
overlapping-calls k (RequestBegin n same ts a b) past = ap (λ c. c || is_configuring past) (requesting-reads k past)
overlapping-calls k (ConfigureBegin m ss) past = ap (λ c. c || is_configuring past) (requesting-reads k past)
overlapping-calls k CloseBegin past = ap (λ c. (c || is_configuring past) || is_in_other_call past) (requesting-reads k past)
overlapping-calls k _ past = refl

pub call-after-close : (k : ℕ) (e : HalEvent) (past : List HalEvent) → call_after_close e past ≡ call_after_close_at e (hal_state k past)
call-after-close k OpenBegin past = refl
call-after-close k _ past = refl

pub frame-number : (k : ℕ) (e : HalEvent) (past : List HalEvent) → frame_number e past ≡ frame_number_at e (hal_state k past)
frame-number k (RequestBegin n same ts a b) past = both _ _ _ _ (above_top n past) (called-from-reads k n past)
  where
    both : (a b x y : Bool) → a ≡ x → b ≡ y → (a || b) ≡ (x || y)
    both a b x y h i = rw (h, i) refl
frame-number k _ past = refl

pub held-target : (k : ℕ) (ts : List HalTarget) (past : List HalEvent) (t : HalTarget) → is_held_target k ts past t ≡ is_held_target_at ts (hal_state k past) t
held-target k ts past t = ap (λ c. c || is_twice_buffer ts t) (held-reads k t.buffer past)

pub held-buffer : (k : ℕ) (e : HalEvent) (past : List HalEvent) → held_buffer k e past ≡ held_buffer_at e (hal_state k past)
held-buffer k (RequestBegin n same ts a b) past = any-agree (is_held_target k ts past) (is_held_target_at ts (hal_state k past)) ts (held-target k ts past)
held-buffer k _ past = refl

pub repeated-stream : (k : ℕ) (e : HalEvent) (past : List HalEvent) → repeated_stream e past ≡ repeated_stream_at e (hal_state k past)
repeated-stream k (RequestBegin n same ts a b) past = refl
repeated-stream k _ past = refl

pub too-many : (k : ℕ) (ts : List HalTarget) (past : List HalEvent) (t : HalTarget) → is_too_many k ts past t ≡ is_too_many_at ts (hal_state k past) t
too-many k ts past t = ap (λ c. is_past (find (λ x. x.stream == t.stream) (most past)) (c + count_by (λ u. u.stream == t.stream) ts)) (held-counts k t.stream past)

pub too-many-buffers : (k : ℕ) (e : HalEvent) (past : List HalEvent) → too_many_buffers k e past ≡ too_many_buffers_at e (hal_state k past)
too-many-buffers k (RequestBegin n same ts a b) past = any-agree (is_too_many k ts past) (is_too_many_at ts (hal_state k past)) ts (too-many k ts past)
too-many-buffers k _ past = refl

pub unknown-stream : (k : ℕ) (e : HalEvent) (past : List HalEvent) → unknown_stream e past ≡ unknown_stream_at e (hal_state k past)
unknown-stream k (RequestBegin n same ts a b) past = refl
unknown-stream k _ past = refl

pub flawed : (k : ℕ) (e : HalEvent) (past : List HalEvent) → is_flawed k e past ≡ is_flawed_at e (hal_state k past)
flawed k e past =
    by _ _ _ _ _ _ _ _ _ _ _ _ _ _ _ _ _ _ _ _ _ _ (init-order k e past) (no-configuration k e past) (no-output k e past) (no-settings k e past) (overlapping-calls k e past) (call-after-close k e past) (frame-number k e past) (held-buffer k e past) (repeated-stream k e past) (too-many-buffers k e past) (unknown-stream k e past)
  where
    by : (a b c d e f g h i j l a' b' c' d' e' f' g' h' i' j' l' : Bool) → a ≡ a' → b ≡ b' → c ≡ c' → d ≡ d' → e ≡ e' → f ≡ f' → g ≡ g' → h ≡ h' → i ≡ i' → j ≡ j' → l ≡ l' → (((a || (b || c)) || (d || (e || f))) || ((g || (h || i)) || (j || l))) ≡ (((a' || (b' || c')) || (d' || (e' || f'))) || ((g' || (h' || i')) || (j' || l')))
    by a b c d e f g h i j l a' b' c' d' e' f' g' h' i' j' l' pa pb pc pd pe pf pg ph pi pj pl = rw (pa, pb, pc, pd, pe, pf, pg, ph, pi, pj, pl) refl

pub excused : (k n : ℕ) (same : Bool) (ts : List HalTarget) (a b : Bool) (past : List HalEvent) → is_excused_at k (Some (RequestBegin n same ts a b)) past ≡ excused_at (RequestBegin n same ts a b) (hal_state k past)
excused k n same ts a b past = at-flaw (is_flawed k (RequestBegin n same ts a b) past) _ _ (flawed k (RequestBegin n same ts a b) past)
  where
    at-flaw : (x y z : Bool) → x ≡ y → ((x || (a || b)) || z) ≡ ((y || (a || b)) || z)
    at-flaw x y z h = rw h refl

-- ---- the device

empty-mapped : {X Y : Type 0} (f : X → Y) (xs : List X) → is_empty xs ≡ is_empty (map f xs)
empty-mapped f [] = refl
empty-mapped f (x ∷ xs) = refl

pub accepted-before-init : (k : ℕ) (e : HalEvent) (past : List HalEvent) → accepted_before_init e past ≡ accepted_before_init_at e (hal_state k past)
accepted-before-init k (RequestOk n) past = of-called k n past (not (is_initialized (before (begins n) past))) (λ r. not r.initialized) (λ l. refl)
accepted-before-init k (TemplateOk t) past = refl
accepted-before-init k (ConfigureOk ms) past = refl
accepted-before-init k FlushOk past = refl
accepted-before-init k _ past = refl

pub accepted-init-twice : (k : ℕ) (e : HalEvent) (past : List HalEvent) → accepted_init_twice e past ≡ accepted_init_twice_at e (hal_state k past)
accepted-init-twice k InitOk past = refl
accepted-init-twice k _ past = refl

pub accepted-dead : (k : ℕ) (e : HalEvent) (past : List HalEvent) → accepted_dead e past ≡ accepted_dead_at e (hal_state k past)
accepted-dead k (RequestOk n) past = of-called k n past (is_dead (before (begins n) past)) (λ r. r.dead) (λ l. refl)
accepted-dead k InitOk past = refl
accepted-dead k (TemplateOk t) past = refl
accepted-dead k (ConfigureOk ms) past = refl
accepted-dead k FlushOk past = refl
accepted-dead k _ past = refl

pub accepted-no-output : (k : ℕ) (e : HalEvent) (past : List HalEvent) → accepted_no_output e past ≡ accepted_no_output_at e (hal_state k past)
accepted-no-output k (RequestOk n) past = of-called k n past (is_empty (targets_of n past)) is_row_without_target (λ l. empty-mapped (target_row n past) (targets_of n past))
accepted-no-output k (ConfigureOk ms) past = refl
accepted-no-output k _ past = refl

pub accepted-two-inputs : (k : ℕ) (e : HalEvent) (past : List HalEvent) → accepted_two_inputs e past ≡ accepted_two_inputs_at e (hal_state k past)
accepted-two-inputs k (ConfigureOk ms) past = refl
accepted-two-inputs k _ past = refl

pub accepted-no-settings : (k : ℕ) (e : HalEvent) (past : List HalEvent) → accepted_no_settings e past ≡ accepted_no_settings_at e (hal_state k past)
accepted-no-settings k (RequestOk n) past = of-called k n past (is_same n past && not (is_settings_known past)) (λ r. r.same && not (is_settings_known past)) (λ l. refl)
accepted-no-settings k _ past = refl

pub accepted-unknown-stream : (k : ℕ) (e : HalEvent) (past : List HalEvent) → accepted_unknown_stream e past ≡ accepted_unknown_stream_at e (hal_state k past)
accepted-unknown-stream k (RequestOk n) past =
    of-called k n past (list_any (is_unknown_to past) (targets_of n past)) (λ r. list_any (is_target_unknown_in (streams past)) r.targets)
    (λ l. sym (any-mapped (is_target_unknown_in (streams past)) (target_row n past) (targets_of n past)))
accepted-unknown-stream k _ past = refl

pub no-max-buffers : (k : ℕ) (e : HalEvent) (past : List HalEvent) → no_max_buffers e past ≡ no_max_buffers_at e (hal_state k past)
no-max-buffers k (ConfigureOk ms) past = refl
no-max-buffers k _ past = refl

pub refused-request : (k : ℕ) (e : HalEvent) (past : List HalEvent) → refused_request k e past ≡ refused_request_at e (hal_state k past)
refused-request k (RequestError n error) past = of-called k n past (not (is_no_device error) && not (is_excused k n past)) (λ r. not (is_no_device error) && not ((is_dead past || r.entered) || r.excused)) (λ l. refl)
refused-request k _ past = refl

pub refused-after-callback : (k : ℕ) (e : HalEvent) (past : List HalEvent) → refused_after_callback e past ≡ refused_after_callback_at e (hal_state k past)
refused-after-callback k (RequestError n error) past = of-called k n past (not (is_no_device error) && stands n (is_said n) past) (λ r. not (is_no_device error) && r.said) (λ l. refl)
refused-after-callback k _ past = refl

pub flush-left : (k : ℕ) (e : HalEvent) (past : List HalEvent) → IsHeard k past → flush_left k e past ≡ flush_left_at e (hal_state k past)
flush-left k FlushOk past heard = ap (λ c. not (is_dead past) && c) (any-rows k past (is_left_by_flush k past) is_row_left_by_flush (left-gone k past heard) (left-reads k past))
flush-left k _ past heard = refl

pub close-left : (k : ℕ) (e : HalEvent) (past : List HalEvent) → IsHeard k past → close_left k e past ≡ close_left_at e (hal_state k past)
close-left k CloseEnd past heard = ap (λ c. not (is_dead past) && c) (outstanding-some k past heard)
close-left k _ past heard = refl

pub failed-with-frames : (k : ℕ) (e : HalEvent) (past : List HalEvent) → IsHeard k past → failed_with_frames k e past ≡ failed_with_frames_at e (hal_state k past)
failed-with-frames k ErrorDevice past heard = outstanding-some k past heard
failed-with-frames k _ past heard = refl

pub failed-without-notice : (k : ℕ) (e : HalEvent) (past : List HalEvent) → IsHeard k past → failed_without_notice k e past ≡ failed_without_notice_at e (hal_state k past)
failed-without-notice k e past heard = ap (λ c. is_point e && (not (is_dead past) && c)) (any-rows k past (is_silent k e past) (is_row_silent e) (silent-gone k e past heard) (silent-reads k e past))

pub no-shutter : (k : ℕ) (e : HalEvent) (past : List HalEvent) → IsHeard k past → no_shutter k e past ≡ no_shutter_at e (hal_state k past)
no-shutter k e past heard = ap (λ c. is_point e && (not (is_dead past) && c)) (any-rows k past (is_unlit k e past) (is_row_unlit e) (unlit-gone k e past heard) (unlit-reads k e past))
