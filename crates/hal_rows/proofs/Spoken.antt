-- The rules of callbacks, read of the state.
use Rattle.std.proofs.Common.{◌≡◌, ℕ, ◌==◌, Bool, true, false, ◌&&◌, ◌||◌, not, List, [], ◌∷◌, Option, Some, None, refl, sym, ap, ◌∙◌, inl, inr, map, nat_le, nat_lt, if◌then◌else◌}
use Rattle.std.specs.List.{list_any}
use Rattle.std.proofs.lemmas.Bool.{cases_Bool}
use Rattle.basic_lemmas.proofs.Lists.{any-mapped, any-or, any-agree}
use Rattle.hal_model.specs.declared.event.HalEvent.{HalEvent}
use Rattle.hal_model.specs.declared.event.HalEvent.TheVariants.{RequestOk, RequestError, Shutter, ErrorRequest, ErrorResult, ErrorBuffer, Results}
use Rattle.hal_model.specs.declared.event.Pack.TheVariants.{Entries, Empty, Absent}
use Rattle.hal_model.specs.declared.event.Returned.{Returned}
use Rattle.hal_model.specs.Callbacks.{acquire_fence, astray, buffer_order, buffer_status, callback_after_close, callback_after_failure, empty_result, ends_again, error_beside_request_error, error_for_good_buffer, error_twice, error_unknown_stream, failed_buffer_order, good_after_error, has_sound_part, is_announced_for, is_astray, is_at_device, is_back_good, is_disorderly, is_disorderly_for, is_end_error, is_fence_of, is_for, is_last_word, is_of, is_orderly, is_overtaken, is_overtaken_for, is_own_or_unknown, is_some_listed, is_wrongly_fenced, is_wrongly_filled, metadata_after_request_error, metadata_order, names_idle, not_at_device, partial_number, partial_twice, release_fence, request_error_late, shutter_after_request_error, shutter_twice, unknown_frame}
use Rattle.hal_model.specs.Words.{gives_something, has_later, has_notice, has_shutter, is_absent, is_error_in, is_error_request, is_error_result, is_failed, is_failed_buffer, is_filled, is_live, is_number, is_part, is_same_number, since, stands, targets_of}
use Rattle.hal_rows.specs.Judged.{acquire_fence_at, buffer_order_at, buffer_status_at, callback_after_close_at, callback_after_failure_at, empty_result_at, ends_again_at, error_beside_request_error_at, error_for_good_buffer_at, error_twice_at, error_unknown_stream_at, failed_buffer_order_at, good_after_error_at, is_last_word_at, is_row_announced_for, is_row_astray, is_row_back_good, is_row_disorderly, is_row_disorderly_for, is_row_for, is_row_overtaken, is_row_overtaken_for, is_row_part_seen, is_row_told_of, is_row_wrongly_fenced, is_row_wrongly_filled, metadata_after_request_error_at, metadata_order_at, names_idle_at, not_at_device_at, partial_number_at, partial_twice_at, release_fence_at, request_error_late_at, row_astray, shutter_after_request_error_at, shutter_twice_at, unknown_frame_at}
use Rattle.hal_rows.specs.Laws.{IsHeard}
use Rattle.hal_rows.specs.Row.{row_of, target_row}
use Rattle.hal_rows.specs.declared.order.Order.TheVariants.{Sound}
use Rattle.hal_rows.specs.State.{hal_state, has_filled, has_orderly, has_other, has_sound, later_at}
use Rattle.hal_rows.proofs.Brought.{filled-own, orderly-own, other-own, sound-own}
use Rattle.hal_rows.proofs.Later.{later-reads, live-begun}
use Rattle.hal_rows.proofs.Noted.{above_top, noticed}
use Rattle.hal_rows.proofs.Words.{called-is, live-is, of-live, part-reads}

-- ---- who is named

pub names-idle : (k : ℕ) (e : HalEvent) (past : List HalEvent) → names_idle k e past ≡ names_idle_at e (hal_state k past)
names-idle k (Shutter n t) past = ap not (live-is k n past)
names-idle k (ErrorRequest n) past = ap not (live-is k n past)
names-idle k (ErrorResult n) past = ap not (live-is k n past)
names-idle k (ErrorBuffer n x) past = ap not (live-is k n past)
names-idle k (Results n j pack buffers input) past = ap not (live-is k n past)
names-idle k _ past = refl

pub ends-again : (k : ℕ) (e : HalEvent) (past : List HalEvent) → ends_again e past ≡ ends_again_at e (hal_state k past)
ends-again k (RequestOk n) past = ap not (called-is k n past)
ends-again k (RequestError n error) past = ap not (called-is k n past)
ends-again k _ past = refl

last-word : (k : ℕ) (e : HalEvent) (past : List HalEvent) → is_last_word e past ≡ is_last_word_at e (hal_state k past)
last-word k (ErrorResult n) past = above_top n past
last-word k (ErrorBuffer n x) past = above_top n past
last-word k (Results n j Empty [] input) past = above_top n past
last-word k (Results n j Absent [] input) past = above_top n past
last-word k _ past = refl

pub unknown-frame : (k : ℕ) (e : HalEvent) (past : List HalEvent) → unknown_frame k e past ≡ unknown_frame_at e (hal_state k past)
unknown-frame k e past = both _ _ _ _ (names-idle k e past) (last-word k e past)
  where
    both : (a b x y : Bool) → a ≡ x → b ≡ y → (a && not b) ≡ (x && not y)
    both a b x y h i = rw (h, i) refl

pub callback-after-close : (k : ℕ) (e : HalEvent) (past : List HalEvent) → callback_after_close e past ≡ callback_after_close_at e (hal_state k past)
callback-after-close k e past = refl

pub callback-after-failure : (k : ℕ) (e : HalEvent) (past : List HalEvent) → callback_after_failure e past ≡ callback_after_failure_at e (hal_state k past)
callback-after-failure k e past = refl

-- ---- shutters and metadata

pub shutter-twice : (k : ℕ) (e : HalEvent) (past : List HalEvent) → shutter_twice k e past ≡ shutter_twice_at e (hal_state k past)
shutter-twice k (Shutter n t) past = of-live k n past (has_shutter n past) (λ r. r.shutter) (λ l. refl)
shutter-twice k _ past = refl

pub shutter-after-request-error : (k : ℕ) (e : HalEvent) (past : List HalEvent) → shutter_after_request_error k e past ≡ shutter_after_request_error_at e (hal_state k past)
shutter-after-request-error k (Shutter n t) past = of-live k n past (is_failed n past) (λ r. r.failed) (λ l. refl)
shutter-after-request-error k _ past = refl

pub empty-result : (k : ℕ) (e : HalEvent) (past : List HalEvent) → empty_result e past ≡ empty_result_at e (hal_state k past)
empty-result k (Results n j Absent [] input) past = refl
empty-result k (Results n j Absent (b ∷ buffers) input) past = refl
empty-result k _ past = refl

pub partial-number : (k : ℕ) (e : HalEvent) (past : List HalEvent) → partial_number k e past ≡ partial_number_at k e (hal_state k past)
partial-number k (Results n j Entries buffers input) past = refl
partial-number k (Results n j Empty buffers input) past = refl
partial-number k (Results n j Absent buffers input) past = refl
partial-number k _ past = refl

pub partial-twice : (k : ℕ) (e : HalEvent) (past : List HalEvent) → partial_twice k e past ≡ partial_twice_at e (hal_state k past)
partial-twice k (Results n j Entries buffers input) past = of-live k n past ((nat_lt 0 j && nat_le j k) && stands n (is_part n j) past) (is_row_part_seen j) (λ l. part-reads k j n past)
partial-twice k _ past = refl

pub metadata-after-request-error : (k : ℕ) (e : HalEvent) (past : List HalEvent) → metadata_after_request_error k e past ≡ metadata_after_request_error_at e (hal_state k past)
metadata-after-request-error k (Results n j Entries buffers input) past = of-live k n past (is_failed n past) (λ r. r.failed) (λ l. refl)
metadata-after-request-error k _ past = refl

pub metadata-order : (k : ℕ) (e : HalEvent) (past : List HalEvent) → IsHeard k past → metadata_order k e past ≡ metadata_order_at k e (hal_state k past)
metadata-order k (Results n j Entries buffers input) past heard =
    again (is_live k n past) ((j == k) && not (stands n (is_end_error n) past)) (has_later (has_sound_part k) n past)
    ∙ of-live k n past (((j == k) && not (stands n (is_end_error n) past)) && has_later (has_sound_part k) n past) (λ r. ((j == k) && not (r.result_error || r.failed)) && later_at Sound r (hal_state k past)) read
  where
    again : (a b c : Bool) → ((a && b) && c) ≡ (a && (b && c))
    again true b c = refl
    again false b c = refl

    both : (a b c x y : Bool) → b ≡ x → c ≡ y → ((a && not b) && c) ≡ ((a && not x) && y)
    both a b c x y h i = rw (h, i) refl

    read : is_live k n past ≡ true → (((j == k) && not (stands n (is_end_error n) past)) && has_later (has_sound_part k) n past) ≡ (((j == k) && not (stands n (is_error_result n) past || stands n (is_error_request n) past)) && later_at Sound (row_of k past n) (hal_state k past))
    read live = both (j == k) (stands n (is_end_error n) past) (has_later (has_sound_part k) n past) _ _ (any-or (is_error_result n) (is_error_request n) (since n past)) (later-reads k (has_sound_part k) has_sound (sound-own k) n past heard (live-begun k n past live))
metadata-order k _ past heard = refl

-- ---- buffers

at-device : (k n : ℕ) (past : List HalEvent) (r : Returned) → is_at_device n past r ≡ list_any (λ t. is_of t.target r && not t.back) (map (target_row n past) (targets_of n past))
at-device k n past r = sym (any-mapped (λ t. is_of t.target r && not t.back) (target_row n past) (targets_of n past))

astray-one : (k n : ℕ) (past : List HalEvent) (earlier : List Returned) (r : Returned) → is_astray n past earlier r ≡ is_row_astray (row_of k past n) earlier r
astray-one k n past earlier r = ap (λ c. not c || list_any (λ q. is_same_number q.buffer r.buffer) earlier) (at-device k n past r)

pub astray-reads : (k n : ℕ) (past : List HalEvent) (earlier buffers : List Returned) → astray n past earlier buffers ≡ row_astray (row_of k past n) earlier buffers
astray-reads k n past earlier [] = refl
astray-reads k n past earlier (r ∷ buffers) = by (is_astray n past earlier r) _ (astray-one k n past earlier r) (astray-reads k n past (r ∷ earlier) buffers)
  where
    by : (a b : Bool) → a ≡ b → astray n past (r ∷ earlier) buffers ≡ row_astray (row_of k past n) (r ∷ earlier) buffers → (if a then r.stream ∷ astray n past (r ∷ earlier) buffers else astray n past (r ∷ earlier) buffers) ≡ (if b then r.stream ∷ row_astray (row_of k past n) (r ∷ earlier) buffers else row_astray (row_of k past n) (r ∷ earlier) buffers)
    by a b h ih = rw (h, ih) refl

pub not-at-device : (k : ℕ) (e : HalEvent) (past : List HalEvent) → not_at_device k e past ≡ not_at_device_at e (hal_state k past)
not-at-device k (Results n j pack buffers input) past = of-live k n past (is_some_listed (astray n past [] buffers)) (λ r. is_some_listed (row_astray r [] buffers)) (λ l. ap is_some_listed (astray-reads k n past [] buffers))
not-at-device k _ past = refl

pub buffer-status : (k : ℕ) (e : HalEvent) (past : List HalEvent) → buffer_status e past ≡ buffer_status_at e (hal_state k past)
buffer-status k (Results n j pack buffers input) past = refl
buffer-status k _ past = refl

overtaken-for : (k n : ℕ) (past : List HalEvent) → IsHeard k past → is_live k n past ≡ true → (x : Option ℕ) → is_overtaken_for n past x ≡ is_row_overtaken_for (hal_state k past) (row_of k past n) x
overtaken-for k n past heard live (Some s) = later-reads k _ (has_filled s) (filled-own k s) n past heard (live-begun k n past live)
overtaken-for k n past heard live None = refl

pub overtaken : (k n : ℕ) (past : List HalEvent) → IsHeard k past → is_live k n past ≡ true → (r : Returned) → is_overtaken n past r ≡ is_row_overtaken (hal_state k past) (row_of k past n) r
overtaken k n past heard live r = ap (λ c. is_filled r && c) (overtaken-for k n past heard live r.stream)

pub buffer-order : (k : ℕ) (e : HalEvent) (past : List HalEvent) → IsHeard k past → buffer_order k e past ≡ buffer_order_at e (hal_state k past)
buffer-order k (Results n j pack buffers input) past heard =
    of-live k n past (list_any (is_overtaken n past) buffers) (λ r. list_any (is_row_overtaken (hal_state k past) r) buffers)
    (λ live. any-agree (is_overtaken n past) (is_row_overtaken (hal_state k past) (row_of k past n)) buffers (overtaken k n past heard live))
buffer-order k _ past heard = refl

disorderly-for : (k n : ℕ) (past : List HalEvent) → IsHeard k past → is_live k n past ≡ true → (r : Returned) (x : Option ℕ) → is_disorderly_for n past r x ≡ is_row_disorderly_for (hal_state k past) (row_of k past n) r x
disorderly-for k n past heard live r (Some s) =
    elim (cases_Bool (is_filled r)) [
      | inl filled ↦ rw filled (later-reads k _ (has_other s) (other-own k s) n past heard (live-begun k n past live))
      | inr not-filled ↦ rw not-filled (later-reads k _ (has_orderly s) (orderly-own k s) n past heard (live-begun k n past live))
    ]
disorderly-for k n past heard live r None = refl

pub disorderly : (k n : ℕ) (past : List HalEvent) → IsHeard k past → is_live k n past ≡ true → (r : Returned) → is_disorderly n past r ≡ is_row_disorderly (hal_state k past) (row_of k past n) r
disorderly k n past heard live r = ap (λ c. is_orderly past r && c) (disorderly-for k n past heard live r r.stream)

pub failed-buffer-order : (k : ℕ) (e : HalEvent) (past : List HalEvent) → IsHeard k past → failed_buffer_order k e past ≡ failed_buffer_order_at e (hal_state k past)
failed-buffer-order k (Results n j pack buffers input) past heard =
    of-live k n past (list_any (is_disorderly n past) buffers) (λ r. list_any (is_row_disorderly (hal_state k past) r) buffers)
    (λ live. any-agree (is_disorderly n past) (is_row_disorderly (hal_state k past) (row_of k past n)) buffers (disorderly k n past heard live))
failed-buffer-order k _ past heard = refl

announced-for : (k n : ℕ) (past : List HalEvent) (x : Option ℕ) → is_announced_for n past x ≡ is_row_announced_for (row_of k past n) x
announced-for k n past (Some s) = noticed n s past
announced-for k n past None = refl

pub wrongly-filled : (k n : ℕ) (past : List HalEvent) (r : Returned) → is_wrongly_filled n past r ≡ is_row_wrongly_filled (row_of k past n) r
wrongly-filled k n past r = ap (λ c. is_filled r && (is_failed n past || c)) (announced-for k n past r.stream)

pub good-after-error : (k : ℕ) (e : HalEvent) (past : List HalEvent) → good_after_error k e past ≡ good_after_error_at e (hal_state k past)
good-after-error k (Results n j pack buffers input) past =
    of-live k n past (list_any (is_wrongly_filled n past) buffers) (λ r. list_any (is_row_wrongly_filled r) buffers)
    (λ live. any-agree (is_wrongly_filled n past) (is_row_wrongly_filled (row_of k past n)) buffers (wrongly-filled k n past))
good-after-error k _ past = refl

pub acquire-fence : (k : ℕ) (e : HalEvent) (past : List HalEvent) → acquire_fence e past ≡ acquire_fence_at e (hal_state k past)
acquire-fence k (Results n j pack buffers input) past = refl
acquire-fence k _ past = refl

pub wrongly-fenced : (k n : ℕ) (past : List HalEvent) (r : Returned) → is_wrongly_fenced n past r ≡ is_row_wrongly_fenced (row_of k past n) r
wrongly-fenced k n past r =
    ap (λ c. is_failed_buffer r && (not (is_absent r.release) && not c))
    (sym (any-mapped (λ t. is_number t.target.buffer r.buffer && is_fence_of r.release t.target.fence) (target_row n past) (targets_of n past)))

pub release-fence : (k : ℕ) (e : HalEvent) (past : List HalEvent) → release_fence k e past ≡ release_fence_at e (hal_state k past)
release-fence k (Results n j pack buffers input) past =
    of-live k n past (list_any (is_wrongly_fenced n past) buffers) (λ r. list_any (is_row_wrongly_fenced r) buffers)
    (λ live. any-agree (is_wrongly_fenced n past) (is_row_wrongly_fenced (row_of k past n)) buffers (wrongly-fenced k n past))
release-fence k _ past = refl

-- ---- errors

told-of : (k n : ℕ) (past : List HalEvent) (x : Option ℕ) → (is_own_or_unknown n past x && has_notice n x past) ≡ is_row_told_of x (row_of k past n)
told-of k n past (Some s) = both _ _ _ _ (sym (any-mapped (is_row_for (Some s)) (target_row n past) (targets_of n past))) (noticed n s past)
  where
    both : (a b x y : Bool) → a ≡ x → b ≡ y → (a && b) ≡ (x && y)
    both a b x y h i = rw (h, i) refl
told-of k n past None = refl

pub error-twice : (k : ℕ) (e : HalEvent) (past : List HalEvent) → error_twice k e past ≡ error_twice_at e (hal_state k past)
error-twice k (ErrorRequest n) past = of-live k n past (is_failed n past) (λ r. r.failed) (λ l. refl)
error-twice k (ErrorResult n) past = of-live k n past (stands n (is_error_result n) past) (λ r. r.result_error) (λ l. refl)
error-twice k (ErrorBuffer n x) past = of-live k n past (is_own_or_unknown n past x && has_notice n x past) (is_row_told_of x) (λ l. told-of k n past x)
error-twice k _ past = refl

pub error-beside-request-error : (k : ℕ) (e : HalEvent) (past : List HalEvent) → error_beside_request_error k e past ≡ error_beside_request_error_at e (hal_state k past)
error-beside-request-error k (ErrorResult n) past = of-live k n past (is_failed n past) (λ r. r.failed) (λ l. refl)
error-beside-request-error k (ErrorBuffer n x) past = of-live k n past (is_failed n past) (λ r. r.failed) (λ l. refl)
error-beside-request-error k _ past = refl

pub request-error-late : (k : ℕ) (e : HalEvent) (past : List HalEvent) → request_error_late k e past ≡ request_error_late_at e (hal_state k past)
request-error-late k (ErrorRequest n) past = of-live k n past (stands n (gives_something n) past || stands n (is_error_in n) past) (λ r. r.something || r.part_error) (λ l. refl)
request-error-late k _ past = refl

pub error-for-good-buffer : (k : ℕ) (e : HalEvent) (past : List HalEvent) → error_for_good_buffer k e past ≡ error_for_good_buffer_at e (hal_state k past)
error-for-good-buffer k (ErrorBuffer n x) past =
    of-live k n past (is_back_good n past x) (is_row_back_good x) (λ l. sym (any-mapped (λ t. is_row_for x t && t.good) (target_row n past) (targets_of n past)))
error-for-good-buffer k _ past = refl

pub error-unknown-stream : (k : ℕ) (e : HalEvent) (past : List HalEvent) → error_unknown_stream k e past ≡ error_unknown_stream_at e (hal_state k past)
error-unknown-stream k (ErrorBuffer n x) past =
    of-live k n past (not (list_any (is_for x) (targets_of n past))) (λ r. not (list_any (is_row_for x) r.targets)) (λ l. ap not (sym (any-mapped (is_row_for x) (target_row n past) (targets_of n past))))
error-unknown-stream k _ past = refl
