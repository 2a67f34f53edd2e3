-- Every callback is of a live request, where the framework keeps frame numbers.
use Rattle.std.proofs.Common.{◌≡◌, ℕ, zero, suc, ◌==◌, ◌+◌, Bool, true, false, ◌&&◌, ◌||◌, not, nat_lt, if◌then◌else◌, List, [], ◌∷◌, ◌++◌, length, Option, Some, None, is_some, refl, sym, ap, ◌∙◌, inl, inr, arith}
use Rattle.std.specs.Prelude.{slice_get}
use Rattle.std.specs.List.{list_any}
use Rattle.std.specs.Option.{option_map}
use Rattle.std.proofs.lemmas.Bool.{and_parts, cases_Bool, eqb-true, false≢true}
use Rattle.std.proofs.lemmas.Bool.Decides.{nat_tests}
use Rattle.basic_lemmas.proofs.Lists.{any-where, find-mapped}
use Rattle.cam_types.specs.Rows.{awaits_metadata}
use Rattle.cam_types.specs.declared.item.Settings.{Settings}
use Rattle.cam_types.specs.declared.number.StreamIx.{StreamIx}
use Rattle.cam_types.specs.declared.partial_result.PartialResult.{PartialResult}
use Rattle.cam_types.specs.declared.profile.Profile.{Profile}
use Rattle.cam_types.specs.declared.row.RowView.{RowView}
use Rattle.cam_types.specs.declared.row.TargetState.TheVariants.{Waiting}
use Rattle.cam_types.specs.declared.row.TargetView.{TargetView}
use Rattle.cam_types.specs.declared.script.Fault.{Fault}
use Rattle.device_rows.specs.Ready.{is_delivery_ready, is_same_state, may_deliver as may_deliver_row, may_return_failed as may_return_failed_row}
use Rattle.device_rows.specs.Rows.{all_stopped, delivered, exposed, fill_begun, fill_ended, returned_failed, row_at, sensor_home, target_in, with_error, with_part, with_row}
use Rattle.device_core.proofs.Ops.{met}
use Rattle.device_rows.specs.declared.entry.ErrorEntry.{ErrorEntry}
use Rattle.device_rows.specs.declared.entry.ErrorEntry.TheVariants.{Request as LostRequest, Result as LostResult, Buffer as LostBuffer, Device as LostDevice}
use Rattle.hal_device_model.proofs.Apart.{speaks}
use Rattle.hal_device_model.proofs.Errors.{Told, told}
use Rattle.hal_device_model.proofs.Found.{Each, each_changed, found_more}
use Rattle.hal_device_model.proofs.Lives.{RowLives, awaiting_live, each_settled, holding_live, lives_beside, lives_ended, lives_fresh, lives_moved, lives_on}
use Rattle.hal_device_model.proofs.Steps.{delivery_good, failed_out, next_dark, next_sends, stands_below}
use Rattle.hal_device_model.proofs.Whole.{Sound, all_sound, keeps_them, other_frame, own_frame, same_row, target_of, turned, well_formed}
use Rattle.hal_device_model.specs.Law.{KeepsJudged, breaks_one, is_judged, kept_rules}
use Rattle.hal_device_model.specs.Calls.{after_delivery, after_error, after_failed_return, after_fill, are_bad_settings, are_bad_targets, close_begun, configure_error, configured, end_error, ended, error_in, error_rows, exposed_rows, exposure_in, flush_begun, flush_error, fresh_row, has_length, has_to_wait, initialize_error, initialized, is_early, is_malformed, is_no_row, is_over, may_deliver, may_fill, may_return_failed, part_in, request_error, requested, requested_with, sent_rows, settings_of}
use Rattle.hal_device_model.specs.Log.{HalCall, Initialize, Configure, Request, Expose, SendPart, Fill, Deliver, TellError, ReturnFailed, BeginFlush, EndFlush, BeginClose, acquire_fence_of, after_call, called, error_event, error_of, events_of, failed_of, flush_begin_of, flush_end_of, good_of, hal_error, is_no_settings, log_of, part_of, shutter_of, state_after, unless, whole_log}
use Rattle.hal_device_model.specs.State.{HalDeviceState, opened, streams_in}
use Rattle.hal_device_model.specs.declared.error.CallError.{CallError}
use Rattle.hal_device_model.specs.declared.error.CallError.TheVariants.{InvalidArgument, NoDevice, WrongSequence, NoMemory, Busy}
use Rattle.hal_model.specs.Callbacks.{ends_again, heard, names_idle}
use Rattle.hal_model.specs.Framework.{frame_number}
use Rattle.hal_model.specs.Rules.{breaks_in_session, keeps, keeps_in_session, keeps_with}
use Rattle.hal_model.specs.Words.{accepts, accepts_from, frames, is_in_call, is_live, is_open_ok, is_point, session}
use Rattle.hal_model.specs.declared.event.HalError.{HalError}
use Rattle.hal_model.specs.declared.event.HalEvent.{HalEvent}
use Rattle.hal_model.specs.declared.event.HalEvent.TheVariants.{OpenBegin, OpenOk, InitBegin, InitOk, InitError, ConfigureBegin, ConfigureOk, ConfigureError, RequestBegin, RequestOk, RequestError, Shutter, ErrorRequest, ErrorResult, ErrorBuffer, ErrorDevice, Results, FlushBegin, FlushOk, FlushError, CloseBegin}
use Rattle.hal_model.specs.declared.event.HalFence.TheVariants.{Absent as NoFence}
use Rattle.hal_model.specs.declared.event.HalTarget.{HalTarget}
use Rattle.hal_model.specs.declared.event.Pack.TheVariants.{Entries}
use Rattle.hal_model.specs.declared.event.Status.TheVariants.{Filled as Okay, Failed as Faulty}
use Rattle.hal_model.specs.declared.rule.Rule.{Rule}
use Rattle.hal_model.specs.declared.rule.Rule.TheVariants.{FrameNumber, UnknownFrame, ShutterTwice, ShutterAfterRequestError, EmptyResult, PartialNumber, PartialTwice, MetadataAfterRequestError, NotAtDevice, BufferStatus, GoodAfterError, AcquireFence, ReleaseFence, ErrorTwice, ErrorBesideRequestError, ErrorUnknownStream, CallbackAfterClose}
use Rattle.device_rows.specs.Marks.{marked}
use Rattle.device_rows.specs.declared.mark.Mark.TheVariants.{Announced, RequestError as MarkRequest, ResultError as MarkResult, Stopped}
use Rattle.device_rows.specs.Order.{each_below, holds_back}
use Rattle.hal_model.specs.Hal.{gives_back, most_from, streams_from}
use Rattle.basic_lemmas.proofs.Tests.{not-true, own-number, or-first, or-second}

abbrev numbered : List HalEvent → Bool
numbered log = keeps_in_session 3 log FrameNumber

-- each callback is of a live request, and each call returns once
abbrev named : List HalEvent → Bool
named log = keeps_with (names_idle 3) log

abbrev once : List HalEvent → Bool
once log = keeps_with ends_again log

abbrev Alive : List HalEvent → List RowView → Type 0
Alive past rows = Each (λ n row. RowLives n past row) rows

-- what a call leaves, where the frame numbers were kept
record Stays (after : HalDeviceState) (events past : List HalEvent) : Type 0 where
  alive : Alive (events ++ past) after.device.rows
  known : named past ≡ true → named (events ++ past) ≡ true
  returned : once past ≡ true → once (events ++ past) ≡ true

quiet : (s : HalDeviceState) (past : List HalEvent) → Alive past s.device.rows → Stays s [] past
quiet s past l = record { alive = l; known = λ h. h; returned = λ h. h }

one : (s : HalDeviceState) (e : HalEvent) (past : List HalEvent) → Alive (e ∷ past) s.device.rows → names_idle 3 e past ≡ false → ends_again e past ≡ false → Stays s (e ∷ []) past
one s e past l idle again = record { alive = l; known = λ h. rw (idle, h) refl; returned = λ h. rw (again, h) refl }

two : (s : HalDeviceState) (e f : HalEvent) (past : List HalEvent) → Alive (e ∷ f ∷ past) s.device.rows → names_idle 3 e (f ∷ past) ≡ false → names_idle 3 f past ≡ false → ends_again e (f ∷ past) ≡ false → ends_again f past ≡ false → Stays s (e ∷ f ∷ []) past
two s e f past l idle idle' again again' = record { alive = l; known = λ h. rw (idle, idle', h) refl; returned = λ h. rw (again, again', h) refl }

beside : (e : HalEvent) (past : List HalEvent) (rows : List RowView) → ((n : ℕ) → speaks n e ≡ false) → is_point e ≡ false → Alive past rows → Alive (e ∷ past) rows
beside e past rows silent point l n row at = lives_beside n e past row (silent n) point (l n row at)

beside-two : (e f : HalEvent) (past : List HalEvent) (rows : List RowView) → ((n : ℕ) → speaks n e ≡ false) → ((n : ℕ) → speaks n f ≡ false) → is_point e ≡ false → is_point f ≡ false → Alive past rows → Alive (e ∷ f ∷ past) rows
beside-two e f past rows silent silent' point point' l = beside e (f ∷ past) rows silent point (beside f past rows silent' point' l)

-- ---- calls of no frame

initialize-stays : (s : HalDeviceState) (past : List HalEvent) (o : Option CallError) → Alive past s.device.rows → Stays (unless o (initialized s) s) (called InitBegin InitOk (λ error. InitError error) o) past
initialize-stays s past None l = two (initialized s) InitOk InitBegin past (beside-two InitOk InitBegin past s.device.rows (λ n. refl) (λ n. refl) refl refl l) refl refl refl refl
initialize-stays s past (Some Busy) l = quiet s past l
initialize-stays s past (Some error) l = two s (InitError (hal_error error)) InitBegin past (beside-two (InitError (hal_error error)) InitBegin past s.device.rows (λ n. refl) (λ n. refl) refl refl l) refl refl refl refl

configure-stays : (s : HalDeviceState) (specs' : HalDeviceState) (b o' : HalEvent) (past : List HalEvent) (o : Option CallError) → specs'.device.rows ≡ s.device.rows → ((n : ℕ) → speaks n b ≡ false) → ((n : ℕ) → speaks n o' ≡ false) → is_point b ≡ false → is_point o' ≡ false → names_idle 3 b past ≡ false → ((f : HalEvent) → names_idle 3 o' (f ∷ past) ≡ false) → ends_again b past ≡ false → ((f : HalEvent) → ends_again o' (f ∷ past) ≡ false) → Alive past s.device.rows → Stays (unless o specs' s) (called b o' (λ error. ConfigureError error) o) past
configure-stays s after b ok past None same q q' p p' u u' a a' l = two after ok b past (rw same (beside-two ok b past s.device.rows q' q p' p l)) (u' b) u (a' b) a
configure-stays s after b ok past (Some Busy) same q q' p p' u u' a a' l = quiet s past l
configure-stays s after b ok past (Some error) same q q' p p' u u' a a' l = two s (ConfigureError (hal_error error)) b past (beside-two (ConfigureError (hal_error error)) b past s.device.rows (λ n. refl) q refl p l) refl u refl a

stopped-alive : (past : List HalEvent) (rows : List RowView) → Alive past rows → Alive past (all_stopped rows)
stopped-alive past rows l n row at = by (row_at n rows) refl (sym (find-mapped (λ row'. row'.frame.0 == n) (marked Stopped) rows) ∙ at)
  where
    by : (o : Option RowView) → row_at n rows ≡ o → option_map (marked Stopped) o ≡ Some row → RowLives n past row
    by (Some r) is g =
        let same : marked Stopped r ≡ row = cc in
        rw (← same) (lives_moved n past r (marked Stopped r) refl refl (λ d. d) (l n r is))
    by None is g = absurd (cc)

flush-stays : (s : HalDeviceState) (past : List HalEvent) (o : Option CallError) → Alive past s.device.rows → Stays (unless o (flush_begun s) s) (flush_begin_of o) past
flush-stays s past None l = one (flush_begun s) FlushBegin past (beside FlushBegin past (all_stopped s.device.rows) (λ n. refl) refl (stopped-alive past s.device.rows l)) refl refl
flush-stays s past (Some Busy) l = quiet s past l
flush-stays s past (Some error) l = two s (FlushError (hal_error error)) FlushBegin past (beside-two (FlushError (hal_error error)) FlushBegin past s.device.rows (λ n. refl) (λ n. refl) refl refl l) refl refl refl refl

-- a flush ends where no row stands
none-left : (flushing none : Bool) → (if not flushing then Some WrongSequence else (if not none then Some Busy else None)) ≡ None → none ≡ true
none-left false none h = absurd (cc)
none-left true false h = absurd (cc)
none-left true true h = refl

no-row : (rows : List RowView) (past : List HalEvent) → (length rows == 0) ≡ true → Alive past rows
no-row [] past h n row at = absurd (cc)
no-row (r ∷ rows) past h n row at = absurd (grind (arith, nat_tests, h))

flush-end-stays : (s : HalDeviceState) (past : List HalEvent) (o : Option CallError) → end_error s ≡ o → Alive past s.device.rows → Stays (unless o (ended s) s) (flush_end_of o) past
flush-end-stays s past None at l = one (ended s) FlushOk past (no-row s.device.rows (FlushOk ∷ past) (none-left s.flushing (is_no_row s.device.rows) at)) refl refl
flush-end-stays s past (Some error) at l = quiet s past l

-- ---- requests

accepted-from : (n : ℕ) (past : List HalEvent) → list_any (accepts n) past ≡ true → list_any (accepts_from n) past ≡ true
accepted-from n past h = any-where (accepts n) (accepts_from n) past (λ e a. each e a) h
  where
    number : (m : ℕ) → (m == n) ≡ true → not (nat_lt m n) ≡ true
    number m g = grind (arith, nat_tests, g)

    each : (e : HalEvent) → accepts n e ≡ true → accepts_from n e ≡ true
    each (RequestOk m) a = number m a
    each _ a = absurd (false≢true a)

-- the number of a row that stands isn't begun again
not-again : (n m : ℕ) (same : Bool) (targets : List HalTarget) (past : List HalEvent) (row : RowView) → frame_number (RequestBegin n same targets false false) past ≡ false → RowLives m past row → (m == n) ≡ true → ⊥
not-again n m same targets past row new l is =
    let from = accepted-from n past (ap (λ (i : ℕ). list_any (accepts i) past) (sym (eqb-true m n is)) ∙ l.accepted) in
    false≢true (sym (or-first (list_any (accepts_from n) past) (list_any (λ i. is_in_call i past && not (nat_lt i n)) (frames past)) new) ∙ from)

refused-alive : (n : ℕ) (error : HalError) (same : Bool) (targets : List HalTarget) (past : List HalEvent) (rows : List RowView) → frame_number (RequestBegin n same targets false false) past ≡ false → Alive past rows → Alive (RequestError n error ∷ RequestBegin n same targets false false ∷ past) rows
refused-alive n error same targets past rows new l m row at =
    elim (cases_Bool (m == n)) [
      | inl here ↦ absurd (not-again n m same targets past row new (l m row at) here)
      | inr other ↦ (
          let q = turned m n other in
          lives_beside m (RequestError n error) (RequestBegin n same targets false false ∷ past) row q refl
          (lives_beside m (RequestBegin n same targets false false) past row q refl (l m row at))
          )
    ]

-- a request that has just begun is in call
in-call : (n : ℕ) (same : Bool) (targets : List HalTarget) (past : List HalEvent) → not (is_in_call n (RequestBegin n same targets false false ∷ past)) ≡ false
in-call n same targets past = rw (own-number n) refl

-- the begin's number is new
begin-new : (n : ℕ) (same : Bool) (targets : List HalTarget) (past : List HalEvent) → (not (frame_number (RequestBegin n same targets false false) past) && numbered past) ≡ true → frame_number (RequestBegin n same targets false false) past ≡ false
begin-new n same targets past h = by (frame_number (RequestBegin n same targets false false) past) (and_parts (not (frame_number (RequestBegin n same targets false false) past)) (numbered past) h).0
  where
    by : (b : Bool) → not b ≡ true → b ≡ false
    by true g = absurd (false≢true g)
    by false g = refl

refused-stays : (s : HalDeviceState) (n : ℕ) (error : HalError) (same : Bool) (targets : List HalTarget) (past : List HalEvent) → frame_number (RequestBegin n same targets false false) past ≡ false → Alive past s.device.rows → Stays s (RequestError n error ∷ RequestBegin n same targets false false ∷ []) past
refused-stays s n error same targets past new l = two s (RequestError n error) (RequestBegin n same targets false false) past (refused-alive n error same targets past s.device.rows new l) refl refl (in-call n same targets past) refl

accepted-stays : (s : HalDeviceState) (n : ℕ) (same : Bool) (x : Settings) (targets : List HalTarget) (past : List HalEvent) → Sound s past → nat_lt n s.next ≡ false → Alive past s.device.rows → Stays (requested n x targets s) (RequestOk n ∷ RequestBegin n same targets false false ∷ []) past
accepted-stays s n same x targets past k new l = two (requested n x targets s) (RequestOk n) (RequestBegin n same targets false false) past alive refl refl (in-call n same targets past) refl
  where
    alive : Alive (RequestOk n ∷ RequestBegin n same targets false false ∷ past) (s.device.rows ++ fresh_row n x targets ∷ [])
    alive m row at = elim (found_more (λ (r : RowView). r.frame.0 == m) s.device.rows (fresh_row n x targets) row at) [
      | inl old ↦ (
          let q = other_frame m n (stands_below s.next n m s.device.rows row k.rows.before new old) in
          lives_beside m (RequestOk n) (RequestBegin n same targets false false ∷ past) row q refl
          (lives_beside m (RequestBegin n same targets false false) past row q refl (l m row old))
          )
      | inr last ↦ (
          let is : n ≡ m = eqb-true n m last.0 in
          rw (← last.1, ← is) (lives_fresh n same targets past (fresh_row n x targets) refl)
          )
    ]

request-stays : (s : HalDeviceState) (n : ℕ) (settings : Option Settings) (targets : List HalTarget) (past : List HalEvent) → Sound s past → Alive past s.device.rows → (o : Option CallError) → request_error n settings targets s ≡ o → (numbered (called (RequestBegin n (is_no_settings settings) targets false false) (RequestOk n) (λ error. RequestError n error) o ++ past) ≡ true) → Stays (unless o (requested_with n (settings_of settings s.last) targets s) s) (called (RequestBegin n (is_no_settings settings) targets false false) (RequestOk n) (λ error. RequestError n error) o) past
request-stays s n settings targets past k l None at num =
    let formed = well_formed (is_over s) (is_early s) (is_malformed n settings targets s) (has_to_wait targets s) at in
    let new = or-first (nat_lt n s.next) (are_bad_targets (length (streams_in s)) targets || are_bad_settings (settings_of settings s.last)) formed in
    let rest = or-second (nat_lt n s.next) (are_bad_targets (length (streams_in s)) targets || are_bad_settings (settings_of settings s.last)) formed in
    let set = or-second (are_bad_targets (length (streams_in s)) targets) (are_bad_settings (settings_of settings s.last)) rest in
    by (settings_of settings s.last) new set
  where
    by : (x : Option Settings) → nat_lt n s.next ≡ false → are_bad_settings x ≡ false → Stays (requested_with n x targets s) (RequestOk n ∷ RequestBegin n (is_no_settings settings) targets false false ∷ []) past
    by (Some x) new set = accepted-stays s n (is_no_settings settings) x targets past k new l
    by None new set = absurd (false≢true (sym set))
request-stays s n settings targets past k l (Some Busy) at num = quiet s past l
request-stays s n settings targets past k l (Some error) at num = refused-stays s n (hal_error error) (is_no_settings settings) targets past (begin-new n (is_no_settings settings) targets past num) l

-- ---- steps

live-known : (live : Bool) → live ≡ true → not live ≡ false
live-known live h = rw h refl

expose-stays : (s : HalDeviceState) (time : ℕ) (past : List HalEvent) → Sound s past → Alive past s.device.rows → (o : Option RowView) → exposure_in s ≡ o → Stays (record s { device = record s.device { rows = exposed_rows time o s.device.rows } }) (shutter_of o time) past
expose-stays s time past k l None at = quiet s past l
expose-stays s time past k l (Some row) at =
    let n = row.frame.0 in
    let d = next_dark s.device.faults s.device.rows row k.rows.order at in
    let own = l n row d.found in
    let e = Shutter n time in
    let lit : Alive (e ∷ past) (with_row n (exposed time) s.device.rows) = each_changed (λ m r. RowLives m (e ∷ past) r) n (exposed time) s.device.rows (λ r. refl)
    (λ r is. lives_on n e past r (exposed time r) (record { begins = refl; refuses = refl; point = refl; last = refl; result = refl; request = refl }) (λ x. x) (λ dark. absurd (false≢true (sym dark))) (l n r is))
    (λ m r other is. lives_beside m e past r (turned m n other) refl (l m r is)) in
    let home : Alive (e ∷ past) (with_row n sensor_home (with_row n (exposed time) s.device.rows)) = each_changed (λ m r. RowLives m (e ∷ past) r) n sensor_home (with_row n (exposed time) s.device.rows) (λ r. refl)
    (λ r is. lives_moved n (e ∷ past) r (sensor_home r) refl refl (λ dark. dark) (lit n r is)) (λ m r other is. lit m r is) in
    one (record s { device = record s.device { rows = exposed_rows time (Some row) s.device.rows } }) e past home (live-known (is_live 3 n past) (awaiting_live n past row own (own.dark d.dark d.sound))) refl

not-last : (n k p : ℕ) → k ≡ p + 1 → nat_lt k 3 ≡ true → ((n == n) && not (nat_lt 0 k && nat_lt k 3)) ≡ false
not-last n k p is few = grind (arith, nat_tests, is, few)

no-more : (few a : Bool) → few ≡ false → (few && a) ≡ false
no-more few a h = rw h refl

part-stays : (s : HalDeviceState) (n : ℕ) (past : List HalEvent) → Sound s past → Alive past s.device.rows → (o : Option (ℕ × PartialResult)) → part_in n s ≡ o → Stays (record s { device = record s.device { rows = sent_rows n o s.device.rows } }) (part_of n o) past
part-stays s n past k l None at = quiet s past l
part-stays s n past k l (Some sent) at =
    let d = next_sends s.device.faults s.device.rows n sent at in
    let e = Results n sent.0 Entries [] false in
    let own : (r : RowView) → row_at n s.device.rows ≡ Some r → RowLives n (e ∷ past) (with_part sent.0 r) = λ r is. (
    let same = same_row n s.device.rows d.row r d.found is in
    rw same (by d.row d.lit d.awaits d.number (nat_lt sent.0 3) refl (l n d.row d.found))
    ) in
    let moved : Alive (e ∷ past) (with_row n (with_part sent.0) s.device.rows) = each_changed (λ m r. RowLives m (e ∷ past) r) n (with_part sent.0) s.device.rows (λ r. refl) own (λ m r other is. lives_beside m e past r (turned m n other) refl (l m r is)) in
    one (record s { device = record s.device { rows = sent_rows n (Some sent) s.device.rows } }) e past
    (each_settled (λ m r. RowLives m (e ∷ past) r) n (with_row n (with_part sent.0) s.device.rows) moved)
    (live-known (is_live 3 n past) (awaiting_live n past d.row (l n d.row d.found) d.awaits)) refl
  where
    by : (r : RowView) → is_some r.shutter ≡ true → awaits_metadata r ≡ true → sent.0 ≡ r.parts + 1 → (b : Bool) → nat_lt sent.0 3 ≡ b → RowLives n past r → RowLives n (Results n sent.0 Entries [] false ∷ past) (with_part sent.0 r)
    by r lit awaits number true few own =
        lives_on n (Results n sent.0 Entries [] false) past r (with_part sent.0 r) (record { begins = refl; refuses = refl; point = refl; last = not-last n sent.0 r.parts number few; result = refl; request = refl }) (λ x. awaits) (λ dark. absurd (false≢true (sym dark ∙ lit))) own
    by r lit awaits number false few own =
        lives_ended n (Results n sent.0 Entries [] false) past r (with_part sent.0 r) refl refl refl (no-more (nat_lt sent.0 3) (not r.result_error && not r.request_error) few) (λ dark. absurd (false≢true (sym dark ∙ lit))) own

fill-stays : (s : HalDeviceState) (n : ℕ) (t : StreamIx) (past : List HalEvent) → Alive past s.device.rows → (b : Bool) → Stays (if b then after_fill n t s else s) [] past
fill-stays s n t past l false = quiet s past l
fill-stays s n t past l true = quiet (after_fill n t s) past moved
  where
    begun : Alive past (with_row n (fill_begun t) s.device.rows)
    begun = each_changed (λ m r. RowLives m past r) n (fill_begun t) s.device.rows (λ r. refl) (λ r is. lives_moved n past r (fill_begun t r) refl refl (λ dark. dark) (l n r is)) (λ m r other is. l m r is)

    moved : Alive past (with_row n (fill_ended t) (with_row n (fill_begun t) s.device.rows))
    moved = each_changed (λ m r. RowLives m past r) n (fill_ended t) (with_row n (fill_begun t) s.device.rows) (λ r. refl) (λ r is. lives_moved n past r (fill_ended t r) refl refl (λ dark. dark) (begun n r is)) (λ m r other is. begun m r is)

good-stays : (s : HalDeviceState) (n : ℕ) (t : StreamIx) (past : List HalEvent) → Sound s past → Alive past s.device.rows → is_delivery_ready s.device.faults s.device.rows n t.0 ≡ true → Stays (after_delivery n t s) (good_of n t.0 (target_in n t.0 s.device.rows)) past
good-stays s n t past k l ready =
    let (row, target, m) = met (may_deliver_row s.device.faults s.device.rows) t.0 (row_at n s.device.rows) ready in
    let g = delivery_good s.device.faults s.device.rows row target (each_below row.frame.0 (λ other. not (holds_back target.stream.0 other)) s.device.rows) m.passed in
    let f = k.rows.fits n row m.at in
    let own = l n row m.at in
    let e = gives_back n t.0 target.buffer.0 Okay NoFence in
    let moved : Alive (e ∷ past) (with_row n (delivered t) s.device.rows) = each_changed (λ i r. RowLives i (e ∷ past) r) n (delivered t) s.device.rows (λ r. refl)
    (λ r is. lives_on n e past r (delivered t r) (record { begins = refl; refuses = refl; point = refl; last = refl; result = refl; request = refl }) (λ x. x) (l n r is).dark (l n r is))
    (λ i r other is. lives_beside i e past r (turned i n other) refl (l i r is)) in
    rw (target_of n t.0 s.device.rows row target m.at m.found)
    (one (after_delivery n t s) e past (each_settled (λ i r. RowLives i (e ∷ past) r) n (with_row n (delivered t) s.device.rows) moved)
    (live-known (is_live 3 n past) (holding_live n t.0 target.buffer.0 past row own (f.named own.unrefused t.0 target m.found) (f.back t.0 target m.found g.out))) refl)

deliver-stays : (s : HalDeviceState) (n : ℕ) (t : StreamIx) (room : ℕ) (past : List HalEvent) → Sound s past → Alive past s.device.rows → (b : Bool) → may_deliver n t.0 room s ≡ b → Stays (if b then after_delivery n t s else s) (if b then good_of n t.0 (target_in n t.0 s.device.rows) else []) past
deliver-stays s n t room past k l false at = quiet s past l
deliver-stays s n t room past k l true at = good-stays s n t past k l (and_parts (has_length room (slice_get (streams_in s) t.0)) (is_delivery_ready s.device.faults s.device.rows n t.0) at).1

failed-stays : (s : HalDeviceState) (n : ℕ) (t : StreamIx) (past : List HalEvent) → Sound s past → Alive past s.device.rows → (b : Bool) → may_return_failed n t.0 s ≡ b → Stays (if b then after_failed_return n t s else s) (if b then failed_of n t.0 (target_in n t.0 s.device.rows) past else []) past
failed-stays s n t past k l false at = quiet s past l
failed-stays s n t past k l true at =
    let (row, target, m) = met may_return_failed_row t.0 (row_at n s.device.rows) at in
    let f = k.rows.fits n row m.at in
    let own = l n row m.at in
    let e = gives_back n t.0 target.buffer.0 Faulty (if is_same_state target.state Waiting then acquire_fence_of n target.buffer.0 past else NoFence) in
    let moved : Alive (e ∷ past) (with_row n (returned_failed t) s.device.rows) = each_changed (λ i r. RowLives i (e ∷ past) r) n (returned_failed t) s.device.rows (λ r. refl)
    (λ r is. lives_on n e past r (returned_failed t r) (record { begins = refl; refuses = refl; point = refl; last = refl; result = refl; request = refl }) (λ x. x) (l n r is).dark (l n r is))
    (λ i r other is. lives_beside i e past r (turned i n other) refl (l i r is)) in
    rw (target_of n t.0 s.device.rows row target m.at m.found)
    (one (after_failed_return n t s) e past (each_settled (λ i r. RowLives i (e ∷ past) r) n (with_row n (returned_failed t) s.device.rows) moved)
    (live-known (is_live 3 n past) (holding_live n t.0 target.buffer.0 past row own (f.named own.unrefused t.0 target m.found) (f.back t.0 target m.found (failed_out row target m.passed)))) refl)

-- ---- errors

error-all : (s : HalDeviceState) (n : ℕ) (past : List HalEvent) (error : ErrorEntry) → Sound s past → Alive past s.device.rows → Told n s.device.rows error → (Alive (error_event error ∷ past) (with_error error s.device.rows)) × (names_idle 3 (error_event error) past ≡ false) × (ends_again (error_event error) past ≡ false)
error-all s n past (LostRequest m) k l d =
    let is : m.0 ≡ n = d.frame ∙ own_frame n s.device.rows d.row d.found in
    let e = ErrorRequest n in
    rw is (
      each_changed (λ i r. RowLives i (e ∷ past) r) n (marked MarkRequest) s.device.rows (λ r. refl)
          (λ r at. lives_ended n e past r (marked MarkRequest r) refl refl refl (none (nat_lt r.parts 3) (not r.result_error)) (λ dark x. absurd (false≢true (sym x))) (l n r at))
          (λ i r other at. lives_beside i e past r (turned i n other) refl (l i r at)),
      live-known (is_live 3 n past) (awaiting_live n past d.row (l n d.row d.found) d.awaits),
      refl,
    )
  where
    none : (a b : Bool) → (a && (b && false)) ≡ false
    none true true = refl
    none true false = refl
    none false b = refl
error-all s n past (LostResult m) k l d =
    let is : m.0 ≡ n = d.frame ∙ own_frame n s.device.rows d.row d.found in
    let e = ErrorResult n in
    rw is (
      each_changed (λ i r. RowLives i (e ∷ past) r) n (marked MarkResult) s.device.rows (λ r. refl)
          (λ r at. lives_ended n e past r (marked MarkResult r) refl refl refl (none (nat_lt r.parts 3)) (λ dark x. absurd (false≢true (sym dark ∙ (ap (λ (z : RowView). is_some z.shutter) (same_row n s.device.rows d.row r d.found at) ∙ d.lit)))) (l n r at))
          (λ i r other at. lives_beside i e past r (turned i n other) refl (l i r at)),
      live-known (is_live 3 n past) (awaiting_live n past d.row (l n d.row d.found) d.awaits),
      refl,
    )
  where
    none : (a : Bool) → (a && false) ≡ false
    none true = refl
    none false = refl
error-all s n past (LostBuffer m t) k l d =
    let is : m.0 ≡ n = d.frame ∙ own_frame n s.device.rows d.row d.found in
    let e = ErrorBuffer n (Some t.0) in
    let f = k.rows.fits n d.row d.found in
    let own = l n d.row d.found in
    let a = d.awaited in
    rw is (
      each_changed (λ i r. RowLives i (e ∷ past) r) n (marked (Announced t)) s.device.rows (λ r. refl)
          (λ r at. lives_on n e past r (marked (Announced t) r) (record { begins = refl; refuses = refl; point = refl; last = refl; result = refl; request = refl }) (λ x. x) (l n r at).dark (l n r at))
          (λ i r other at. lives_beside i e past r (turned i n other) refl (l i r at)),
      live-known (is_live 3 n past) (holding_live n t.0 a.target.buffer.0 past d.row own (f.named own.unrefused t.0 a.target a.at) (f.back t.0 a.target a.at a.out)),
      refl,
    )
error-all s n past LostDevice k l d = (beside ErrorDevice past (all_stopped s.device.rows) (λ i. refl) refl (stopped-alive past s.device.rows l), refl, refl)

error-stays : (s : HalDeviceState) (n : ℕ) (past : List HalEvent) (after : HalDeviceState) → Sound s past → Alive past s.device.rows → (o : Option ErrorEntry) → error_in n s ≡ o → after.device.rows ≡ error_rows n o s.device.rows → Stays after (error_of o) past
error-stays s n past after k l None at rows = quiet after past (rw rows l)
error-stays s n past after k l (Some error) at rows =
    let d = told s.device.faults n s.device.rows error (λ row is. (k.rows.fits n row is).place) at in
    let all = error-all s n past error k l d in
    one after (error_event error) past (rw rows (each_settled (λ i r. RowLives i (error_event error ∷ past) r) n (with_error error s.device.rows) all.0)) all.1 all.2

-- ---- every call

stays : (call : HalCall) (s : HalDeviceState) (past : List HalEvent) → Sound s past → Alive past s.device.rows → numbered (events_of call s past ++ past) ≡ true → Stays (after_call call s) (events_of call s past) past
stays Initialize s past k l num = initialize-stays s past (initialize_error s) l
stays (Configure specs) s past k l num = configure-stays s (configured specs s) (ConfigureBegin None (streams_from 0 specs)) (ConfigureOk (most_from s.profile 0 specs)) past (configure_error specs s) refl (λ n. refl) (λ n. refl) refl refl refl (λ f. refl) refl (λ f. refl) l
stays (Request n settings targets) s past k l num = request-stays s n settings targets past k l (request_error n settings targets s) refl num
stays (Expose time) s past k l num = expose-stays s time past k l (exposure_in s) refl
stays (SendPart n) s past k l num = part-stays s n past k l (part_in n s) refl
stays (Fill n t) s past k l num = fill-stays s n t past l (may_fill n t.0 s)
stays (Deliver n t room) s past k l num = deliver-stays s n t room past k l (may_deliver n t.0 room s) refl
stays (TellError n) s past k l num = error-stays s n past (after_error n s) k l (error_in n s) refl refl
stays (ReturnFailed n t) s past k l num = failed-stays s n t past k l (may_return_failed n t.0 s) refl
stays BeginFlush s past k l num = flush-stays s past (flush_error s) l
stays EndFlush s past k l num = flush-end-stays s past (end_error s) refl l
stays BeginClose s past k l num = one (close_begun s) CloseBegin past (beside CloseBegin past (all_stopped s.device.rows) (λ n. refl) refl (stopped-alive past s.device.rows l)) refl refl

-- what was kept of the log with more events was kept before
before-more : (events past : List HalEvent) → numbered (events ++ past) ≡ true → numbered past ≡ true
before-more [] past h = h
before-more (e ∷ events) past h = before-more events past (and_parts (not (breaks_in_session 3 FrameNumber e (events ++ past))) (numbered (events ++ past)) h).1

record Both (profile : Profile) (faults : List Fault) (calls : List HalCall) : Type 0 where
  alive : Alive (log_of (opened profile faults) calls) (state_after (opened profile faults) calls).device.rows
  known : named (log_of (opened profile faults) calls) ≡ true
  returned : once (log_of (opened profile faults) calls) ≡ true

both : (profile : Profile) (faults : List Fault) (calls : List HalCall) → numbered (log_of (opened profile faults) calls) ≡ true → Both profile faults calls
both profile faults [] num = record { alive = λ n row at. absurd (cc); known = refl; returned = refl }
both profile faults (call ∷ calls) num =
    let s = state_after (opened profile faults) calls in
    let past = log_of (opened profile faults) calls in
    let ih = both profile faults calls (before-more (events_of call s past) past num) in
    let next = stays call s past (all_sound profile faults calls) ih.alive num in
    record { alive = next.alive; known = next.known ih.known; returned = next.returned ih.returned }

-- ---- the log is one session, and all of it is heard

none-called : (p : HalEvent → Bool) (begins ok : HalEvent) (refused : HalError → HalEvent) (o : Option CallError) → p begins ≡ false → p ok ≡ false → ((error : HalError) → p (refused error) ≡ false) → list_any p (called begins ok refused o) ≡ false
none-called p begins ok refused None first last errors = rw (last, first) refl
none-called p begins ok refused (Some Busy) first last errors = refl
none-called p begins ok refused (Some error) first last errors = rw (errors (hal_error error), first) refl

no-open : (call : HalCall) (s : HalDeviceState) (past : List HalEvent) → list_any is_open_ok (events_of call s past) ≡ false
no-open Initialize s past = by (initialize_error s)
  where
    by : (o : Option CallError) → list_any is_open_ok (called InitBegin InitOk (λ error. InitError error) o) ≡ false
    by None = refl
    by (Some InvalidArgument) = refl
    by (Some NoDevice) = refl
    by (Some WrongSequence) = refl
    by (Some NoMemory) = refl
    by (Some Busy) = refl
no-open (Configure specs) s past = by (configure_error specs s)
  where
    by : (o : Option CallError) → list_any is_open_ok (called (ConfigureBegin None (streams_from 0 specs)) (ConfigureOk (most_from s.profile 0 specs)) (λ error. ConfigureError error) o) ≡ false
    by None = refl
    by (Some InvalidArgument) = refl
    by (Some NoDevice) = refl
    by (Some WrongSequence) = refl
    by (Some NoMemory) = refl
    by (Some Busy) = refl
no-open (Request n settings targets) s past = by (request_error n settings targets s)
  where
    by : (o : Option CallError) → list_any is_open_ok (called (RequestBegin n (is_no_settings settings) targets false false) (RequestOk n) (λ error. RequestError n error) o) ≡ false
    by None = refl
    by (Some InvalidArgument) = refl
    by (Some NoDevice) = refl
    by (Some WrongSequence) = refl
    by (Some NoMemory) = refl
    by (Some Busy) = refl
no-open (Expose time) s past = by (exposure_in s)
  where
    by : (o : Option RowView) → list_any is_open_ok (shutter_of o time) ≡ false
    by None = refl
    by (Some row) = refl
no-open (SendPart n) s past = by (part_in n s)
  where
    by : (o : Option (ℕ × PartialResult)) → list_any is_open_ok (part_of n o) ≡ false
    by None = refl
    by (Some sent) = refl
no-open (Fill n t) s past = refl
no-open (Deliver n t room) s past = by (may_deliver n t.0 room s) (target_in n t.0 s.device.rows)
  where
    by : (b : Bool) (o : Option TargetView) → list_any is_open_ok (if b then good_of n t.0 o else []) ≡ false
    by false o = refl
    by true None = refl
    by true (Some target) = refl
no-open (TellError n) s past = by (error_in n s)
  where
    by : (o : Option ErrorEntry) → list_any is_open_ok (error_of o) ≡ false
    by None = refl
    by (Some (LostRequest m)) = refl
    by (Some (LostResult m)) = refl
    by (Some (LostBuffer m u)) = refl
    by (Some LostDevice) = refl
no-open (ReturnFailed n t) s past = by (may_return_failed n t.0 s) (target_in n t.0 s.device.rows)
  where
    by : (b : Bool) (o : Option TargetView) → list_any is_open_ok (if b then failed_of n t.0 o past else []) ≡ false
    by false o = refl
    by true None = refl
    by true (Some target) = refl
no-open BeginFlush s past = by (flush_error s)
  where
    by : (o : Option CallError) → list_any is_open_ok (flush_begin_of o) ≡ false
    by None = refl
    by (Some InvalidArgument) = refl
    by (Some NoDevice) = refl
    by (Some WrongSequence) = refl
    by (Some NoMemory) = refl
    by (Some Busy) = refl
no-open EndFlush s past = by (end_error s)
  where
    by : (o : Option CallError) → list_any is_open_ok (flush_end_of o) ≡ false
    by None = refl
    by (Some error) = refl
no-open BeginClose s past = refl

abbrev opening_log : List HalEvent
opening_log = OpenBegin ∷ []

heard-whole : (log : List HalEvent) → named log ≡ true → once log ≡ true → heard 3 log ≡ log
heard-whole [] known returned = refl
heard-whole (e ∷ log) known returned =
    let k = and_parts (not (names_idle 3 e log)) (named log) known in
    let r = and_parts (not (ends_again e log)) (once log) returned in
    rw (heard-whole log k.1 r.1, not-true (names_idle 3 e log) k.0, not-true (ends_again e log) r.0) refl

-- a log whose parts are sessions keeps a rule where it keeps it in its session
abbrev Agrees : Rule → List HalEvent → Type 0
Agrees rule log =
    (session (log ++ opening_log) ≡ log)
    × (named log ≡ true → once log ≡ true → keeps_in_session 3 log rule ≡ true → keeps 3 (log ++ opening_log) rule ≡ true)

agrees-more : (rule : Rule) (e : HalEvent) (log : List HalEvent) → is_open_ok e ≡ false → Agrees rule log → Agrees rule (e ∷ log)
agrees-more rule e log other agrees = (rw (other, agrees.0) refl, kept)
  where
    kept : named (e ∷ log) ≡ true → once (e ∷ log) ≡ true → keeps_in_session 3 (e ∷ log) rule ≡ true → keeps 3 ((e ∷ log) ++ opening_log) rule ≡ true
    kept known returned h =
        let k = and_parts (not (names_idle 3 e log)) (named log) known in
        let r = and_parts (not (ends_again e log)) (once log) returned in
        let parts = and_parts (not (breaks_in_session 3 rule e log)) (keeps_with (breaks_in_session 3 rule) log) h in
        rw (agrees.0, heard-whole log k.1 r.1, not-true (breaks_in_session 3 rule e log) parts.0) (agrees.1 k.1 r.1 parts.1)

agrees-append : (rule : Rule) (hs log : List HalEvent) → list_any is_open_ok hs ≡ false → Agrees rule log → Agrees rule (hs ++ log)
agrees-append rule [] log none agrees = agrees
agrees-append rule (h ∷ hs) log none agrees =
    agrees-more rule h (hs ++ log) (or-first (is_open_ok h) (list_any is_open_ok hs) none) (agrees-append rule hs log (or-second (is_open_ok h) (list_any is_open_ok hs) none) agrees)

agrees-all : (rule : Rule) (profile : Profile) (faults : List Fault) (calls : List HalCall) → keeps 3 (OpenOk ∷ opening_log) rule ≡ true → Agrees rule (log_of (opened profile faults) calls)
agrees-all rule profile faults [] opens = (refl, λ known returned h. opens)
agrees-all rule profile faults (call ∷ calls) opens =
    agrees-append rule (events_of call (state_after (opened profile faults) calls) (log_of (opened profile faults) calls)) (log_of (opened profile faults) calls) (no-open call (state_after (opened profile faults) calls) (log_of (opened profile faults) calls)) (agrees-all rule profile faults calls opens)

-- ---- each rule

unknown-kept : (log : List HalEvent) → named log ≡ true → keeps_in_session 3 log UnknownFrame ≡ true
unknown-kept [] h = refl
unknown-kept (e ∷ log) h =
    let k = and_parts (not (names_idle 3 e log)) (named log) h in
    rw (not-true (names_idle 3 e log) k.0, unknown-kept log k.1) refl

-- what breaks none of the rules breaks not this one
one-of : (rule : Rule) (log : List HalEvent) → ((e : HalEvent) (past : List HalEvent) → breaks_one e past ≡ false → breaks_in_session 3 rule e past ≡ false) → keeps_with breaks_one log ≡ true → keeps_in_session 3 log rule ≡ true
one-of rule [] among h = refl
one-of rule (e ∷ log) among h =
    let k = and_parts (not (breaks_one e log)) (keeps_with breaks_one log) h in
    rw (among e log (not-true (breaks_one e log) k.0), one-of rule log among k.1) refl

at-place : (i : ℕ) (rules : List Rule) (rule : Rule) (e : HalEvent) (past : List HalEvent) → slice_get rules i ≡ Some rule → list_any (λ r. breaks_in_session 3 r e past) rules ≡ false → breaks_in_session 3 rule e past ≡ false
at-place i [] rule e past at h = absurd (cc)
at-place zero (r ∷ rules) rule e past at h =
    let same : r ≡ rule = cc in
    ap (λ (x : Rule). breaks_in_session 3 x e past) (sym same) ∙ or-first (breaks_in_session 3 r e past) (list_any (λ x. breaks_in_session 3 x e past) rules) h
at-place (suc i) (r ∷ rules) rule e past at h =
    at-place i rules rule e past at (or-second (breaks_in_session 3 r e past) (list_any (λ x. breaks_in_session 3 x e past) rules) h)

judged-at : (profile : Profile) (faults : List Fault) (calls : List HalCall) (rule : Rule) (i : ℕ) → slice_get kept_rules i ≡ Some rule → keeps 3 (OpenOk ∷ opening_log) rule ≡ true → Both profile faults calls → keeps 3 (whole_log (opened profile faults) calls) rule ≡ true
judged-at profile faults calls rule i at opens b =
    (agrees-all rule profile faults calls opens).1 b.known b.returned
    (one-of rule (log_of (opened profile faults) calls) (λ e past h. at-place i kept_rules rule e past at h) (keeps_them profile faults calls))

pub keeps_judged : (profile : Profile) (faults : List Fault) (calls : List HalCall) (rule : Rule) → KeepsJudged profile faults calls rule
keeps_judged profile faults calls rule num among = by rule among
  where
    b : Both profile faults calls
    b = both profile faults calls num

    by : (r : Rule) → is_judged r ≡ true → keeps 3 (whole_log (opened profile faults) calls) r ≡ true
    by ShutterTwice h = judged-at profile faults calls ShutterTwice 0 refl refl b
    by ShutterAfterRequestError h = judged-at profile faults calls ShutterAfterRequestError 1 refl refl b
    by EmptyResult h = judged-at profile faults calls EmptyResult 2 refl refl b
    by PartialNumber h = judged-at profile faults calls PartialNumber 3 refl refl b
    by PartialTwice h = judged-at profile faults calls PartialTwice 4 refl refl b
    by MetadataAfterRequestError h = judged-at profile faults calls MetadataAfterRequestError 5 refl refl b
    by NotAtDevice h = judged-at profile faults calls NotAtDevice 6 refl refl b
    by BufferStatus h = judged-at profile faults calls BufferStatus 7 refl refl b
    by GoodAfterError h = judged-at profile faults calls GoodAfterError 8 refl refl b
    by AcquireFence h = judged-at profile faults calls AcquireFence 9 refl refl b
    by ReleaseFence h = judged-at profile faults calls ReleaseFence 10 refl refl b
    by ErrorTwice h = judged-at profile faults calls ErrorTwice 11 refl refl b
    by ErrorBesideRequestError h = judged-at profile faults calls ErrorBesideRequestError 12 refl refl b
    by ErrorUnknownStream h = judged-at profile faults calls ErrorUnknownStream 13 refl refl b
    by CallbackAfterClose h = judged-at profile faults calls CallbackAfterClose 14 refl refl b
    by UnknownFrame h = (agrees-all UnknownFrame profile faults calls refl).1 b.known b.returned (unknown-kept (log_of (opened profile faults) calls) b.known)
    by _ h = absurd (false≢true h)
