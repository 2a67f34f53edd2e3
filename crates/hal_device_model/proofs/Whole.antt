-- The log of every list of calls breaks none of the rules.
use Rattle.std.proofs.Common.{◌≡◌, ℕ, ◌==◌, ◌+◌, Bool, true, false, ◌&&◌, ◌||◌, not, nat_lt, nat_le, if◌then◌else◌, List, [], ◌∷◌, ◌++◌, length, Option, Some, None, refl, sym, ap, ◌∙◌, inl, inr, arith}
use Rattle.std.specs.Prelude.{slice_get, ◌<◌}
use Rattle.std.specs.List.{list_any}
use Rattle.std.proofs.lemmas.Bool.{and_parts, cases_Bool, eqb-true, false≢true}
use Rattle.std.proofs.lemmas.Bool.Decides.{nat_tests}
use Rattle.cam_types.specs.declared.item.Settings.{Settings}
use Rattle.cam_types.specs.declared.number.StreamIx.{StreamIx}
use Rattle.cam_types.specs.declared.partial_result.PartialResult.{PartialResult}
use Rattle.cam_types.specs.declared.profile.Profile.{Profile}
use Rattle.cam_types.specs.declared.row.RowView.{RowView}
use Rattle.cam_types.specs.declared.row.SensorPlace.TheVariants.{Home}
use Rattle.cam_types.specs.declared.row.TargetState.TheVariants.{Waiting, ReturnedOk, ReturnedFailed}
use Rattle.cam_types.specs.declared.row.TargetView.{TargetView}
use Rattle.cam_types.specs.declared.script.Fault.{Fault}
use Rattle.cam_types.specs.Rows.{is_returned}
use Rattle.device_rows.specs.Ready.{is_delivery_ready, is_same_state, may_deliver as may_deliver_row, may_fill as may_fill_row, may_return_failed as may_return_failed_row}
use Rattle.device_rows.specs.Marks.{marked}
use Rattle.device_rows.specs.declared.mark.Mark.TheVariants.{Announced, RequestError as MarkRequest, ResultError as MarkResult}
use Rattle.device_rows.specs.Order.{each_below, holds_back}
use Rattle.device_rows.specs.Rows.{delivered, exposed, fill_begun, fill_ended, returned_failed, row_at, sensor_home, target_at, target_in, with_error, with_part, with_row}
use Rattle.device_core.proofs.Ops.{met}
use Rattle.device_rows.specs.declared.entry.ErrorEntry.{ErrorEntry}
use Rattle.device_rows.specs.declared.entry.ErrorEntry.TheVariants.{Request as LostRequest, Result as LostResult, Buffer as LostBuffer, Device as LostDevice}
use Rattle.buffer_pool.specs.Fences.{is_signalled, no_fences}
use Rattle.hal_device_model.proofs.Apart.{speaks}
use Rattle.hal_device_model.proofs.Changes.{fits_back, fits_exposed, fits_filled, fits_notice, fits_part, fits_request_error, fits_result_error, fits_sensor, fits_stopped}
use Rattle.hal_device_model.proofs.Errors.{Told, told}
use Rattle.hal_device_model.proofs.Fits.{RowFits, fits_again, fits_beside}
use Rattle.hal_device_model.proofs.Harmless.{harmless_buffer_error, harmless_device_error, harmless_failed, harmless_good, harmless_part, harmless_request_error, harmless_result_error, harmless_shutter}
use Rattle.hal_device_model.proofs.Requests.{fits_fresh}
use Rattle.hal_device_model.proofs.Steps.{Rows, delivery_good, failed_out, fill_waits, next_dark, next_sends, rows_added, rows_beside, rows_moved, rows_settled, rows_stopped, rows_told, stands_below}
use Rattle.hal_device_model.specs.Law.{KeepsThem, breaks_one}
use Rattle.hal_device_model.specs.Calls.{after_delivery, after_error, after_failed_return, after_fill, are_bad_settings, are_bad_targets, close_begun, configured, configure_error, end_error, ended, error_in, error_rows, exposed_rows, exposure_in, flush_begun, flush_error, fresh_row, has_length, has_to_wait, initialize_error, initialized, is_early, is_malformed, is_over, may_deliver, may_fill, may_return_failed, names_twice, part_in, request_error, requested, requested_with, sent_rows, settings_of}
use Rattle.hal_device_model.specs.Log.{HalCall, Initialize, Configure, Request, Expose, SendPart, Fill, Deliver, TellError, ReturnFailed, BeginFlush, EndFlush, BeginClose, acquire_fence_of, after_call, called, events_of, failed_of, flush_begin_of, flush_end_of, good_of, error_event, error_of, hal_error, is_no_settings, log_of, part_of, shutter_of, state_after, unless}
use Rattle.hal_device_model.specs.State.{HalDeviceState, opened, streams_in}
use Rattle.hal_device_model.specs.declared.error.CallError.{CallError}
use Rattle.hal_device_model.specs.declared.error.CallError.TheVariants.{InvalidArgument, NoDevice, WrongSequence, Busy}
use Rattle.hal_model.specs.Rules.{keeps_with}
use Rattle.hal_model.specs.Words.{ends_close, is_part, stands}
use Rattle.hal_model.specs.declared.event.HalError.{HalError}
use Rattle.hal_model.specs.declared.event.HalEvent.{HalEvent}
use Rattle.hal_model.specs.declared.event.HalEvent.TheVariants.{InitBegin, InitOk, InitError, ConfigureBegin, ConfigureOk, ConfigureError, RequestBegin, RequestOk, RequestError, Shutter, ErrorRequest, ErrorResult, ErrorBuffer, ErrorDevice, Results, FlushBegin, FlushOk, FlushError, CloseBegin}
use Rattle.hal_model.specs.declared.event.HalFence.TheVariants.{Absent as NoFence}
use Rattle.hal_model.specs.declared.event.HalTarget.{HalTarget}
use Rattle.hal_model.specs.declared.event.Pack.TheVariants.{Entries}
use Rattle.hal_model.specs.declared.event.Status.TheVariants.{Filled as Okay, Failed as Faulty}
use Rattle.hal_model.specs.Hal.{gives_back, most_from, streams_from}
use Rattle.basic_lemmas.proofs.Lists.{found-passes}
use Rattle.basic_lemmas.proofs.Tests.{or-first, or-second}

-- what stands between two calls
pub record Sound (s : HalDeviceState) (past : List HalEvent) : Type 0 where
  pub rows : Rows s.next past s.device.rows
  pub going : list_any ends_close past ≡ false

-- what a call leaves
record Step (s : HalDeviceState) (events past : List HalEvent) : Type 0 where
  sound : Sound s (events ++ past)
  keeps : keeps_with breaks_one past ≡ true → keeps_with breaks_one (events ++ past) ≡ true

nothing : (s : HalDeviceState) (past : List HalEvent) → Sound s past → Step s [] past
nothing s past k = record { sound = k; keeps = λ h. h }

-- one event that is harmless
one : (s : HalDeviceState) (e : HalEvent) (past : List HalEvent) → Rows s.next (e ∷ past) s.device.rows → ends_close e ≡ false → list_any ends_close past ≡ false → breaks_one e past ≡ false → Step s (e ∷ []) past
one s e past rows shut going harmless = record {
  sound = record { rows = rows; going = rw shut going };
  keeps = λ h. rw (harmless, h) refl;
}

two : (s : HalDeviceState) (e f : HalEvent) (past : List HalEvent) → Rows s.next (e ∷ f ∷ past) s.device.rows → ends_close e ≡ false → ends_close f ≡ false → list_any ends_close past ≡ false → breaks_one e (f ∷ past) ≡ false → breaks_one f past ≡ false → Step s (e ∷ f ∷ []) past
two s e f past rows shut shut' going harmless harmless' = record {
  sound = record { rows = rows; going = rw (shut, shut') going };
  keeps = λ h. rw (harmless, harmless', h) refl;
}

-- ---- calls that speak of no frame

silent-two : (next : ℕ) (e f : HalEvent) (past : List HalEvent) (rows : List RowView) → ((n : ℕ) → speaks n e ≡ false) → ((n : ℕ) → speaks n f ≡ false) → Rows next past rows → Rows next (e ∷ f ∷ past) rows
silent-two next e f past rows quiet quiet' r =
    rows_beside next e (f ∷ past) rows (λ n row at. quiet n) (rows_beside next f past rows (λ n row at. quiet' n) r)

initialize-step : (s : HalDeviceState) (past : List HalEvent) (o : Option CallError) → Sound s past → Step (unless o (initialized s) s) (called InitBegin InitOk (λ error. InitError error) o) past
initialize-step s past None k = two (initialized s) InitOk InitBegin past (silent-two s.next InitOk InitBegin past s.device.rows (λ n. refl) (λ n. refl) k.rows) refl refl k.going refl refl
initialize-step s past (Some Busy) k = nothing s past k
initialize-step s past (Some error) k = two s (InitError (hal_error error)) InitBegin past (silent-two s.next (InitError (hal_error error)) InitBegin past s.device.rows (λ n. refl) (λ n. refl) k.rows) refl refl k.going refl refl

-- the same of a configuration, whose end has the error or the streams
configure-step : (s after : HalDeviceState) (begins ok : HalEvent) (past : List HalEvent) (o : Option CallError) → Rows after.next past after.device.rows → Sound s past → ((n : ℕ) → speaks n begins ≡ false) → ((n : ℕ) → speaks n ok ≡ false) → ends_close begins ≡ false → ends_close ok ≡ false → breaks_one begins past ≡ false → ((f : HalEvent) → breaks_one ok (f ∷ past) ≡ false) → Step (unless o after s) (called begins ok (λ error. ConfigureError error) o) past
configure-step s after begins ok past None r k quiet quiet' shut shut' harmless harmless' =
    two after ok begins past (silent-two after.next ok begins past after.device.rows quiet' quiet r) shut' shut k.going (harmless' begins) harmless
configure-step s after begins ok past (Some Busy) r k quiet quiet' shut shut' harmless harmless' = nothing s past k
configure-step s after begins ok past (Some error) r k quiet quiet' shut shut' harmless harmless' =
    two s (ConfigureError (hal_error error)) begins past (silent-two s.next (ConfigureError (hal_error error)) begins past s.device.rows (λ n. refl) quiet k.rows) refl shut k.going refl harmless

stopped-rows : (s : HalDeviceState) (past : List HalEvent) → Sound s past → Rows s.next past (flush_begun s).device.rows
stopped-rows s past k = rows_stopped s.next past s.device.rows (λ n row f. fits_stopped n past row f) k.rows

flush-step : (s : HalDeviceState) (past : List HalEvent) (o : Option CallError) → Sound s past → Step (unless o (flush_begun s) s) (flush_begin_of o) past
flush-step s past None k = one (flush_begun s) FlushBegin past (rows_beside s.next FlushBegin past (flush_begun s).device.rows (λ n row at. refl) (stopped-rows s past k)) refl k.going refl
flush-step s past (Some Busy) k = nothing s past k
flush-step s past (Some error) k = two s (FlushError (hal_error error)) FlushBegin past (silent-two s.next (FlushError (hal_error error)) FlushBegin past s.device.rows (λ n. refl) (λ n. refl) k.rows) refl refl k.going refl refl

flush-end-step : (s : HalDeviceState) (past : List HalEvent) (o : Option CallError) → Sound s past → Step (unless o (ended s) s) (flush_end_of o) past
flush-end-step s past None k = one (ended s) FlushOk past (rows_beside s.next FlushOk past s.device.rows (λ n row at. refl) k.rows) refl k.going refl
flush-end-step s past (Some error) k = nothing s past k

-- ---- requests

pub well_formed : (over early bad waits : Bool) → (if over then Some NoDevice else (if early then Some WrongSequence else (if bad then Some InvalidArgument else (if waits then Some Busy else None)))) ≡ None → bad ≡ false
well_formed true early bad waits h = absurd (cc)
well_formed false true bad waits h = absurd (cc)
well_formed false false true waits h = absurd (cc)
well_formed false false false waits h = refl

pub other_frame : (m n : ℕ) → nat_lt m n ≡ true → (n == m) ≡ false
other_frame m n h = grind (arith, nat_tests, h)

pub turned : (m n : ℕ) → (m == n) ≡ false → (n == m) ≡ false
turned m n h = grind (arith, nat_tests, h)

refused-rows : (s : HalDeviceState) (n : ℕ) (error : HalError) (same : Bool) (targets : List HalTarget) (past : List HalEvent) → Sound s past → Rows s.next (RequestError n error ∷ RequestBegin n same targets false false ∷ past) s.device.rows
refused-rows s n error same targets past k = record {
  order = k.rows.order;
  before = k.rows.before;
  fits = λ m row at. elim (cases_Bool (m == n)) [
    | inl here ↦ (
        let is : m ≡ n = eqb-true m n here in
        let f : RowFits n past row = rw (← is) (k.rows.fits m row at) in
        rw is (fits_again n error same targets false false past row f)
        )
    | inr other ↦ (
        let quiet = turned m n other in
        fits_beside m (RequestError n error) (RequestBegin n same targets false false ∷ past) row quiet
        (fits_beside m (RequestBegin n same targets false false) past row quiet (k.rows.fits m row at))
        )
  ];
}

refused-step : (s : HalDeviceState) (n : ℕ) (error : HalError) (same : Bool) (targets : List HalTarget) (past : List HalEvent) → Sound s past → Step s (RequestError n error ∷ RequestBegin n same targets false false ∷ []) past
refused-step s n error same targets past k = two s (RequestError n error) (RequestBegin n same targets false false) past (refused-rows s n error same targets past k) refl refl k.going refl refl

accepted-step : (s : HalDeviceState) (n : ℕ) (same : Bool) (settings : Settings) (targets : List HalTarget) (past : List HalEvent) → nat_lt n s.next ≡ false → names_twice targets ≡ false → Sound s past → Step (requested n settings targets s) (RequestOk n ∷ RequestBegin n same targets false false ∷ []) past
accepted-step s n same settings targets past new once k =
    two (requested n settings targets s) (RequestOk n) (RequestBegin n same targets false false) past
    (rows_added s.next past (RequestOk n ∷ RequestBegin n same targets false false ∷ past) s.device.rows (fresh_row n settings targets) new others (fits_fresh n same settings targets past once) k.rows)
    refl refl k.going refl refl
  where
    others : (m : ℕ) (row : RowView) → row_at m s.device.rows ≡ Some row → RowFits m past row → RowFits m (RequestOk n ∷ RequestBegin n same targets false false ∷ past) row
    others m row at f =
        let quiet = other_frame m n (stands_below s.next n m s.device.rows row k.rows.before new at) in
        fits_beside m (RequestOk n) (RequestBegin n same targets false false ∷ past) row quiet
        (fits_beside m (RequestBegin n same targets false false) past row quiet f)

request-step : (s : HalDeviceState) (n : ℕ) (settings : Option Settings) (targets : List HalTarget) (past : List HalEvent) → Sound s past → (o : Option CallError) → request_error n settings targets s ≡ o → Step (unless o (requested_with n (settings_of settings s.last) targets s) s) (called (RequestBegin n (is_no_settings settings) targets false false) (RequestOk n) (λ error. RequestError n error) o) past
request-step s n settings targets past k None at =
    let formed = well_formed (is_over s) (is_early s) (is_malformed n settings targets s) (has_to_wait targets s) at in
    let new = or-first (nat_lt n s.next) (are_bad_targets (length (streams_in s)) targets || are_bad_settings (settings_of settings s.last)) formed in
    let rest = or-second (nat_lt n s.next) (are_bad_targets (length (streams_in s)) targets || are_bad_settings (settings_of settings s.last)) formed in
    let good = or-first (are_bad_targets (length (streams_in s)) targets) (are_bad_settings (settings_of settings s.last)) rest in
    let known = or-second (length targets == 0) (list_any (λ (t : HalTarget). not (nat_lt t.stream (length (streams_in s)))) targets || names_twice targets) good in
    let once = or-second (list_any (λ (t : HalTarget). not (nat_lt t.stream (length (streams_in s)))) targets) (names_twice targets) known in
    let set = or-second (are_bad_targets (length (streams_in s)) targets) (are_bad_settings (settings_of settings s.last)) rest in
    by (settings_of settings s.last) new once set
  where
    by : (x : Option Settings) → nat_lt n s.next ≡ false → names_twice targets ≡ false → are_bad_settings x ≡ false → Step (requested_with n x targets s) (RequestOk n ∷ RequestBegin n (is_no_settings settings) targets false false ∷ []) past
    by (Some x) new once set = accepted-step s n (is_no_settings settings) x targets past new once k
    by None new once set = absurd (false≢true (sym set))
request-step s n settings targets past k (Some Busy) at = nothing s past k
request-step s n settings targets past k (Some error) at = refused-step s n (hal_error error) (is_no_settings settings) targets past k

-- ---- steps of a frame

-- two changes of one row are one
pub changed_twice : (n : ℕ) (f g : RowView → RowView) (rows : List RowView) → ((row : RowView) → (g row).frame.0 ≡ row.frame.0) → with_row n f (with_row n g rows) ≡ with_row n (λ row. f (g row)) rows
changed_twice n f g [] same = refl
changed_twice n f g (row ∷ rows) same =
    let ih = changed_twice n f g rows same in
    elim (cases_Bool (row.frame.0 == n)) [
      | inl here ↦ (let here' : ((g row).frame.0 == n) ≡ true = ap (λ k. k == n) (same row) ∙ here in rw (here, here', ih) refl)
      | inr other ↦ rw (other, other, ih) refl
    ]

expose-step : (s : HalDeviceState) (time : ℕ) (past : List HalEvent) → Sound s past → (o : Option RowView) → exposure_in s ≡ o → Step (record s { device = record s.device { rows = exposed_rows time o s.device.rows } }) (shutter_of o time) past
expose-step s time past k None at = nothing s past k
expose-step s time past k (Some row) at =
    let n = row.frame.0 in
    let d = next_dark s.device.faults s.device.rows row k.rows.order at in
    let f = k.rows.fits n row d.found in
    let lit = rows_told s.next n (exposed time) (Shutter n time) past s.device.rows (λ r. refl) (λ m other. turned m n other) (λ r found g. fits_exposed n time time past r g) k.rows in
    let home = rows_moved s.next n sensor_home (Shutter n time ∷ past) (with_row n (exposed time) s.device.rows) (λ r. refl) (λ r found g. fits_sensor n Home (Shutter n time ∷ past) r g) lit in
    one (record s { device = record s.device { rows = exposed_rows time (Some row) s.device.rows } }) (Shutter n time) past home refl k.going
    (harmless_shutter n time past (f.shutter d.dark) (f.failed d.sound) k.going)

part-number : (k p : ℕ) → k ≡ p + 1 → nat_lt p 3 ≡ true → (nat_lt 0 k && nat_le k 3) ≡ true
part-number k p is few = grind (arith, nat_tests, is, few)

part-step : (s : HalDeviceState) (n : ℕ) (past : List HalEvent) → Sound s past → (o : Option (ℕ × PartialResult)) → part_in n s ≡ o → Step (record s { device = record s.device { rows = sent_rows n o s.device.rows } }) (part_of n o) past
part-step s n past k None at = nothing s past k
part-step s n past k (Some sent) at =
    let d = next_sends s.device.faults s.device.rows n sent at in
    let f = k.rows.fits n d.row d.found in
    let later : (j : ℕ) → sent.0 < j → stands n (is_part n j) past ≡ false = λ j l. f.parts j (omega (arith, d.number)) in
    let moved = rows_told s.next n (with_part sent.0) (Results n sent.0 Entries [] false) past s.device.rows (λ r. refl) (λ m other. turned m n other) (λ r found g. fits_part n sent.0 past r later g) k.rows in
    one (record s { device = record s.device { rows = sent_rows n (Some sent) s.device.rows } }) (Results n sent.0 Entries [] false) past
    (rows_settled s.next n (Results n sent.0 Entries [] false ∷ past) (with_row n (with_part sent.0) s.device.rows) moved) refl k.going
    (harmless_part n sent.0 past (part-number sent.0 d.row.parts d.number d.few) (f.parts sent.0 (omega (arith, d.number))) (f.failed d.sound) k.going)

fill-step : (s : HalDeviceState) (n : ℕ) (t : StreamIx) (past : List HalEvent) → Sound s past → (b : Bool) → may_fill n t.0 s ≡ b → Step (if b then after_fill n t s else s) [] past
fill-step s n t past k false at = nothing s past k
fill-step s n t past k true at = nothing (after_fill n t s) past (record { rows = moved; going = k.going })
  where
    waits : (row : RowView) → row_at n s.device.rows ≡ Some row → (old : TargetView) → target_at t.0 row ≡ Some old → is_returned old.state ≡ false
    waits row found old target =
        let (row', t', m) = met (may_fill_row s.device.faults (λ f. is_signalled f (no_fences 0))) t.0 (row_at n s.device.rows) at in
        let same : row' ≡ row = (let e : Some row' ≡ Some row = sym m.at ∙ found in cc) in
        let target' : target_at t.0 row ≡ Some t' = ap (λ (r : RowView). target_at t.0 r) (sym same) ∙ m.found in
        let is : t' ≡ old = (let e : Some t' ≡ Some old = sym target' ∙ target in cc) in
        ap (λ (x : TargetView). is_returned x.state) (sym is) ∙ fill_waits s.device.faults (λ f. is_signalled f (no_fences 0)) row' t' m.passed

    moved : Rows s.next past (with_row n (fill_ended t) (with_row n (fill_begun t) s.device.rows))
    moved = rw (twice) (rows_moved s.next n (λ r. fill_ended t (fill_begun t r)) past s.device.rows (λ r. refl) (λ r found g. fits_filled n t past r (waits r found) g) k.rows)
      where
        twice : with_row n (fill_ended t) (with_row n (fill_begun t) s.device.rows) ≡ with_row n (λ r. fill_ended t (fill_begun t r)) s.device.rows
        twice = changed_twice n (fill_ended t) (fill_begun t) s.device.rows (λ r. refl)

-- the target that a step is of
pub target_of : (n s : ℕ) (rows : List RowView) (row : RowView) (t : TargetView) → row_at n rows ≡ Some row → target_at s row ≡ Some t → target_in n s rows ≡ Some t
target_of n s rows row t found at = rw found at

pub same_row : (n : ℕ) (rows : List RowView) (row r : RowView) → row_at n rows ≡ Some row → row_at n rows ≡ Some r → r ≡ row
same_row n rows row r at at' = (let e : Some r ≡ Some row = sym at' ∙ at in cc)

good-step : (s : HalDeviceState) (n : ℕ) (t : StreamIx) (past : List HalEvent) → Sound s past → is_delivery_ready s.device.faults s.device.rows n t.0 ≡ true → Step (after_delivery n t s) (good_of n t.0 (target_in n t.0 s.device.rows)) past
good-step s n t past k ready =
    let (row, target, m) = met (may_deliver_row s.device.faults s.device.rows) t.0 (row_at n s.device.rows) ready in
    let g = delivery_good s.device.faults s.device.rows row target (each_below row.frame.0 (λ other. not (holds_back target.stream.0 other)) s.device.rows) m.passed in
    let f = k.rows.fits n row m.at in
    let e = gives_back n t.0 target.buffer.0 Okay NoFence in
    let own : (r : RowView) → row_at n s.device.rows ≡ Some r → RowFits n past r → RowFits n (e ∷ past) (delivered t r) = λ r found h. (let is = same_row n s.device.rows row r m.at found in rw is (fits_back n t Okay NoFence ReturnedOk target past row refl m.found f)) in
    let moved = rows_told s.next n (delivered t) e past s.device.rows (λ r. refl) (λ i other. turned i n other) own k.rows in
    rw (target_of n t.0 s.device.rows row target m.at m.found)
    (one (after_delivery n t s) e past (rows_settled s.next n (e ∷ past) (with_row n (delivered t) s.device.rows) moved) refl k.going
    (harmless_good n t.0 target.buffer.0 past (λ r. f.named r t.0 target m.found) (f.back t.0 target m.found g.out) (f.notice t.0 target m.found g.untold) (f.failed g.sound) k.going))

deliver-step : (s : HalDeviceState) (n : ℕ) (t : StreamIx) (room : ℕ) (past : List HalEvent) → Sound s past → (b : Bool) → may_deliver n t.0 room s ≡ b → Step (if b then after_delivery n t s else s) (if b then good_of n t.0 (target_in n t.0 s.device.rows) else []) past
deliver-step s n t room past k false at = nothing s past k
deliver-step s n t room past k true at = good-step s n t past k (and_parts (has_length room (slice_get (streams_in s) t.0)) (is_delivery_ready s.device.faults s.device.rows n t.0) at).1

failed-step : (s : HalDeviceState) (n : ℕ) (t : StreamIx) (past : List HalEvent) → Sound s past → (b : Bool) → may_return_failed n t.0 s ≡ b → Step (if b then after_failed_return n t s else s) (if b then failed_of n t.0 (target_in n t.0 s.device.rows) past else []) past
failed-step s n t past k false at = nothing s past k
failed-step s n t past k true at =
    let (row, target, m) = met may_return_failed_row t.0 (row_at n s.device.rows) at in
    let f = k.rows.fits n row m.at in
    let waits = is_same_state target.state Waiting in
    let fence = (if waits then acquire_fence_of n target.buffer.0 past else NoFence) in
    let e = gives_back n t.0 target.buffer.0 Faulty fence in
    let own : (r : RowView) → row_at n s.device.rows ≡ Some r → RowFits n past r → RowFits n (e ∷ past) (returned_failed t r) = λ r found h. (let is = same_row n s.device.rows row r m.at found in rw is (fits_back n t Faulty fence ReturnedFailed target past row refl m.found f)) in
    let moved = rows_told s.next n (returned_failed t) e past s.device.rows (λ r. refl) (λ i other. turned i n other) own k.rows in
    rw (target_of n t.0 s.device.rows row target m.at m.found)
    (one (after_failed_return n t s) e past (rows_settled s.next n (e ∷ past) (with_row n (returned_failed t) s.device.rows) moved) refl k.going
    (harmless_failed n t.0 target.buffer.0 past waits (λ r. f.named r t.0 target m.found) (f.back t.0 target m.found (failed_out row target m.passed)) k.going))

-- ---- errors

pub own_frame : (n : ℕ) (rows : List RowView) (row : RowView) → row_at n rows ≡ Some row → row.frame.0 ≡ n
own_frame n rows row at = eqb-true row.frame.0 n (found-passes (λ (r : RowView). r.frame.0 == n) rows row at)

error-events : (s : HalDeviceState) (n : ℕ) (past : List HalEvent) (error : ErrorEntry) → Sound s past → Told n s.device.rows error → (Rows s.next (error_event error ∷ past) (with_error error s.device.rows)) × (breaks_one (error_event error) past ≡ false) × (ends_close (error_event error) ≡ false)
error-events s n past (LostRequest m) k d =
    let own : m.0 ≡ n = d.frame ∙ own_frame n s.device.rows d.row d.found in
    let f = k.rows.fits n d.row d.found in
    rw own (
      rows_told s.next n (marked MarkRequest) (ErrorRequest n) past s.device.rows (λ r. refl) (λ i other. turned i n other) (λ r found h. fits_request_error n past r h) k.rows,
      harmless_request_error n past (f.failed d.sound) k.going,
      refl,
    )
error-events s n past (LostResult m) k d =
    let own : m.0 ≡ n = d.frame ∙ own_frame n s.device.rows d.row d.found in
    let f = k.rows.fits n d.row d.found in
    rw own (
      rows_told s.next n (marked MarkResult) (ErrorResult n) past s.device.rows (λ r. refl) (λ i other. turned i n other) (λ r found h. fits_result_error n past r h) k.rows,
      harmless_result_error n past (f.failed d.sound) (f.result d.untold) k.going,
      refl,
    )
error-events s n past (LostBuffer m t) k d =
    let own : m.0 ≡ n = d.frame ∙ own_frame n s.device.rows d.row d.found in
    let f = k.rows.fits n d.row d.found in
    let a = d.awaited in
    rw own (
      rows_told s.next n (marked (Announced t)) (ErrorBuffer n (Some t.0)) past s.device.rows (λ r. refl) (λ i other. turned i n other) (λ r found h. fits_notice n t past r h) k.rows,
      harmless_buffer_error n t.0 a.target.buffer.0 past (λ r. f.named r t.0 a.target a.at) (f.notice t.0 a.target a.at a.untold) (f.failed d.sound) k.going,
      refl,
    )
error-events s n past LostDevice k d = (
  rows_beside s.next ErrorDevice past (with_error LostDevice s.device.rows) (λ i row at. refl) (stopped-rows s past k),
  harmless_device_error past k.going,
  refl,
)

error-step : (s : HalDeviceState) (n : ℕ) (past : List HalEvent) (after : HalDeviceState) → Sound s past → (o : Option ErrorEntry) → error_in n s ≡ o → after.next ≡ s.next → after.device.rows ≡ error_rows n o s.device.rows → Step after (error_of o) past
error-step s n past after k None at next rows = nothing after past (record { rows = rw (next, rows) k.rows; going = k.going })
error-step s n past after k (Some error) at next rows =
    let d = told s.device.faults n s.device.rows error (λ row found. (k.rows.fits n row found).place) at in
    let all = error-events s n past error k d in
    one after (error_event error) past (rw (next, rows) (rows_settled s.next n (error_event error ∷ past) (with_error error s.device.rows) all.0)) all.2 k.going all.1

-- ---- every call

step : (call : HalCall) (s : HalDeviceState) (past : List HalEvent) → Sound s past → Step (after_call call s) (events_of call s past) past
step Initialize s past k = initialize-step s past (initialize_error s) k
step (Configure specs) s past k =
    configure-step s (configured specs s) (ConfigureBegin None (streams_from 0 specs)) (ConfigureOk (most_from s.profile 0 specs)) past (configure_error specs s) k.rows k (λ n. refl) (λ n. refl) refl refl refl (λ f. refl)
step (Request n settings targets) s past k = request-step s n settings targets past k (request_error n settings targets s) refl
step (Expose time) s past k = expose-step s time past k (exposure_in s) refl
step (SendPart n) s past k = part-step s n past k (part_in n s) refl
step (Fill n t) s past k = fill-step s n t past k (may_fill n t.0 s) refl
step (Deliver n t room) s past k = deliver-step s n t room past k (may_deliver n t.0 room s) refl
step (TellError n) s past k = error-step s n past (after_error n s) k (error_in n s) refl refl refl
step (ReturnFailed n t) s past k = failed-step s n t past k (may_return_failed n t.0 s) refl
step BeginFlush s past k = flush-step s past (flush_error s) k
step EndFlush s past k = flush-end-step s past (end_error s) k
step BeginClose s past k = one (close_begun s) CloseBegin past (rows_beside s.next CloseBegin past (close_begun s).device.rows (λ n row at. refl) (stopped-rows s past k)) refl k.going refl

pub all_sound : (profile : Profile) (faults : List Fault) (calls : List HalCall) → Sound (state_after (opened profile faults) calls) (log_of (opened profile faults) calls)
all_sound profile faults [] = record {
  rows = record { order = refl; before = refl; fits = λ n row at. absurd (cc) };
  going = refl;
}
all_sound profile faults (call ∷ calls) =
    (step call (state_after (opened profile faults) calls) (log_of (opened profile faults) calls) (all_sound profile faults calls)).sound

pub keeps_them : (profile : Profile) (faults : List Fault) (calls : List HalCall) → KeepsThem profile faults calls
keeps_them profile faults [] = refl
keeps_them profile faults (call ∷ calls) =
    (step call (state_after (opened profile faults) calls) (log_of (opened profile faults) calls) (all_sound profile faults calls)).keeps (keeps_them profile faults calls)
