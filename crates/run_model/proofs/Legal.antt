-- The trace of a run is legal: the entry that a step adds is the one that is due.
use Rattle.std.proofs.Common.{◌≡◌, ℕ, ◌==◌, ◌+◌, Bool, true, false, ◌&&◌, ◌||◌, not, List, [], ◌∷◌, Option, Some, None, refl, sym, ap, ◌∙◌, arith, inl, inr, find, if◌then◌else◌}
use Rattle.std.specs.List.{list_any}
use Rattle.std.proofs.lemmas.Bool.{and_parts, cases_Bool, false≢true}
use Rattle.std.proofs.lemmas.Bool.Decides.{nat_tests}
use Rattle.cam_types.specs.declared.partial_result.PartialResult.{PartialResult}
use Rattle.cam_types.specs.declared.script.Command.{Command}
use Rattle.cam_types.specs.declared.script.Script.{Script}
use Rattle.trace_model.specs.declared.entry.Entry.{Entry}
use Rattle.trace_model.specs.declared.entry.Entry.TheVariants.{Begin, Call, Send as SendEntry, Dropped, Shutter as ShutterEntry, Partial as PartialEntry, Filled, Failed, ErrorDevice, Release as ReleaseEntry, Signal as SignalEntry, Early as EarlyEntry, Late as LateEntry}
use Rattle.trace_model.specs.declared.entry.Sent.{Sent}
use Rattle.trace_model.specs.Allowed.{IsAllowed}
use Rattle.trace_model.specs.Calls.{is_waiting_command, next_command, word_of}
use Rattle.trace_model.specs.Client.{begin_due, begin_of, call_due, call_of, may_answer}
use Rattle.trace_model.specs.Drop.{drop_due, drop_of}
use Rattle.trace_model.specs.Entry.{is_early_with}
use Rattle.trace_model.specs.Errors.{error_request_due, error_result_due, failed_due, failed_of, fence_left, may_fail_buffer, may_fail_device_at, may_fail_request, may_fail_result}
use Rattle.trace_model.specs.Faults.{device_fault}
use Rattle.trace_model.specs.Fence.{is_late}
use Rattle.trace_model.specs.Filled.{early_due, early_of, filled_due, filled_of, late_due, late_of, may_deliver}
use Rattle.trace_model.specs.Frames.{each_earlier, frames, has_error, has_error_request, has_shutter, is_sent, settings_of, target_of}
use Rattle.trace_model.specs.Legal.{IsLegal}
use Rattle.trace_model.specs.Numbers.{call_count, next_early, next_fence, next_number}
use Rattle.trace_model.specs.Open.{early_fences, has_error_buffer}
use Rattle.trace_model.specs.Partial.{may_have_partial, partial_count, partial_of, partial_due}
use Rattle.cam_types.specs.Metadata.{part_at}
use Rattle.trace_model.specs.Picture.{digest_of}
use Rattle.trace_model.specs.Place.{is_at_device_by}
use Rattle.trace_model.specs.Queue.{first_in, queued}
use Rattle.cam_types.specs.declared.request.WaitingItem.{WaitingItem}
use Rattle.trace_model.specs.Release.{release_due, signal_due}
use Rattle.trace_model.specs.Reply.{reply}
use Rattle.trace_model.specs.Shutter.{is_next_for_sensor, may_expose, next_time, shutter_at, shutter_due}
use Rattle.trace_model.specs.Stopping.{is_stopping}
use Rattle.run_model.specs.declared.step.Move.{Move}
use Rattle.run_model.specs.declared.step.StepName.{StepName}
use Rattle.run_model.specs.declared.step.StepName.TheVariants.{Send, Release, Signal, Client, DropQueued, Fail, ReturnFailed, Shutter, SensorDone, Partial, TakeFill, FillDone, Deliver, Early, Finish}
use Rattle.run_model.specs.History.{trace_of, with_entry}
use Rattle.run_model.specs.Jobs.{is_fill_out, is_filled_in, is_sensor_out}
use Rattle.run_model.specs.Ready.{adding, error_due, failure_at, finish_due, first_buffer_error, late_with, least_buffer_error, may_take_fill, move_of, or_entry, silent, where_entry}
use Rattle.run_model.specs.Run.{IsRun}
use Rattle.trace_laws.proofs.Due.{send-allowed}
use Rattle.basic_lemmas.proofs.Lists.{any-behind}

-- what holds of the entry of a test that passes holds of what is given
pub by_test : (P : Entry → Type 0) (b : Bool) (x e : Entry) → (if b then Some x else None) ≡ Some e → (b ≡ true → P x) → P e
by_test P true x e h each = let same : x ≡ e = cc in rw same at (each refl)
by_test P false x e h each = absurd (cc)

-- ---- one kind after another

pub release_allowed : (script : Script) (past : List Entry) (b : ℕ) (e : Entry) → release_due past b ≡ Some e → IsAllowed script past e
release_allowed script past b e h = by_test (IsAllowed script past) _ (ReleaseEntry (record { 0 = b }) (record { 0 = next_fence past })) e h (λ t. rw t refl)

pub signal_allowed : (script : Script) (past : List Entry) (f : ℕ) (e : Entry) → signal_due past f ≡ Some e → IsAllowed script past e
signal_allowed script past f e h = by_test (IsAllowed script past) _ (SignalEntry (record { 0 = f })) e h (λ t. rw t refl)

pub begin_shape : (P : Entry → Type 0) (past : List Entry) (o : Option Command) (e : Entry) → begin_of past o ≡ Some e → ((c : Command) → P (Begin (word_of c))) → P e
begin_shape P past None e h each = absurd (cc)
begin_shape P past (Some c) e h each = by_test P (is_waiting_command c && not _) (Begin (word_of c)) e h (λ t. each c)

pub call_shape : (P : Entry → Type 0) (script : Script) (past : List Entry) (o : Option Command) (e : Entry) → call_of script past o ≡ Some e → ((c : Command) → P (Call (call_count past) (word_of c) (reply script past c))) → P e
call_shape P script past None e h each = absurd (cc)
call_shape P script past (Some c) e h each = by_test P (may_answer script past c) (Call (call_count past) (word_of c) (reply script past c)) e h (λ t. each c)

client_allowed : (script : Script) (past : List Entry) (x : Option Entry) (e : Entry) → begin_due script past ≡ x → or_entry x (call_due script past) ≡ Some e → IsAllowed script past e
client_allowed script past None e at h =
    call_shape (λ d. call_due script past ≡ Some d → IsAllowed script past d) script past (next_command script past) e h (λ c k. k) h
client_allowed script past (Some d) e at h =
    let due : begin_due script past ≡ Some e = at ∙ h in
    begin_shape (λ d. begin_due script past ≡ Some d → IsAllowed script past d) past (next_command script past) e due (λ c k. k) due

pub drop_shape : (P : Entry → Type 0) (past : List Entry) (b : Bool) (o : Option WaitingItem) (e : Entry) → (if b then drop_of past o else None) ≡ Some e → ((w : WaitingItem) → P (Dropped (record { 0 = next_number past }) (w.request) w.index)) → P e
drop_shape P past false o e h each = absurd (cc)
drop_shape P past true None e h each = absurd (cc)
drop_shape P past true (Some w) e h each = let same : Dropped (record { 0 = next_number past }) (w.request) w.index ≡ e = cc in rw same at (each w)

pub drop_allowed : (script : Script) (past : List Entry) (e : Entry) → drop_due script past ≡ Some e → IsAllowed script past e
drop_allowed script past e h =
    drop_shape (λ d. drop_due script past ≡ Some d → IsAllowed script past d) past (is_stopping past) (first_in (queued script past)) e h (λ w k. k) h

pub shutter_shape : (P : Entry → Type 0) (script : Script) (past : List Entry) (o : Option ℕ) (e : Entry) → shutter_at script past o ≡ Some e → ((n : ℕ) → P (ShutterEntry (record { 0 = n }) (next_time script past))) → P e
shutter_shape P script past None e h each = absurd (cc)
shutter_shape P script past (Some n) e h each = let same : ShutterEntry (record { 0 = n }) (next_time script past) ≡ e = cc in rw same at (each n)

pub shutter_allowed : (script : Script) (past : List Entry) (e : Entry) → shutter_due script past ≡ Some e → IsAllowed script past e
shutter_allowed script past e h =
    shutter_shape (λ d. shutter_due script past ≡ Some d → IsAllowed script past d) script past (find (may_expose script past) (frames past)) e h (λ n k. k) h

pub part_shape : (P : Entry → Type 0) (script : Script) (past : List Entry) (n k : ℕ) (o : Option ℕ) (e : Entry) → partial_of script past n k o ≡ Some e → ((part : PartialResult) → P (PartialEntry (record { 0 = n }) k part)) → P e
part_shape P script past n k None e h each = absurd (cc)
part_shape P script past n k (Some time) e h each = by_test P (may_have_partial script past n k) _ e h (λ t. each (part_at k (settings_of script past n) time))

pub part_allowed : (script : Script) (past : List Entry) (n : ℕ) (e : Entry) → partial_due script past n ≡ Some e → IsAllowed script past e
part_allowed script past n e h =
    part_shape (λ d. partial_due script past n ≡ Some d → IsAllowed script past d) script past n (partial_count n past + 1) _ e h (λ part k. k) h

pub failed_shape : (P : Entry → Type 0) (past : List Entry) (n s : ℕ) (o : Option Sent) (e : Entry) → failed_of past n s o ≡ Some e → ((t : Sent) → P (Failed (record { 0 = n }) (record { 0 = s }) t.buffer (fence_left t.fence past))) → P e
failed_shape P past n s None e h each = absurd (cc)
failed_shape P past n s (Some t) e h each = by_test P (is_at_device_by n s t.buffer.0 past && (has_error_request n past || has_error_buffer n s past)) _ e h (λ k. each t)

pub failed_allowed : (script : Script) (past : List Entry) (n s : ℕ) (e : Entry) → failed_due past n s ≡ Some e → IsAllowed script past e
failed_allowed script past n s e h =
    failed_shape (λ d. failed_due past n s ≡ Some d → IsAllowed script past d) past n s (target_of n s past) e h (λ t k. k) h

pub filled_shape : (P : Entry → Type 0) (script : Script) (past : List Entry) (n s : ℕ) (o : Option Sent) (e : Entry) → filled_of script past n s o ≡ Some e → ((t : Sent) → P (Filled (record { 0 = n }) (record { 0 = s }) t.buffer None (digest_of script past n s))) → P e
filled_shape P script past n s None e h each = absurd (cc)
filled_shape P script past n s (Some t) e h each = by_test P (may_deliver script past n s t) _ e h (λ k. each t)

pub filled_allowed : (script : Script) (past : List Entry) (n s : ℕ) (e : Entry) → filled_due script past n s ≡ Some e → IsAllowed script past e
filled_allowed script past n s e h =
    filled_shape (λ d. filled_due script past n s ≡ Some d → IsAllowed script past d) script past n s (target_of n s past) e h (λ t k. k) h

pub early_shape : (P : Entry → Type 0) (script : Script) (past : List Entry) (n s : ℕ) (o : Option Sent) (e : Entry) → early_of script past n s o ≡ Some e → ((t : Sent) → P (EarlyEntry (record { 0 = n }) (record { 0 = s }) t.buffer (record { 0 = next_early past }))) → P e
early_shape P script past n s None e h each = absurd (cc)
early_shape P script past n s (Some t) e h each = by_test P (script.early && may_deliver script past n s t) _ e h (λ k. each t)

pub early_allowed : (script : Script) (past : List Entry) (n s : ℕ) (e : Entry) → early_due script past n s ≡ Some e → IsAllowed script past e
early_allowed script past n s e h =
    early_shape (λ d. early_due script past n s ≡ Some d → IsAllowed script past d) script past n s (target_of n s past) e h (λ t k. k) h

pub by_failing : (P : Entry → Type 0) (b : Bool) (x e : Entry) → (if b then None else Some x) ≡ Some e → P x → P e
by_failing P true x e h each = absurd (cc)
by_failing P false x e h each = let same : x ≡ e = cc in rw same at each

pub late-shape : (P : Entry → Type 0) (script : Script) (past : List Entry) (d : ℕ) (o : Option Entry) (e : Entry) → late_of script past d o ≡ Some e → ((digest : List ℕ) → P (LateEntry (record { 0 = d }) digest)) → P e
late-shape P script past d None e h each = absurd (cc)
late-shape P script past d (Some (EarlyEntry n s b f)) e h each =
    by_failing P (is_late d past) (LateEntry (record { 0 = d }) (digest_of script past n.0 s.0)) e h (each (digest_of script past n.0 s.0))
late-shape P script past d (Some _) e h each = absurd (cc)

pub late_allowed : (script : Script) (past : List Entry) (d : ℕ) (e : Entry) → late_due script past d ≡ Some e → IsAllowed script past e
late_allowed script past d e h =
    late-shape (λ x. late_due script past d ≡ Some x → IsAllowed script past x) script past d (find (is_early_with d) past) e h (λ digest k. k) h

finish_allowed : (script : Script) (past : List Entry) (fences : List ℕ) (e : Entry) → late_with script past fences ≡ Some e → IsAllowed script past e
finish_allowed script past [] e h = absurd (cc)
finish_allowed script past (d ∷ _) e h = late_allowed script past d e h

-- ---- errors

pub where-entry : (b : Bool) (o : Option Entry) (e : Entry) → where_entry b o ≡ Some e → (b ≡ true) × (o ≡ Some e)
where-entry true o e h = (refl, h)
where-entry false o e h = absurd (cc)

-- one of the frames passes what a sent frame passes
sent_passes : (n : ℕ) (p : ℕ → Bool) (past : List Entry) → is_sent n past ≡ true → p n ≡ true → list_any p (frames past) ≡ true
sent_passes n p [] sent h = absurd (false≢true sent)
sent_passes n p (SendEntry m r i same targets ∷ past) sent h =
    elim (cases_Bool (m.0 == n)) [
      | inl here ↦ (let at : m.0 ≡ n = grind (arith, nat_tests) in rw (at, h) refl)
      | inr other ↦ (let sent' = rw other at sent in any-behind p m.0 (frames past) (sent_passes n p past sent' h))
    ]
sent_passes n p (e ∷ past) sent h = sent_passes n p past sent h

device_sent : (script : Script) (past : List Entry) (n : ℕ) → may_fail_device_at script past n ≡ true → is_sent n past ≡ true
device_sent script past n h =
    let first = and_parts (device_fault script n) (is_next_for_sensor n past) h in
    let earlier = each_earlier n (λ m. has_shutter m past || has_error_request m past) past in
    let bare = not (has_shutter n past) && not (has_error n past) in
    let second = and_parts (is_sent n past && bare) earlier first.1 in
    (and_parts (is_sent n past) bare second.0).0

failure_allowed : (script : Script) (past : List Entry) (n : ℕ) (e : Entry) → failure_at script past n ≡ Some e → IsAllowed script past e
failure_allowed script past n e h =
    by_test (IsAllowed script past) (not (is_stopping past) && may_fail_device_at script past n) ErrorDevice e h
    (λ t.
    let parts = and_parts (not (is_stopping past)) (may_fail_device_at script past n) t in
    let any = sent_passes n (may_fail_device_at script past) past (device_sent script past n parts.1) parts.1 in
    rw (parts.0, any) refl)

pub request_allowed : (script : Script) (past : List Entry) (n : ℕ) (e : Entry) → error_request_due script past n ≡ Some e → IsAllowed script past e
request_allowed script past n e h = by_test (IsAllowed script past) (may_fail_request script past n) _ e h (λ t. rw t refl)

pub result_allowed : (script : Script) (past : List Entry) (n : ℕ) (e : Entry) → error_result_due script past n ≡ Some e → IsAllowed script past e
result_allowed script past n e h = by_test (IsAllowed script past) (may_fail_result script past n) _ e h (λ t. rw t refl)

buffer_allowed : (script : Script) (past : List Entry) (n : ℕ) (o : Option Sent) (e : Entry) → first_buffer_error script past n o ≡ Some e → IsAllowed script past e
buffer_allowed script past n None e h = absurd (cc)
buffer_allowed script past n (Some t) e h = by_test (IsAllowed script past) (may_fail_buffer script past n t.stream.0) _ e h (λ k. rw k refl)

either : (P : Entry → Type 0) (a b : Option Entry) (e : Entry) → or_entry a b ≡ Some e → (a ≡ Some e → P e) → (b ≡ Some e → P e) → P e
either P None b e h first second = second h
either P (Some x) b e h first second = first h

error_allowed : (script : Script) (past : List Entry) (n : ℕ) (e : Entry) → error_due script past n ≡ Some e → IsAllowed script past e
error_allowed script past n e h =
    let last = least_buffer_error script past n in
    let result = error_result_due script past n in
    let request = error_request_due script past n in
    either (IsAllowed script past) (failure_at script past n) (or_entry request (or_entry result last)) e h (failure_allowed script past n e)
    (λ h. either (IsAllowed script past) request (or_entry result last) e h (request_allowed script past n e)
    (λ h. either (IsAllowed script past) result last e h (result_allowed script past n e) (buffer_allowed script past n _ e)))

-- ---- moves

-- what a step that adds an entry makes, and what one that adds none does
pub adds : (step : StepName) (o : Option Entry) (m : Move) → adding step o ≡ Some m → (e : Entry) × (o ≡ Some e) × (m.entry ≡ Some e)
adds step None m h = absurd (cc)
adds step (Some e) m h = let same : record { step = step; entry = Some e } ≡ m = cc in (e, refl, ap (λ (z : Move). z.entry) (sym same))

pub adds-none : (step : StepName) (b : Bool) (m : Move) → silent step b ≡ Some m → (b ≡ true) × (m.entry ≡ None)
adds-none step true m h = let same : record { step = step; entry = None } ≡ m = cc in (refl, ap (λ (z : Move). z.entry) (sym same))
adds-none step false m h = absurd (cc)

-- the move's entry, if it has one, is allowed
abbrev pub IsAllowedIn : Script → List Entry → Option Entry → Type 0
IsAllowedIn script past None = Unit {0}
IsAllowedIn script past (Some e) = IsAllowed script past e

adds_allowed : (script : Script) (past : List Entry) (step : StepName) (o : Option Entry) (m : Move) → adding step o ≡ Some m → ((e : Entry) → o ≡ Some e → IsAllowed script past e) → IsAllowedIn script past m.entry
adds_allowed script past step o m h each = let a = adds step o m h in let may = each a.0 a.1 in rw a.2 may

none_allowed : (script : Script) (past : List Entry) (step : StepName) (b : Bool) (m : Move) → silent step b ≡ Some m → IsAllowedIn script past m.entry
none_allowed script past step b m h = rw (adds-none step b m h).1 tt

pub move-allowed : (script : Script) (h : List Move) (step : StepName) (m : Move) → move_of script h step ≡ Some m → IsAllowedIn script (trace_of h) m.entry
move-allowed script h Send m k = adds_allowed script (trace_of h) Send _ m k (λ e d. send-allowed script (trace_of h) e d)
move-allowed script h (Release b) m k = adds_allowed script (trace_of h) (Release b) _ m k (λ e d. release_allowed script (trace_of h) b.0 e d)
move-allowed script h (Signal f) m k = adds_allowed script (trace_of h) (Signal f) _ m k (λ e d. signal_allowed script (trace_of h) f.0 e d)
move-allowed script h Client m k = adds_allowed script (trace_of h) Client _ m k (λ e d. client_allowed script (trace_of h) (begin_due script (trace_of h)) e refl d)
move-allowed script h DropQueued m k = adds_allowed script (trace_of h) DropQueued _ m k (λ e d. drop_allowed script (trace_of h) e d)
move-allowed script h (Fail n) m k = adds_allowed script (trace_of h) (Fail n) _ m k (λ e d. error_allowed script (trace_of h) n.0 e d)
move-allowed script h (ReturnFailed n s) m k =
    adds_allowed script (trace_of h) (ReturnFailed n s) _ m k
    (λ e d. failed_allowed script (trace_of h) n.0 s.0 e (where-entry (not (is_sensor_out h n.0) && not (is_fill_out h n.0 s.0)) (failed_due (trace_of h) n.0 s.0) e d).1)
move-allowed script h Shutter m k = adds_allowed script (trace_of h) Shutter _ m k (λ e d. shutter_allowed script (trace_of h) e d)
move-allowed script h (SensorDone n) m k = none_allowed script (trace_of h) (SensorDone n) (is_sensor_out h n.0) m k
move-allowed script h (Partial n) m k = adds_allowed script (trace_of h) (Partial n) _ m k (λ e d. part_allowed script (trace_of h) n.0 e d)
move-allowed script h (TakeFill n s) m k = none_allowed script (trace_of h) (TakeFill n s) (may_take_fill script h n.0 s.0) m k
move-allowed script h (FillDone n s) m k = none_allowed script (trace_of h) (FillDone n s) (is_fill_out h n.0 s.0) m k
move-allowed script h (Deliver n s) m k =
    adds_allowed script (trace_of h) (Deliver n s) _ m k
    (λ e d. filled_allowed script (trace_of h) n.0 s.0 e (where-entry (is_filled_in h n.0 s.0) (filled_due script (trace_of h) n.0 s.0) e d).1)
move-allowed script h (Early n s) m k =
    adds_allowed script (trace_of h) (Early n s) _ m k
    (λ e d. early_allowed script (trace_of h) n.0 s.0 e (where-entry (is_fill_out h n.0 s.0) (early_due script (trace_of h) n.0 s.0) e d).1)
move-allowed script h (Finish n s) m k =
    adds_allowed script (trace_of h) (Finish n s) _ m k
    (λ e d. finish_allowed script (trace_of h) (early_fences n.0 s.0 (trace_of h)) e (where-entry (is_filled_in h n.0 s.0) (finish_due script (trace_of h) n.0 s.0) e d).1)

legal_with : (script : Script) (past : List Entry) (o : Option Entry) → IsAllowedIn script past o → IsLegal script past → IsLegal script (with_entry o past)
legal_with script past None may legal = legal
legal_with script past (Some e) may legal = (may, legal)

pub runs_legally : (script : Script) (h : List Move) → IsRun script h → IsLegal script (trace_of h)
runs_legally script [] run = tt
runs_legally script (m ∷ h) run = legal_with script (trace_of h) m.entry (move-allowed script h m.step m run.0) (runs_legally script h run.1)
