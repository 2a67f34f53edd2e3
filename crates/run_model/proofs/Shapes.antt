-- Which entry a step adds, by its shape: what holds of each entry that it may have holds of the one that it adds.
use Rattle.std.proofs.Common.{◌≡◌, ℕ, Bool, true, false, List, Option, Some, None, find, if◌then◌else◌}
use Rattle.cam_types.specs.Four.{four_of}
use Rattle.cam_types.specs.declared.request.Queued.{Queued}
use Rattle.cam_types.specs.declared.script.Script.{Script}
use Rattle.trace_model.specs.declared.entry.Entry.{Entry}
use Rattle.trace_model.specs.declared.entry.Entry.TheVariants.{Send as SendEntry, ErrorBuffer, ErrorDevice, ErrorRequest, ErrorResult}
use Rattle.trace_model.specs.declared.entry.Sent.{Sent}
use Rattle.trace_model.specs.Errors.{error_request_due, error_result_due, may_fail_buffer}
use Rattle.trace_model.specs.Frames.{targets_of}
use Rattle.trace_model.specs.Numbers.{next_number}
use Rattle.trace_model.specs.Queue.{next}
use Rattle.trace_model.specs.Send.{least_targets, mark_of, may_go, send_due, send_next, send_with, targets_in_order}
use Rattle.run_model.specs.Ready.{error_due, failure_at, first_buffer_error, or_entry}
use Rattle.run_model.proofs.Legal.{by_test}
pub use Rattle.run_model.proofs.Legal.{late-shape}

pub or-shape : (P : Entry → Type 0) (a b : Option Entry) (e : Entry) → or_entry a b ≡ Some e → ((d : Entry) → a ≡ Some d → P d) → ((d : Entry) → b ≡ Some d → P d) → P e
or-shape P (Some x) b e h first second = first e h
or-shape P None b e h first second = second e h

-- ---- sends

abbrev pub OnSends : (Entry → Type 0) → Script → List Entry → Type 0
OnSends P script past = (w : Queued) (ts : List Sent) → P (SendEntry (record { 0 = next_number past }) w.request w.index (mark_of script past w.item.settings) (four_of ts))

send-some : (P : Entry → Type 0) (script : Script) (past : List Entry) (w : Queued) (o : Option (List Sent)) (e : Entry) → send_with script past w o ≡ Some e → OnSends P script past → P e
send-some P script past w None e h each = absurd (cc)
send-some P script past w (Some ts) e h each = by_test P true _ e h (λ t. each w ts)

send-if : (P : Entry → Type 0) (script : Script) (past : List Entry) (b : Bool) (w : Queued) (o : Option (List Sent)) (e : Entry) → (if b then send_with script past w o else None) ≡ Some e → OnSends P script past → P e
send-if P script past true w o e h each = send-some P script past w o e h each
send-if P script past false w o e h each = absurd (cc)

send-next : (P : Entry → Type 0) (script : Script) (past : List Entry) (o : Option Queued) (e : Entry) → send_next script past o ≡ Some e → OnSends P script past → P e
send-next P script past None e h each = absurd (cc)
send-next P script past (Some w) e h each = send-if P script past (may_go script past w) w (least_targets past (targets_in_order w.item)) e h each

pub send-shape : (P : Entry → Type 0) (script : Script) (past : List Entry) (e : Entry) → send_due script past ≡ Some e → OnSends P script past → P e
send-shape P script past e h each = send-next P script past (next script past) e h each

-- ---- errors

pub buffer-shape : (P : Entry → Type 0) (script : Script) (past : List Entry) (n : ℕ) (o : Option Sent) (e : Entry) → first_buffer_error script past n o ≡ Some e → ((s : ℕ) → P (ErrorBuffer (record { 0 = n }) (record { 0 = s }))) → P e
buffer-shape P script past n None e h each = absurd (cc)
buffer-shape P script past n (Some t) e h each = by_test P (may_fail_buffer script past n t.stream.0) _ e h (λ k. each t.stream.0)

pub error-shape : (P : Entry → Type 0) (script : Script) (past : List Entry) (n : ℕ) (e : Entry) → error_due script past n ≡ Some e → P ErrorDevice → P (ErrorRequest (record { 0 = n })) → P (ErrorResult (record { 0 = n })) → ((s : ℕ) → P (ErrorBuffer (record { 0 = n }) (record { 0 = s }))) → P e
error-shape P script past n e h device request result buffer =
    or-shape P (failure_at script past n) _ e h (λ d k. by_test P _ _ d k (λ t. device))
    (λ d k. or-shape P (error_request_due script past n) _ d k (λ x l. by_test P _ _ x l (λ t. request))
    (λ x l. or-shape P (error_result_due script past n) _ x l (λ y i. by_test P _ _ y i (λ t. result))
    (λ y i. buffer-shape P script past n (find (λ t. may_fail_buffer script past n t.stream.0) (targets_of n past)) y i buffer)))

-- ---- the signal of a device fence
