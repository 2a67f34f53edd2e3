-- Rules of callbacks: shutters, metadata and errors.
use Rattle.std.proofs.Common.{◌≡◌, ℕ, ◌==◌, ◌<◌, ◌≤◌, ◌+◌, Bool, true, false, ◌&&◌, ◌||◌, not, List, [], ◌∷◌, Some, refl, sym, ◌∙◌, arith, inl, inr, nat_le, nat_lt}
use Rattle.std.specs.List.{list_any}
use Rattle.std.proofs.lemmas.Bool.{and_parts, both_ways, cases_Bool, eq-eqb, eqb-true, false≢true, not-true, or_parts}
use Rattle.std.proofs.lemmas.Bool.Decides.{nat_tests}
use Rattle.basic_lemmas.proofs.Lists.{any-behind, any-never, any-or, any-where}
use Rattle.basic_lemmas.proofs.Tests.{and-false, passed-where, or-neither, not-so}
use Rattle.cam_types.specs.declared.number.FrameNo.{FrameNo}
use Rattle.cam_types.specs.declared.number.StreamIx.{StreamIx}
use Rattle.cam_types.specs.declared.partial_result.PartialResult.{PartialResult}
use Rattle.cam_types.specs.declared.script.Script.{Script}
use Rattle.trace_model.specs.declared.entry.Entry.{Entry}
use Rattle.trace_model.specs.declared.entry.Entry.TheVariants.{Begin, Call, Send, Shutter, Partial, Filled, Failed, ErrorRequest, ErrorResult, ErrorBuffer, Early}
use Rattle.trace_model.specs.Allowed.{IsAllowed}
use Rattle.trace_model.specs.Entry.{is_error_of, is_part, is_partial, returns_of_frame}
use Rattle.trace_model.specs.Errors.{error_buffer_due, error_request_due, is_cut_short, may_fail_buffer, may_fail_request}
use Rattle.trace_model.specs.Faults.{buffer_fault, request_fault}
use Rattle.trace_model.specs.Frames.{has_error, has_error_request, has_shutter, has_target, is_sent}
use Rattle.trace_model.specs.Laws.{ends_metadata, ends_result_of}
use Rattle.trace_model.specs.Legal.{IsLegal}
use Rattle.trace_model.specs.Open.{has_error_buffer, has_error_result, has_part, has_something, is_open, is_returned}
use Rattle.trace_model.specs.Stopping.{is_stopped}
use Rattle.trace_laws.proofs.Metadata.{ends-open, result-fails}
use Rattle.trace_laws.proofs.MetadataOrder.{result-below}
use Rattle.trace_laws.proofs.Parts.{part-first, part-is}
use Rattle.trace_laws.proofs.Shutters.{exposed, no-request, shutter-sent}
use Rattle.hal_model.specs.declared.event.HalEvent.TheVariants.{ErrorResult as HalErrorResult, ErrorBuffer as HalErrorBuffer, Results}
use Rattle.hal_model.specs.declared.rule.Rule.TheVariants.{ShutterTwice, ShutterAfterRequestError, PartialNumber, PartialTwice, MetadataAfterRequestError, MetadataOrder, ErrorBesideRequestError, RequestErrorLate}
use Rattle.hal_model.specs.Callbacks.{has_sound_part, is_end_error, is_sound_part_in, error_beside_request_error, metadata_after_request_error, metadata_order, partial_number, partial_twice, request_error_late, shutter_after_request_error, shutter_twice}
use Rattle.hal_model.specs.Rules.{keeps_in_session}
use Rattle.trace_laws.proofs.BufferSends.{send-number}
use Rattle.trace_laws.proofs.Sends.{sent-below as number-below}
use Rattle.hal_model.specs.declared.event.HalEvent.{HalEvent}
use Rattle.hal_model.specs.declared.event.HalEvent.TheVariants.{RequestBegin}
use Rattle.hal_model.specs.Words.{begins, gives_something, had_later, is_error_in, is_later, is_later_with, is_live, is_refused, is_part as hal_part, since, stands, frames as hal_frames}
use Rattle.hal_model.specs.Hal.{callback, hal}
use Rattle.hal_laws.proofs.Readings.{IsCallbackTest, PassesNoOther, by_callback, never-again, none-read, part-reads, request-error-reads, shutter-reads, since-by-begin, since-by-call, since-none}
use Rattle.hal_laws.proofs.Comes.{CalledBack, ForbidsNone, kept}

pub dead-end : (a : Bool) {b : Bool} → b ≡ false → (a && b) ≡ false
dead-end true h = h
dead-end false h = refl

-- ---- shutters

pub shutter_twice_kept : (script : Script) (past : List Entry) → IsLegal script past → keeps_in_session 3 (hal script past) ShutterTwice ≡ true
shutter_twice_kept script past legal = kept (shutter_twice 3) script rule past legal
  where
    rule : ForbidsNone (shutter_twice 3) script
    rule (CalledBack past (Shutter n time) legal may) = dead-end (is_live 3 n.0 (hal script past)) (shutter-reads n.0 script past legal ∙ (exposed script past n time may).1)
    rule _ = refl

pub shutter_failed_kept : (script : Script) (past : List Entry) → IsLegal script past → keeps_in_session 3 (hal script past) ShutterAfterRequestError ≡ true
shutter_failed_kept script past legal = kept (shutter_after_request_error 3) script rule past legal
  where
    rule : ForbidsNone (shutter_after_request_error 3) script
    rule (CalledBack past (Shutter n time) legal may) = dead-end (is_live 3 n.0 (hal script past)) (request-error-reads n.0 script past legal ∙ no-request n.0 past (exposed script past n time may).2)
    rule _ = refl

-- ---- results

pub partial_number_kept : (script : Script) (past : List Entry) → IsLegal script past → keeps_in_session 3 (hal script past) PartialNumber ≡ true
partial_number_kept script past legal = kept (partial_number 3) script rule past legal
  where
    within : (k : ℕ) → 0 < k → k ≤ 3 → not (nat_lt 0 k && nat_le k 3) ≡ false
    within k low high = grind (arith, nat_tests, low, high)

    positive : (k c : ℕ) → k ≡ c + 1 → 0 < k
    positive k c at = omega (arith, at)

    rule : ForbidsNone (partial_number 3) script
    rule (CalledBack past (Partial n k part) legal may) =
        let is = part-is script past n k part may in
        within k (positive k _ is.number) is.short
    rule _ = refl

pub partial_twice_kept : (script : Script) (past : List Entry) → IsLegal script past → keeps_in_session 3 (hal script past) PartialTwice ≡ true
partial_twice_kept script past legal = kept (partial_twice 3) script rule past legal
  where
    rule : ForbidsNone (partial_twice 3) script
    rule (CalledBack past (Partial n k part) legal may) = dead-end (is_live 3 n.0 (hal script past)) (dead-end (nat_lt 0 k && nat_le k 3) (part-reads n.0 k script past legal ∙ part-first script past n k part legal may))
    rule _ = refl

pub metadata_failed_kept : (script : Script) (past : List Entry) → IsLegal script past → keeps_in_session 3 (hal script past) MetadataAfterRequestError ≡ true
metadata_failed_kept script past legal = kept (metadata_after_request_error 3) script rule past legal
  where
    rule : ForbidsNone (metadata_after_request_error 3) script
    rule (CalledBack past (Partial n k part) legal may) = dead-end (is_live 3 n.0 (hal script past)) (request-error-reads n.0 script past legal ∙ (part-is script past n k part may).no_request)
    rule _ = refl

no_begins : (m : ℕ) → PassesNoOther (begins m)
no_begins m (RequestBegin j same ts a b) h = absurd (false≢true h)
no_begins m _ h = refl

-- a request that was begun behind n's begin has a greater number
pub later-above : (script : Script) (past : List Entry) (n m : ℕ) → IsLegal script past → is_sent n past ≡ true → stands n (begins m) (hal script past) ≡ true → n < m
later-above script [] n m legal sent h = absurd (false≢true sent)
later-above script (Begin w ∷ past) n m legal sent h = later-above script past n m legal.1 sent (sym (since-by-begin (begins m) (no_begins m) script past n w) ∙ h)
later-above script (Call i w r ∷ past) n m legal sent h = later-above script past n m legal.1 sent (sym (since-by-call (begins m) (no_begins m) script past n i w r) ∙ h)
later-above script (Send j r i same targets ∷ past) n m legal sent h =
    elim (cases_Bool (j.0 == n)) [
      | inl here ↦ (let h' = rw here at h in absurd (false≢true h'))
      | inr other ↦ (
          let sent' = rw other at sent in
          let h' = rw other at h in
          elim (cases_Bool (j.0 == m)) [
            | inl one ↦ (
                let number = send-number script past j.0 r.0 i same targets legal.0 in
                let below = number-below script past n legal.1 sent' in
                omega (arith, number, below, eqb-true j.0 m one)
                )
            | inr not' ↦ (let h'' = rw not' at h' in later-above script past n m legal.1 sent' h'')
          ]
          )
    ]
later-above script (e ∷ past) n m legal sent h = later-above script past n m legal.1 sent h

-- a sound last part is a last part
sound_part : (m : ℕ) (hs : List HalEvent) → is_sound_part_in 3 m hs ≡ true → list_any (hal_part m 3) hs ≡ true
sound_part m [] h = h
sound_part m (x ∷ hs) h =
    elim (cases_Bool (hal_part m 3 x)) [
      | inl here ↦ rw here refl
      | inr other ↦ (let h' = rw other at h in any-behind (hal_part m 3) x hs (sound_part m hs h'))
    ]

part_ends : (m : ℕ) (past : List Entry) → has_part m 3 past ≡ true → list_any (ends_result_of m) past ≡ true
part_ends m past h = any-where (is_part m 3) (ends_result_of m) past each h
  where
    each : (e : Entry) → is_part m 3 e ≡ true → ends_result_of m e ≡ true
    each (Partial j k part) h = rw h refl
    each _ h = absurd (false≢true h)

not_overtaken : (script : Script) (past : List Entry) (n : FrameNo) (k : ℕ) (part : PartialResult) (m : ℕ) → IsLegal script past → IsAllowed script past (Partial n k part) → (k == 3) ≡ true → is_later_with (has_sound_part 3) n.0 (hal script past) m ≡ false
not_overtaken script past n k part m legal may last =
    not-so (is_later_with (has_sound_part 3) n.0 (hal script past) m)
    (λ over.
    let parts = and_parts (is_later n.0 m (hal script past)) (is_sound_part_in 3 m (since m (hal script past))) over in
    let later = (and_parts (stands n.0 (begins m) (hal script past)) (not (is_refused m (hal script past))) parts.0).0 in
    let sent = shutter-sent script past n.0 legal (part-is script past n k part may).shutter in
    let above = later-above script past n.0 m legal sent later in
    let ended = part_ends m past (sym (part-reads m 3 script past legal) ∙ sound_part m (since m (hal script past)) parts.1) in
    let ends : ends_metadata n.0 (Partial n k part) ≡ true = rw (eq-eqb n.0 n.0 refl, last) refl in
    let still = ends-open script past (Partial n k part) n.0 legal may ends in
    both_ways (list_any (ends_metadata n.0) past) still (result-below script past n.0 m legal ended above sent))

pub metadata_order_kept : (script : Script) (past : List Entry) → IsLegal script past → keeps_in_session 3 (hal script past) MetadataOrder ≡ true
metadata_order_kept script past legal = kept (metadata_order 3) script rule past legal
  where
    rule : ForbidsNone (metadata_order 3) script
    rule (CalledBack past (Partial n k part) legal may) =
        elim (cases_Bool (k == 3)) [
          | inl last ↦ dead-end (is_live 3 n.0 (hal script past) && ((k == 3) && not (stands n.0 (is_end_error n.0) (hal script past)))) (or-neither (list_any (is_later_with (has_sound_part 3) n.0 (hal script past)) (hal_frames (hal script past))) (had_later (has_sound_part 3) n.0 (hal script past)) (any-never (is_later_with (has_sound_part 3) n.0 (hal script past)) (hal_frames (hal script past)) (λ m. not_overtaken script past n k part m legal may last)) (never-again (has_sound_part 3) n.0 script past legal))
          | inr no' ↦ rw (no', and-false (is_live 3 n.0 (hal script past))) refl
        ]
    rule _ = refl

-- ---- errors

-- what an error of a buffer says of the past before it
pub record BufferFails (past : List Entry) (n s : ℕ) : Type 0 where
  pub target : has_target n s past ≡ true
  pub shutter : has_shutter n past ≡ true
  pub no_request : has_error_request n past ≡ false
  pub first : has_error_buffer n s past ≡ false
  pub out : is_returned n s past ≡ false

pub buffer-fails : (script : Script) (past : List Entry) (n : FrameNo) (s : StreamIx) → error_buffer_due script past n.0 s.0 ≡ Some (ErrorBuffer n s) → BufferFails past n.0 s.0
buffer-fails script past n s h =
    let is = fails (has_target n.0 s.0 past) (has_shutter n.0 past) (not (request_fault script n.0) || is_stopped n.0 past) (has_error_request n.0 past) (has_error_buffer n.0 s.0 past) (is_returned n.0 s.0 past) (buffer_fault script n.0 s.0 || is_cut_short past n.0)
    (passed-where (may_fail_buffer script past n.0 s.0) (ErrorBuffer (record { 0 = n.0 }) (record { 0 = s.0 })) (ErrorBuffer n s) h) in
    record { target = is.0; shutter = is.1; no_request = is.2; first = is.3; out = is.4 }
  where
    fails : (a b c d e f g : Bool) → ((a && ((b && c) && not d)) && ((not e && not f) && g)) ≡ true → (a ≡ true) × (b ≡ true) × (d ≡ false) × (e ≡ false) × (f ≡ false)
    fails true true true false false false true h = (refl, refl, refl, refl, refl)
    fails _ _ _ _ _ _ _ h = absurd (false≢true h)

-- of a request that fails whole nothing stands
pub request-bare : (script : Script) (past : List Entry) (n : FrameNo) → error_request_due script past n.0 ≡ Some (ErrorRequest n) → (is_sent n.0 past ≡ true) × (has_something n.0 past ≡ false)
request-bare script past n h =
    let may = passed-where (may_fail_request script past n.0) (ErrorRequest (record { 0 = n.0 })) (ErrorRequest n) h in
    let first = (and_parts (is_open n.0 past && not (has_something n.0 past)) _ may).0 in
    let two = and_parts (is_open n.0 past) (not (has_something n.0 past)) first in
    ((and_parts (is_sent n.0 past) _ two.0).0, not-true (has_something n.0 past) two.1)

pub error_beside_kept : (script : Script) (past : List Entry) → IsLegal script past → keeps_in_session 3 (hal script past) ErrorBesideRequestError ≡ true
error_beside_kept script past legal = kept (error_beside_request_error 3) script rule past legal
  where
    rule : ForbidsNone (error_beside_request_error 3) script
    rule (CalledBack past (ErrorResult n) legal may) =
        dead-end (is_live 3 n.0 (hal script past)) (request-error-reads n.0 script past legal ∙ (or_parts (has_error_result n.0 past) (has_error_request n.0 past) (or_parts (has_part n.0 3 past) (has_error_result n.0 past || has_error_request n.0 past) (result-fails script past n may).open_still).1).1)
    rule (CalledBack past (ErrorBuffer n s) legal may) = dead-end (is_live 3 n.0 (hal script past)) (request-error-reads n.0 script past legal ∙ (buffer-fails script past n s may).no_request)
    rule _ = refl

pub request_error_kept : (script : Script) (past : List Entry) → IsLegal script past → keeps_in_session 3 (hal script past) RequestErrorLate ≡ true
request_error_kept script past legal = kept (request_error_late 3) script rule past legal
  where
    of_something : (n : ℕ) → IsCallbackTest (gives_something n)
    of_something n (Results m j pack bs input) h = absurd (false≢true (sym h))
    of_something n _ h = refl

    something : (n : ℕ) (e : Entry) → by_callback (gives_something n) (callback e) ≡ true → (is_partial n e || returns_of_frame n e) ≡ true
    something n (Filled m t c f d) h = (and_parts (m.0 == n) true h).0
    something n (Early m t c d) h = absurd (false≢true (sym (and-false (m.0 == n)) ∙ h))
    something n (Failed m t c f) h = absurd (false≢true (sym (and-false (m.0 == n)) ∙ h))
    something n (Partial m k part) h = rw h refl
    something n _ h = absurd (false≢true h)

    of_error : (n : ℕ) → IsCallbackTest (is_error_in n)
    of_error n (HalErrorResult m) h = absurd (false≢true (sym h))
    of_error n (HalErrorBuffer m t) h = absurd (false≢true (sym h))
    of_error n _ h = refl

    error : (n : ℕ) (e : Entry) → by_callback (is_error_in n) (callback e) ≡ true → is_error_of n e ≡ true
    error n (ErrorResult m) h = h
    error n (ErrorBuffer m t) h = h
    error n _ h = absurd (false≢true h)

    rule : ForbidsNone (request_error_late 3) script
    rule (CalledBack past (ErrorRequest n) legal may) =
        let bare = or_parts (list_any (is_partial n.0) past) (list_any (returns_of_frame n.0) past || has_error n.0 past) (request-bare script past n may).1 in
        let rest = or_parts (list_any (returns_of_frame n.0) past) (has_error n.0 past) bare.1 in
        let none = any-or (is_partial n.0) (returns_of_frame n.0) past in
        let none' : list_any (λ e. is_partial n.0 e || returns_of_frame n.0 e) past ≡ false = none ∙ rw (bare.0, rest.0) refl in
        dead-end (is_live 3 n.0 (hal script past))
        (rw (
          since-none (gives_something n.0) n.0 (hal script past) (none-read (gives_something n.0) (λ e. is_partial n.0 e || returns_of_frame n.0 e) (of_something n.0) (something n.0) script past none'),
          since-none (is_error_in n.0) n.0 (hal script past) (none-read (is_error_in n.0) (is_error_of n.0) (of_error n.0) (error n.0) script past rest.1),
        ) refl)
    rule _ = refl
