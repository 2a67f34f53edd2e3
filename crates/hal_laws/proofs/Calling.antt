-- Rules of calls.
use Rattle.std.proofs.Common.{◌≡◌, ℕ, ◌==◌, ◌+◌, ◌≤◌, count_by, Bool, true, false, ◌&&◌, ◌||◌, not, List, [], ◌∷◌, Option, Some, None, refl, sym, ◌∙◌, arith, inl, inr, is_some, take, zero, suc, map, nat_lt, slice_get}
use Rattle.std.specs.List.{list_any, list_all}
use Rattle.std.proofs.lemmas.Bool.{and_parts, both_ways, cases_Bool, eq-eqb, eqb-true, false≢true, lt-ltb, not-true, or_parts}
use Rattle.basic_lemmas.proofs.Lists.{any-behind, any-mapped, any-never, any-or}
use Rattle.basic_lemmas.proofs.Counts.{count-one, count-over, none-counted}
use Rattle.std.proofs.lemmas.Bool.Decides.{nat_tests}
use Rattle.trace_model.specs.Entry.{sends}
use Rattle.basic_lemmas.proofs.Tests.{and-false}
use Rattle.cam_types.specs.Four.{four_list}
use Rattle.cam_types.specs.declared.four.Four.{Four}
use Rattle.cam_types.specs.declared.request.Queued.{Queued}
use Rattle.cam_types.specs.declared.script.Script.{Script}
use Rattle.cam_types.specs.declared.item.Settings.{Settings}
use Rattle.cam_types.specs.declared.stream.StreamSpec.{StreamSpec}
use Rattle.trace_model.specs.declared.entry.Entry.{Entry}
use Rattle.trace_model.specs.declared.entry.Entry.TheVariants.{Begin, Call, Send, Shutter}
use Rattle.trace_model.specs.declared.entry.Sent.{Sent}
use Rattle.trace_model.specs.Calls.{begun}
use Rattle.trace_model.specs.Configuration.{streams}
use Rattle.trace_model.specs.Frames.{is_sent, target_of, targets_of}
use Rattle.trace_model.specs.Legal.{IsLegal}
use Rattle.trace_model.specs.Numbers.{next_number}
use Rattle.trace_model.specs.Open.{is_quiet, is_returned}
use Rattle.trace_model.specs.Place.{Device, Place, Pool, is_at, is_at_device_by, place}
use Rattle.trace_model.specs.Queue.{next}
use Rattle.trace_model.specs.Send.{are_last, are_streams, fits_next, has_capacity, is_same_bool, last_settings, may_repeat, may_send, takes_from_pool, targets_in_order}
use Rattle.trace_model.specs.Stopping.{has_failed, is_stopping, stops_by}
use Rattle.trace_model.proofs.LawLemmas.{Goes, at-device, goes, sends-from-pool}
use Rattle.trace_laws.proofs.StreamLemmas.{IsOwn, own-stream}
use Rattle.trace_laws.proofs.BufferSends.{holds, is_distinct, is_with, send-number, distinct_kept}
use Rattle.trace_laws.proofs.Out.{not-returned-out}
use Rattle.trace_laws.proofs.Streams.{one-stream}
use Rattle.trace_laws.proofs.Sends.{sent-below as number-below}
use Rattle.hal_model.specs.declared.event.HalEvent.TheVariants.{RequestOk, FlushOk, CloseBegin, CloseEnd}
use Rattle.hal_model.specs.declared.rule.Rule.TheVariants.{AcceptedNoSettings, AcceptedUnknownStream, CloseLeft, ConfigureInFlight, FlushLeft, FrameNumber, HeldBuffer, InitOrder, NoSettings, RepeatedStream, UnknownStream}
use Rattle.hal_model.specs.Device.{accepted_no_settings, accepted_unknown_stream, close_left, flush_left, is_left_by_flush}
use Rattle.hal_model.specs.Framework.{configure_in_flight, frame_number, held_buffer, init_order, is_awaited, is_flushed_in, is_in_flight, is_twice_buffer, is_unknown_to, no_settings, repeated_stream, unknown_stream}
use Rattle.hal_model.specs.Rules.{keeps_in_session}
use Rattle.hal_model.specs.declared.event.HalTarget.{HalTarget}
use Rattle.hal_model.specs.Words.{accepts_from, begins_flush, has_stream, is_accepted_before, is_back, is_dead, is_held, is_in_call, is_live, is_out, is_outstanding, since, frames as hal_frames, streams as hal_streams, targets_of as hal_targets_of}
use Rattle.hal_model.specs.Hal.{called, flush_begun, hal, stream, streams_from, target}
use Rattle.hal_laws.proofs.Alone.{dead-end}
use Rattle.hal_laws.proofs.Homes.{pool-own}
use Rattle.hal_laws.proofs.Keep.{any-append, begun-other, called-other, none_passes}
use Rattle.hal_laws.proofs.Readings.{PassesNoOther, targets-read}
use Rattle.hal_laws.proofs.Resting.{none-in-call, not-awaited, not-outstanding, own-target, target-back}
use Rattle.hal_laws.proofs.Standing.{initialized-always, settings-known, streams-read}
use Rattle.hal_laws.proofs.Comes.{CalledBack, CloseEnded, CloseEndedAfter, ConfigureBegun, FlushBegun, FlushEnded, ForbidsNone, RequestBegun, RequestEnded, kept}

-- ---- what a send says

next_goes : (script : Script) (past : List Entry) (o : Option Queued) (n r i : ℕ) (same : Bool) (targets : Four Sent) → fits_next script past o n r i same targets ≡ true → (w : Queued) × Goes script past w n r i same targets
next_goes script past None n r i same targets h = absurd (false≢true h)
next_goes script past (Some w) n r i same targets h = (w, goes script past w n r i same targets h)

pub send-goes : (script : Script) (past : List Entry) (n r i : ℕ) (same : Bool) (targets : Four Sent) → may_send script past n r i same targets ≡ true → (w : Queued) × Goes script past w n r i same targets
send-goes script past n r i same targets may = next_goes script past (next script past) n r i same targets may

pub send-going : (script : Script) (past : List Entry) (n r i : ℕ) (same : Bool) (targets : Four Sent) → may_send script past n r i same targets ≡ true → is_stopping past ≡ false
send-going script past n r i same targets may =
    let w = send-goes script past n r i same targets may in
    not-true (is_stopping past) (and_parts (not (is_stopping past)) (has_capacity script past (targets_in_order w.0.item) && (not w.0.repeating || may_repeat script past)) w.1.now).0

pub not-failed : (past : List Entry) → is_stopping past ≡ false → has_failed past ≡ false
not-failed past going = (or_parts (stops_by (begun past)) (has_failed past) going).1

-- ---- settings

marked : (same : Bool) (o : Option Settings) (s : Settings) → is_same_bool same (are_last o s) ≡ true → (same && not (is_some o)) ≡ false
marked true None s h = absurd (false≢true h)
marked true (Some t) s h = refl
marked false o s h = refl

pub accepted_no_settings_kept : (script : Script) (past : List Entry) → IsLegal script past → keeps_in_session 3 (hal script past) AcceptedNoSettings ≡ true
accepted_no_settings_kept script past legal = kept accepted_no_settings script rule past legal
  where
    rule : ForbidsNone accepted_no_settings script
    rule (RequestEnded past n r i same targets legal) =
        let w = send-goes script past n.0 r.0 i same targets legal.0 in
        rw (eq-eqb n.0 n.0 refl, settings-known script past) (marked same (last_settings script past) w.0.item.settings w.1.mark)
    rule (CalledBack past (Shutter n time) legal may) = refl
    rule _ = refl

pub no_settings_kept : (script : Script) (past : List Entry) → IsLegal script past → keeps_in_session 3 (hal script past) NoSettings ≡ true
no_settings_kept script past legal = kept no_settings script rule past legal
  where
    rule : ForbidsNone no_settings script
    rule (RequestBegun past n r i same targets legal) =
        let w = send-goes script past n.0 r.0 i same targets legal.0 in
        rw (settings-known script past) (marked same (last_settings script past) w.0.item.settings w.1.mark)
    rule (CalledBack past (Shutter n time) legal may) = refl
    rule _ = refl

-- ---- numbers

pub frame_number_kept : (script : Script) (past : List Entry) → IsLegal script past → keeps_in_session 3 (hal script past) FrameNumber ≡ true
frame_number_kept script past legal = kept frame_number script rule past legal
  where
    of_accepts : (n : ℕ) → PassesNoOther (accepts_from n)
    of_accepts n (RequestOk m) h = absurd (false≢true h)
    of_accepts n _ h = refl

    none_from : (past : List Entry) (n : ℕ) → ((m : ℕ) → is_sent m past ≡ true → nat_lt m n ≡ true) → list_any (accepts_from n) (hal script past) ≡ false
    none_from [] n below = refl
    none_from (Begin w ∷ past) n below = any-append (accepts_from n) (flush_begun w past) (hal script past) (none_passes (accepts_from n) (flush_begun w past) (of_accepts n) (begun-other w past)) ∙ none_from past n below
    none_from (Call i w r ∷ past) n below = any-append (accepts_from n) (called script past i w r) (hal script past) (none_passes (accepts_from n) (called script past i w r) (of_accepts n) (called-other script past i w r)) ∙ none_from past n below
    none_from (Send j r i same targets ∷ past) n below =
        let here : is_sent j.0 (Send j r i same targets ∷ past) ≡ true = rw (eq-eqb j.0 j.0 refl) refl in
        rw (below j.0 here, none_from past n (λ m sent. below m (any-behind (sends m) (Send j r i same targets) past sent))) refl
    none_from (e ∷ past) n below = none_from past n below

    rule : ForbidsNone frame_number script
    rule (RequestBegun past n r i same targets legal) =
        let number = send-number script past n.0 r.0 i same targets legal.0 in
        rw (
          none_from past n.0 (λ m sent. rw number (lt-ltb m (next_number past) (number-below script past m legal.1 sent))),
          any-never (λ m. is_in_call m (hal script past) && not (nat_lt m n.0)) (hal_frames (hal script past)) (λ m. rw (none-in-call script past m) refl),
        ) refl
    rule (CalledBack past (Shutter n time) legal may) = refl
    rule _ = refl

-- ---- what stands twice

abbrev pub is_repeated : (HalTarget → ℕ) → List HalTarget → Bool
is_repeated f [] = false
is_repeated f (t ∷ ts) = list_any (λ u. f u == f t) ts || is_repeated f ts

abbrev pub is_repeated_stream : List HalTarget → Bool
is_repeated_stream ts = is_repeated (λ t. t.stream) ts

abbrev pub is_repeated_buffer : List HalTarget → Bool
is_repeated_buffer ts = is_repeated (λ t. t.buffer) ts

pub one-each : (f : HalTarget → ℕ) (s : ℕ) (ts : List HalTarget) → is_repeated f ts ≡ false → count_by (λ t. f t == s) ts ≤ 1
one-each f s [] h = omega arith
one-each f s (t ∷ ts) h =
    let parts = or_parts (list_any (λ u. f u == f t) ts) (is_repeated f ts) h in
    elim (cases_Bool (f t == s)) [
      | inl here ↦ (
          let alone : list_any (λ u. f u == s) ts ≡ false = rw (eqb-true (f t) s here) at parts.0 in
          let none = none-counted (λ u. f u == s) ts alone in
          let one = count-one (λ u. f u == s) t ts here in
          omega (arith, none, one)
          )
      | inr other ↦ (
          let ih = one-each f s ts parts.1 in
          let over = count-over (λ u. f u == s) t ts other in
          omega (arith, ih, over)
          )
    ]

not_twice : (c : ℕ) → c ≤ 1 → nat_lt 1 c ≡ false
not_twice c few = grind (arith, nat_tests, few)

pub never-twice : (f : HalTarget → ℕ) (ts us : List HalTarget) → is_repeated f us ≡ false → list_any (λ t. nat_lt 1 (count_by (λ u. f u == f t) us)) ts ≡ false
never-twice f ts us once = any-never (λ t. nat_lt 1 (count_by (λ u. f u == f t) us)) ts (λ t. not_twice (count_by (λ u. f u == f t) us) (one-each f (f t) us once))

-- ---- streams

pub none-where : {X : Type 0} (p q : X → Bool) (xs : List X) → ((x : X) → q x ≡ true → p x ≡ false) → list_all q xs ≡ true → list_any p xs ≡ false
none-where p q [] each all = refl
none-where p q (x ∷ xs) each all =
    let parts = and_parts (q x) (list_all q xs) all in
    rw (each x parts.0, none-where p q xs each parts.1) refl

has_from : (k s j : ℕ) (specs : List StreamSpec) → j ≡ k + s → is_some (slice_get specs s) ≡ true → has_stream j (streams_from k specs) ≡ true
has_from k s j [] at h = absurd (false≢true h)
has_from k zero j (spec ∷ specs) at h = rw (eq-eqb k j (omega (arith, at))) refl
has_from k (suc s) j (spec ∷ specs) at h = any-behind (λ x. x.stream == j) (stream k spec) (streams_from (k + 1) specs) (has_from (k + 1) s j specs (omega (arith, at)) h)

known-from : (s : ℕ) (specs : List StreamSpec) → is_some (slice_get specs s) ≡ true → has_stream s (streams_from 0 specs) ≡ true
known-from s specs h = has_from 0 s s specs (omega arith) h

all_known : (script : Script) (past : List Entry) (ts : List Sent) → IsLegal script past → list_all (takes_from_pool past) ts ≡ true → list_any (is_unknown_to (hal script past)) (map target ts) ≡ false
all_known script past ts legal all =
    rw (any-mapped (is_unknown_to (hal script past)) target ts)
    (none-where (λ t. not (has_stream t.stream.0 (hal_streams (hal script past)))) (takes_from_pool past) ts
    (λ t takes. rw (streams-read script past, known-from t.stream.0 (streams script past) (own-stream script past t.stream.0 t.buffer.0 legal (pool-own past t takes).0)) refl) all)

pub unknown_stream_kept : (script : Script) (past : List Entry) → IsLegal script past → keeps_in_session 3 (hal script past) UnknownStream ≡ true
unknown_stream_kept script past legal = kept unknown_stream script rule past legal
  where
    rule : ForbidsNone unknown_stream script
    rule (RequestBegun past n r i same targets legal) = all_known script past (four_list targets) legal.1 (sends-from-pool script past n.0 r.0 i same targets legal.0)
    rule (CalledBack past (Shutter n time) legal may) = refl
    rule _ = refl

pub accepted_unknown_stream_kept : (script : Script) (past : List Entry) → IsLegal script past → keeps_in_session 3 (hal script past) AcceptedUnknownStream ≡ true
accepted_unknown_stream_kept script past legal = kept accepted_unknown_stream script rule past legal
  where
    rule : ForbidsNone accepted_unknown_stream script
    rule (RequestEnded past n r i same targets legal) = rw (eq-eqb n.0 n.0 refl) (all_known script past (four_list targets) legal.1 (sends-from-pool script past n.0 r.0 i same targets legal.0))
    rule (CalledBack past (Shutter n time) legal may) = refl
    rule _ = refl

stream_absent : (s : ℕ) (ts : List Sent) (xs : List ℕ) → are_streams ts xs ≡ true → list_any (λ y. y == s) xs ≡ false → list_any (λ t. t.stream == s) (map target ts) ≡ false
stream_absent s [] xs are none = refl
stream_absent s (t ∷ ts) [] are none = absurd (false≢true are)
stream_absent s (t ∷ ts) (x ∷ xs) are none =
    let parts = and_parts (t.stream.0 == x) (are_streams ts xs) are in
    let apart = or_parts (x == s) (list_any (λ y. y == s) xs) none in
    let first : (t.stream.0 == s) ≡ false = rw (eqb-true t.stream.0 x parts.0) apart.0 in
    rw (first, stream_absent s ts xs parts.1 apart.1) refl

pub streams-once : (ts : List Sent) (xs : List ℕ) → are_streams ts xs ≡ true → is_distinct xs ≡ true → is_repeated_stream (map target ts) ≡ false
streams-once [] xs are once = refl
streams-once (t ∷ ts) [] are once = absurd (false≢true are)
streams-once (t ∷ ts) (x ∷ xs) are once =
    let parts = and_parts (t.stream.0 == x) (are_streams ts xs) are in
    let first = and_parts (not (list_any (λ y. y == x) xs)) (is_distinct xs) once in
    let none : list_any (λ y. y == t.stream.0) xs ≡ false = rw (eqb-true t.stream.0 x parts.0) (not-true (list_any (λ y. y == x) xs) first.0) in
    rw (stream_absent t.stream.0 ts xs parts.1 none, streams-once ts xs parts.1 first.1) refl

pub send-once : (script : Script) (past : List Entry) (n r i : ℕ) (same : Bool) (targets : Four Sent) → may_send script past n r i same targets ≡ true → is_repeated_stream (map target (four_list targets)) ≡ false
send-once script past n r i same targets may =
    let w = send-goes script past n r i same targets may in
    streams-once (four_list targets) (targets_in_order w.0.item) w.1.streams (distinct_kept (λ s. list_any (λ t. t == s) (take w.0.item.targets.count w.0.item.targets.list)) (0 ∷ (1 ∷ (2 ∷ (3 ∷ [])))) refl)

pub repeated_stream_kept : (script : Script) (past : List Entry) → IsLegal script past → keeps_in_session 3 (hal script past) RepeatedStream ≡ true
repeated_stream_kept script past legal = kept repeated_stream script rule past legal
  where
    rule : ForbidsNone repeated_stream script
    rule (RequestBegun past n r i same targets legal) = never-twice (λ t. t.stream) (map target (four_list targets)) (map target (four_list targets)) (send-once script past n.0 r.0 i same targets legal.0)
    rule (CalledBack past (Shutter n time) legal may) = refl
    rule _ = refl

-- ---- held buffers

-- a frame's target that isn't back in the log is at the device
out_by : (script : Script) (past : List Entry) (n s b : ℕ) (o : Option Sent) → IsLegal script past → target_of n s past ≡ o → holds b o ≡ true → is_returned n s past ≡ false → is_at_device_by n s b past ≡ true
out_by script past n s b None legal at h out = absurd (false≢true h)
out_by script past n s b (Some t) legal at h out = let by = not-returned-out script past n s t legal at out in rw (eqb-true t.buffer.0 b h) at by

pub out-at-device : (script : Script) (past : List Entry) (n s b : ℕ) → IsLegal script past → list_any (is_with s b) (targets_of n past) ≡ true → is_back n b (hal script past) ≡ false → is_at_device_by n s b past ≡ true
out-at-device script past n s b legal among not_back =
    elim (cases_Bool (is_returned n s past)) [
      | inl returned ↦ absurd (both_ways (is_back n b (hal script past)) not_back (target-back script past n s b legal among returned))
      | inr out ↦ out_by script past n s b (target_of n s past) legal refl (own-target script past n s b legal among) out
    ]

held_out : (script : Script) (past : List Entry) (n b : ℕ) (ts : List Sent) → IsLegal script past → ((t : Sent) → list_any (is_with t.stream.0 t.buffer.0) ts ≡ true → list_any (is_with t.stream.0 t.buffer.0) (targets_of n past) ≡ true) → list_any (λ t. (t.buffer.0 == b) && not (is_back n t.buffer.0 (hal script past))) ts ≡ true → is_at (place b past) Device ≡ true
held_out script past n b [] legal inside h = absurd (false≢true h)
held_out script past n b (t ∷ ts) legal inside h =
    elim (cases_Bool ((t.buffer.0 == b) && not (is_back n t.buffer.0 (hal script past)))) [
      | inl here ↦ (
          let parts = and_parts (t.buffer.0 == b) (not (is_back n t.buffer.0 (hal script past))) here in
          let own : list_any (is_with t.stream.0 t.buffer.0) (t ∷ ts) ≡ true = rw (eq-eqb t.stream.0 t.stream.0 refl, eq-eqb t.buffer.0 t.buffer.0 refl) refl in
          let out = out-at-device script past n t.stream.0 t.buffer.0 legal (inside t own) (not-true (is_back n t.buffer.0 (hal script past)) parts.1) in
          let at : place t.buffer.0 past ≡ Device = at-device n t.stream.0 t.buffer.0 past out in
          rw (sym (eqb-true t.buffer.0 b parts.0), at) refl
          )
      | inr other ↦ (let h' = rw other at h in held_out script past n b ts legal (λ u among. inside u (any-behind (is_with u.stream.0 u.buffer.0) t ts among)) h')
    ]

none_held_by : (script : Script) (past : List Entry) (n b : ℕ) → IsLegal script past → is_at (place b past) Pool ≡ true → list_any (λ t. (t.buffer == b) && is_out n (hal script past) t) (hal_targets_of n (hal script past)) ≡ false
none_held_by script past n b legal home =
    elim (cases_Bool (list_any (λ t. (t.buffer == b) && is_out n (hal script past) t) (hal_targets_of n (hal script past)))) [
      | inl held ↦ (
          let held' = rw (targets-read script n past, any-mapped (λ t. (t.buffer == b) && is_out n (hal script past) t) target (targets_of n past)) at held in
          absurd (two_places (place b past) home (held_out script past n b (targets_of n past) legal (λ t h. h) held'))
          )
      | inr none ↦ none
    ]
  where
    two_places : (p : Place) → is_at p Pool ≡ true → is_at p Device ≡ true → ⊥
    two_places Pool h k = false≢true k
    two_places _ h k = false≢true h

pub not-held : (script : Script) (past : List Entry) (b : ℕ) → IsLegal script past → is_at (place b past) Pool ≡ true → is_held 3 b (hal script past) ≡ false
not-held script past b legal home =
    any-never (λ n. is_live 3 n (hal script past) && list_any (λ t. (t.buffer == b) && is_out n (hal script past) t) (hal_targets_of n (hal script past))) (hal_frames (hal script past))
    (λ n. rw (none_held_by script past n b legal home) (and-false (is_live 3 n (hal script past))))

-- two targets of different streams have different buffers
buffer_absent : (script : Script) (past : List Entry) (t : Sent) (ts : List Sent) → IsLegal script past → takes_from_pool past t ≡ true → list_all (takes_from_pool past) ts ≡ true → list_any (λ u. u.stream == t.stream.0) (map target ts) ≡ false → list_any (λ u. u.buffer == t.buffer.0) (map target ts) ≡ false
buffer_absent script past t [] legal takes all none = refl
buffer_absent script past t (u ∷ ts) legal takes all none =
    let parts = and_parts (takes_from_pool past u) (list_all (takes_from_pool past) ts) all in
    let apart = or_parts (u.stream.0 == t.stream.0) (list_any (λ x. x.stream == t.stream.0) (map target ts)) none in
    rw (first parts.0 apart.0, buffer_absent script past t ts legal takes parts.1 apart.1) refl
  where
    first : takes_from_pool past u ≡ true → (u.stream.0 == t.stream.0) ≡ false → (u.buffer.0 == t.buffer.0) ≡ false
    first taken apart =
        elim (cases_Bool (u.buffer.0 == t.buffer.0)) [
          | inl same ↦ (
              let own : IsOwn past u.stream.0 t.buffer.0 = rw (eqb-true u.buffer.0 t.buffer.0 same) at (pool-own past u taken).0 in
              let one = one-stream script past u.stream.0 t.stream.0 t.buffer.0 legal own (pool-own past t takes).0 in
              absurd (both_ways (u.stream.0 == t.stream.0) apart (eq-eqb u.stream.0 t.stream.0 one))
              )
          | inr other ↦ other
        ]

buffers_once : (script : Script) (past : List Entry) (ts : List Sent) → IsLegal script past → list_all (takes_from_pool past) ts ≡ true → is_repeated_stream (map target ts) ≡ false → is_repeated_buffer (map target ts) ≡ false
buffers_once script past [] legal all once = refl
buffers_once script past (t ∷ ts) legal all once =
    let parts = and_parts (takes_from_pool past t) (list_all (takes_from_pool past) ts) all in
    let apart = or_parts (list_any (λ u. u.stream == t.stream.0) (map target ts)) (is_repeated_stream (map target ts)) once in
    rw (buffer_absent script past t ts legal parts.0 parts.1 apart.0, buffers_once script past ts legal parts.1 apart.1) refl

pub held_buffer_kept : (script : Script) (past : List Entry) → IsLegal script past → keeps_in_session 3 (hal script past) HeldBuffer ≡ true
held_buffer_kept script past legal = kept (held_buffer 3) script rule past legal
  where
    rule : ForbidsNone (held_buffer 3) script
    rule (RequestBegun past n r i same targets legal) =
        let pool = sends-from-pool script past n.0 r.0 i same targets legal.0 in
        let none = none-where (λ t. is_held 3 t.buffer.0 (hal script past)) (takes_from_pool past) (four_list targets) (λ t takes. not-held script past t.buffer.0 legal.1 (pool-own past t takes).1) pool in
        let apart = buffers_once script past (four_list targets) legal.1 pool (send-once script past n.0 r.0 i same targets legal.0) in
        let all = map target (four_list targets) in
        any-or (λ t. is_held 3 t.buffer (hal script past)) (is_twice_buffer all) all ∙
        rw (any-mapped (λ t. is_held 3 t.buffer (hal script past)) target (four_list targets), none) (never-twice (λ t. t.buffer) all all apart)
    rule (CalledBack past (Shutter n time) legal may) = refl
    rule _ = refl

-- ---- the device works, and calls don't overlap

pub init_order_kept : (script : Script) (past : List Entry) → IsLegal script past → keeps_in_session 3 (hal script past) InitOrder ≡ true
init_order_kept script past legal = kept init_order script rule past legal
  where
    rule : ForbidsNone init_order script
    rule (FlushBegun past w legal yes') = rw (initialized-always script past) refl
    rule (RequestBegun past n r i same targets legal) = rw (initialized-always script past) refl
    rule (ConfigureBegun past specs legal is) = rw (initialized-always script past) refl
    rule (CalledBack past (Shutter n time) legal may) = refl
    rule _ = refl

none_in_flight : (script : Script) (past : List Entry) (n : ℕ) → IsLegal script past → is_quiet past ≡ true → is_in_flight 3 (hal script past) n ≡ false
none_in_flight script past n legal quiet =
    rw (none-in-call script past n) (dead-first (is_awaited 3 n (hal script past)) (not (is_flushed_in n (since n (hal script past)))) (not-awaited script past n legal quiet))
  where
    dead-first : (a b : Bool) → a ≡ false → (a && b) ≡ false
    dead-first a b h = rw h refl

-- no request is outstanding where streams are configured, a flush ends or the device is closed
pub configure_in_flight_kept : (script : Script) (past : List Entry) → IsLegal script past → keeps_in_session 3 (hal script past) ConfigureInFlight ≡ true
configure_in_flight_kept script past legal = kept (configure_in_flight 3) script rule past legal
  where
    rule : ForbidsNone (configure_in_flight 3) script
    rule (ConfigureBegun past specs legal is) = any-never (is_in_flight 3 (hal script past)) (hal_frames (hal script past)) (λ n. none_in_flight script past n legal is.quiet)
    rule (CalledBack past (Shutter n time) legal may) = refl
    rule _ = refl

flush_leaves_none : (script : Script) (past : List Entry) → IsLegal script past → is_quiet past ≡ true → flush_left 3 FlushOk (hal script past) ≡ false
flush_leaves_none script past legal quiet =
    dead-end (not (is_dead (hal script past)))
    (any-never (is_left_by_flush 3 (hal script past)) (hal_frames (hal script past))
    (λ n. rw (not-outstanding script past n legal quiet) (and-false (is_accepted_before begins_flush n (hal script past)))))

pub flush_left_kept : (script : Script) (past : List Entry) → IsLegal script past → keeps_in_session 3 (hal script past) FlushLeft ≡ true
flush_left_kept script past legal = kept (flush_left 3) script rule past legal
  where
    rule : ForbidsNone (flush_left 3) script
    rule (FlushEnded past w legal is yes') = flush_leaves_none script past legal is.quiet
    rule (CalledBack past (Shutter n time) legal may) = refl
    rule _ = refl

pub close_left_kept : (script : Script) (past : List Entry) → IsLegal script past → keeps_in_session 3 (hal script past) CloseLeft ≡ true
close_left_kept script past legal = kept (close_left 3) script rule past legal
  where
    closes : (past : List Entry) → IsLegal script past → is_quiet past ≡ true → close_left 3 CloseEnd (CloseBegin ∷ hal script past) ≡ false
    closes past legal quiet = dead-end (not (is_dead (hal script past))) (any-never (λ n. is_outstanding 3 n (CloseBegin ∷ hal script past)) (hal_frames (hal script past)) (λ n. not-outstanding script past n legal quiet))

    closes_after : (past : List Entry) → IsLegal script past → is_quiet past ≡ true → close_left 3 CloseEnd (CloseBegin ∷ (FlushOk ∷ hal script past)) ≡ false
    closes_after past legal quiet = dead-end (not (is_dead (hal script past))) (any-never (λ n. is_outstanding 3 n (CloseBegin ∷ (FlushOk ∷ hal script past))) (hal_frames (hal script past)) (λ n. not-outstanding script past n legal quiet))

    rule : ForbidsNone (close_left 3) script
    rule (CloseEnded past w legal is no') = closes past legal is.quiet
    rule (CloseEndedAfter past w legal is yes') = closes_after past legal is.quiet
    rule (CalledBack past (Shutter n time) legal may) = refl
    rule _ = refl
