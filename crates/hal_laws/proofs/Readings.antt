-- What the words of a hal log say of the log of a trace.
use Rattle.std.proofs.Common.{◌≡◌, ℕ, ◌==◌, Bool, true, false, ◌+◌, ◌≤◌, ◌&&◌, ◌||◌, not, arith, nat_lt, List, [], ◌∷◌, ◌++◌, Option, Some, None, refl, sym, ap, ◌∙◌, inl, inr, find, map, if◌then◌else◌}
use Rattle.std.specs.List.{list_any, list_all}
use Rattle.std.specs.Option.{option_map, option_to_list}
use Rattle.std.proofs.lemmas.Bool.{and_parts, cases_Bool, eqb-true, false≢true, or_parts}
use Rattle.std.proofs.lemmas.Bool.Decides.{nat_tests}
use Rattle.trace_laws.proofs.Parts.{part-is}
use Rattle.trace_laws.proofs.Frames.{unsent-next}
use Rattle.trace_laws.proofs.Told.{tells, untold}
use Rattle.trace_model.specs.Legal.{IsLegal}
use Rattle.basic_lemmas.proofs.Lists.{any-where, found-passes}
use Rattle.cam_types.specs.Four.{four_list}
use Rattle.cam_types.specs.declared.script.Script.{Script}
use Rattle.trace_model.specs.declared.entry.Entry.{Entry}
use Rattle.trace_model.specs.declared.entry.Entry.TheVariants.{Begin, Call, Send, Shutter, Partial, ErrorRequest, ErrorResult, ErrorBuffer}
use Rattle.trace_model.specs.Entry.{is_error_buffer, is_error_request, is_error_result, is_part, is_shutter, sends}
use Rattle.trace_model.specs.Frames.{has_error_request, has_shutter, is_sent, send_of, targets_in as sent_targets_in, targets_of}
use Rattle.trace_model.specs.Open.{has_error_buffer, has_error_result, has_part, is_metadata_ended}
use Rattle.hal_model.specs.declared.event.HalEvent.{HalEvent}
use Rattle.hal_model.specs.declared.event.HalEvent.TheVariants.{RequestBegin, RequestOk, RequestError, Shutter as HalShutter, ErrorRequest as HalErrorRequest, ErrorResult as HalErrorResult, ErrorBuffer as HalErrorBuffer, Results}
use Rattle.hal_model.specs.declared.event.Pack.TheVariants.{Entries}
use Rattle.hal_model.specs.Words.{is_callback, begins, has_notice, has_shutter as hal_has_shutter, is_last_part, is_refused, since, stands, refuses, is_begun, is_failed, targets_in, targets_of as hal_targets_of, is_shutter as hal_shutter, is_error_request as hal_error_request, is_error_result as hal_error_result, is_error_buffer as hal_error_buffer, is_part as hal_part, is_metadata_ended as hal_ended, begins_request, had_later}
use Rattle.hal_model.specs.Hal.{callback, called, events, flush_begun, hal, initialized, target}
use Rattle.hal_laws.proofs.Keep.{any-append, begun-other, callback_back, called-other, is_other, none_passes, other_no_callback}

-- ---- tests of callbacks

abbrev pub by_callback : (HalEvent → Bool) → Option HalEvent → Bool
by_callback p None = false
by_callback p (Some h) = p h

abbrev pub IsCallbackTest : (HalEvent → Bool) → Type 0
IsCallbackTest p = (h : HalEvent) → is_callback h ≡ false → p h ≡ false

none_begun : (p : HalEvent → Bool) → IsCallbackTest p → (hs : List HalEvent) → list_all is_other hs ≡ true → list_any p hs ≡ false
none_begun p of hs all = none_passes p hs (λ h other. of h (other_no_callback h other)) all

now_any : (p : HalEvent → Bool) (o : Option HalEvent) (hs : List HalEvent) (a b : Bool) → by_callback p o ≡ a → list_any p hs ≡ b → list_any p (option_to_list o ++ hs) ≡ (a || b)
now_any p None hs a b now rest = rw (sym now) rest
now_any p (Some h) hs a b now rest = rw (now, rest) refl

pub any-reads : (p : HalEvent → Bool) (q : Entry → Bool) → IsCallbackTest p → ((e : Entry) → by_callback p (callback e) ≡ q e) → (script : Script) (past : List Entry) → list_any p (hal script past) ≡ list_any q past
any-reads p q of each script [] = any-append p initialized [] (rw (of _ refl, of _ refl, of _ refl) refl)
any-reads p q of each script (Begin word ∷ past) =
    any-append p (flush_begun word past) (hal script past) (none_begun p of (flush_begun word past) (begun-other word past)) ∙ rw (sym (each (Begin word))) (any-reads p q of each script past)
any-reads p q of each script (Call i word reply ∷ past) =
    any-append p (called script past i word reply) (hal script past) (none_begun p of (called script past i word reply) (called-other script past i word reply)) ∙ rw (sym (each (Call i word reply))) (any-reads p q of each script past)
any-reads p q of each script (Send n r i same targets ∷ past) =
    rw (of (RequestOk n.0) refl, of (RequestBegin n.0 same (map target (four_list targets)) false false) refl, sym (each (Send n r i same targets))) (any-reads p q of each script past)
any-reads p q of each script (e ∷ past) =
    now_any p (callback e) (hal script past) (q e) (list_any q past) (each e) (any-reads p q of each script past)

-- ---- a test that says no more than one of entries

pub any-read : (p : HalEvent → Bool) (q : Entry → Bool) → IsCallbackTest p → ((e : Entry) → by_callback p (callback e) ≡ true → q e ≡ true) → (script : Script) (past : List Entry) → list_any p (hal script past) ≡ true → list_any q past ≡ true
any-read p q of each script past h = any-where (λ e. by_callback p (callback e)) q past each (sym (any-reads p (λ e. by_callback p (callback e)) of (λ e. refl) script past) ∙ h)

pub none-read : (p : HalEvent → Bool) (q : Entry → Bool) → IsCallbackTest p → ((e : Entry) → by_callback p (callback e) ≡ true → q e ≡ true) → (script : Script) (past : List Entry) → list_any q past ≡ false → list_any p (hal script past) ≡ false
none-read p q of each script past h =
    elim (cases_Bool (list_any p (hal script past))) [
      | inl here ↦ absurd (false≢true (sym h ∙ any-read p q of each script past here))
      | inr no' ↦ no'
    ]

-- ---- what stands since a begin

of_begins : (n : ℕ) (h : HalEvent) → is_other h ≡ true → begins n h ≡ false
of_begins n (RequestBegin m same ts a b) h = absurd (false≢true h)
of_begins n _ h = refl

pub since-append : (n : ℕ) (hs p : List HalEvent) → list_any (begins n) hs ≡ false → since n (hs ++ p) ≡ hs ++ since n p
since-append n [] p none = refl
since-append n (h ∷ hs) p none =
    let parts = or_parts (begins n h) (list_any (begins n) hs) none in
    rw (parts.0, since-append n hs p parts.1) refl

since_begin : (script : Script) (past : List Entry) (n : ℕ) (w : _) → since n (events script past (Begin w) ++ hal script past) ≡ flush_begun w past ++ since n (hal script past)
since_begin script past n w = since-append n (flush_begun w past) (hal script past) (none_passes (begins n) (flush_begun w past) (of_begins n) (begun-other w past))

since_call : (script : Script) (past : List Entry) (n i : ℕ) (w : _) (r : _) → since n (events script past (Call i w r) ++ hal script past) ≡ called script past i w r ++ since n (hal script past)
since_call script past n i w r = since-append n (called script past i w r) (hal script past) (none_passes (begins n) (called script past i w r) (of_begins n) (called-other script past i w r))

-- a test that no other event passes
abbrev pub PassesNoOther : (HalEvent → Bool) → Type 0
PassesNoOther p = (h : HalEvent) → is_other h ≡ true → p h ≡ false

pub since-by-begin : (p : HalEvent → Bool) → PassesNoOther p → (script : Script) (past : List Entry) (n : ℕ) (w : _) → list_any p (since n (hal script (Begin w ∷ past))) ≡ list_any p (since n (hal script past))
since-by-begin p of script past n w = ap (list_any p) (since_begin script past n w) ∙ any-append p (flush_begun w past) (since n (hal script past)) (none_passes p (flush_begun w past) of (begun-other w past))

pub since-by-call : (p : HalEvent → Bool) → PassesNoOther p → (script : Script) (past : List Entry) (n i : ℕ) (w : _) (r : _) → list_any p (since n (hal script (Call i w r ∷ past))) ≡ list_any p (since n (hal script past))
since-by-call p of script past n i w r = ap (list_any p) (since_call script past n i w r) ∙ any-append p (called script past i w r) (since n (hal script past)) (none_passes p (called script past i w r) of (called-other script past i w r))

back_no_begin : (n : ℕ) (h : HalEvent) → is_callback h ≡ true → begins n h ≡ false
back_no_begin n (RequestBegin m same ts a b) h = absurd (false≢true h)
back_no_begin n _ h = refl

now_since : (p : HalEvent → Bool) (n : ℕ) (e : Entry) (o : Option HalEvent) (hs : List HalEvent) → callback e ≡ o → list_any p (since n hs) ≡ list_any p hs → list_any p (since n (option_to_list o ++ hs)) ≡ list_any p (option_to_list o ++ hs)
now_since p n e None hs at same = same
now_since p n e (Some h) hs at same = rw (back_no_begin n h (callback_back e h at), same) refl

abbrev pub TellsOf : ℕ → (HalEvent → Bool) → Type 0
TellsOf n p = (e : Entry) → by_callback p (callback e) ≡ true → tells n e ≡ true

-- nothing of a frame stands before its begin
pub since-whole : (p : HalEvent → Bool) (n : ℕ) → IsCallbackTest p → TellsOf n p → (script : Script) (past : List Entry) → IsLegal script past → list_any p (since n (hal script past)) ≡ list_any p (hal script past)
since-whole p n of tell script [] legal = refl
since-whole p n of tell script (Begin w ∷ past) legal =
    since-by-begin p (λ h other. of h (other_no_callback h other)) script past n w ∙ (since-whole p n of tell script past legal.1 ∙ sym (any-append p (flush_begun w past) (hal script past) (none_begun p of (flush_begun w past) (begun-other w past))))
since-whole p n of tell script (Call i w r ∷ past) legal =
    since-by-call p (λ h other. of h (other_no_callback h other)) script past n i w r ∙ (since-whole p n of tell script past legal.1 ∙ sym (any-append p (called script past i w r) (hal script past) (none_begun p of (called script past i w r) (called-other script past i w r))))
since-whole p n of tell script (Send m r i same targets ∷ past) legal =
    elim (cases_Bool (m.0 == n)) [
      | inl here ↦ (
          let unsent : is_sent n past ≡ false = rw (eqb-true m.0 n here) at (unsent-next script past m.0 r.0 i same targets legal.1 legal.0) in
          let none = none-read p (tells n) of tell script past (untold script past n legal.1 unsent) in
          rw (here, of (RequestOk m.0) refl, of (RequestBegin m.0 same (map target (four_list targets)) false false) refl, none) refl
          )
      | inr other ↦ rw (other, since-whole p n of tell script past legal.1) refl
    ]
since-whole p n of tell script (e ∷ past) legal = now_since p n e (callback e) (hal script past) refl (since-whole p n of tell script past legal.1)

-- a test of callbacks that reads as one of entries, which tells of frame n
data Tested : Type 0 where
  OfEvent : (h : HalEvent) → is_callback h ≡ false → Tested
  OfEntry : Entry → Tested

abbrev ReadsAs : ℕ → (HalEvent → Bool) → (Entry → Bool) → Tested → Type 0
ReadsAs n p q (OfEvent h silent) = p h ≡ false
ReadsAs n p q (OfEntry e) = (by_callback p (callback e) ≡ q e) × (by_callback p (callback e) ≡ true → tells n e ≡ true)

stands-reads : (n : ℕ) (p : HalEvent → Bool) (q : Entry → Bool) → ((a : Tested) → ReadsAs n p q a) → (script : Script) (past : List Entry) → IsLegal script past → list_any p (since n (hal script past)) ≡ list_any q past
stands-reads n p q reads script past legal =
    since-whole p n (λ h silent. reads (OfEvent h silent)) (λ e. (reads (OfEntry e)).1) script past legal
    ∙ any-reads p q (λ h silent. reads (OfEvent h silent)) (λ e. (reads (OfEntry e)).0) script past

pub shutter-reads : (n : ℕ) (script : Script) (past : List Entry) → IsLegal script past → hal_has_shutter n (hal script past) ≡ has_shutter n past
shutter-reads n script past legal = stands-reads n (hal_shutter n) (is_shutter n) reads script past legal
  where
    reads : (a : Tested) → ReadsAs n (hal_shutter n) (is_shutter n) a
    reads (OfEvent (HalShutter m t) h) = absurd (false≢true (sym h))
    reads (OfEvent _ h) = refl
    reads (OfEntry (Shutter m t)) = (refl, λ h. h)
    reads (OfEntry _) = (refl, λ h. absurd (false≢true h))

pub request-error-reads : (n : ℕ) (script : Script) (past : List Entry) → IsLegal script past → is_failed n (hal script past) ≡ has_error_request n past
request-error-reads n script past legal = stands-reads n (hal_error_request n) (is_error_request n) reads script past legal
  where
    reads : (a : Tested) → ReadsAs n (hal_error_request n) (is_error_request n) a
    reads (OfEvent (HalErrorRequest m) h) = absurd (false≢true (sym h))
    reads (OfEvent _ h) = refl
    reads (OfEntry (ErrorRequest m)) = (refl, λ h. h)
    reads (OfEntry _) = (refl, λ h. absurd (false≢true h))

pub result-error-reads : (n : ℕ) (script : Script) (past : List Entry) → IsLegal script past → stands n (hal_error_result n) (hal script past) ≡ has_error_result n past
result-error-reads n script past legal = stands-reads n (hal_error_result n) (is_error_result n) reads script past legal
  where
    reads : (a : Tested) → ReadsAs n (hal_error_result n) (is_error_result n) a
    reads (OfEvent (HalErrorResult m) h) = absurd (false≢true (sym h))
    reads (OfEvent _ h) = refl
    reads (OfEntry (ErrorResult m)) = (refl, λ h. h)
    reads (OfEntry _) = (refl, λ h. absurd (false≢true h))

pub buffer-error-reads : (n s : ℕ) (script : Script) (past : List Entry) → IsLegal script past → has_notice n (Some s) (hal script past) ≡ has_error_buffer n s past
buffer-error-reads n s script past legal = stands-reads n (hal_error_buffer n (Some s)) (is_error_buffer n s) reads script past legal
  where
    reads : (a : Tested) → ReadsAs n (hal_error_buffer n (Some s)) (is_error_buffer n s) a
    reads (OfEvent (HalErrorBuffer m t) h) = absurd (false≢true (sym h))
    reads (OfEvent _ h) = refl
    reads (OfEntry (ErrorBuffer m t)) = (refl, λ h. (and_parts (m.0 == n) (t.0 == s) h).0)
    reads (OfEntry _) = (refl, λ h. absurd (false≢true h))

pub part-reads : (n k : ℕ) (script : Script) (past : List Entry) → IsLegal script past → stands n (hal_part n k) (hal script past) ≡ has_part n k past
part-reads n k script past legal = stands-reads n (hal_part n k) (is_part n k) reads script past legal
  where
    reads : (a : Tested) → ReadsAs n (hal_part n k) (is_part n k) a
    reads (OfEvent (Results m j Entries bs input) h) = absurd (false≢true (sym h))
    reads (OfEvent _ h) = refl
    reads (OfEntry (Partial m j part)) = (refl, λ h. (and_parts (m.0 == n) (j == k) h).0)
    reads (OfEntry _) = (refl, λ h. absurd (false≢true h))

-- ---- the end of metadata: parts have the numbers from 1 to 3

abbrev pub is_last_of : ℕ → Entry → Bool
is_last_of n (Partial m j part) = (m.0 == n) && not (nat_lt 0 j && nat_lt j 3)
is_last_of n _ = false

last_number : (j c : ℕ) → j ≡ c + 1 → j ≤ 3 → not (nat_lt 0 j && nat_lt j 3) ≡ (j == 3)
last_number j c at short = grind (arith, nat_tests, at, short)

last_of : (script : Script) (past : List Entry) (n : ℕ) → IsLegal script past → list_any (is_last_of n) past ≡ has_part n 3 past
last_of script [] n legal = refl
last_of script (Partial m j part ∷ past) n legal =
    let is = part-is script past m j part legal.0 in
    rw (last_number j _ is.number is.short, last_of script past n legal.1) refl
last_of script (e ∷ past) n legal = last_of script past n legal.1

pub last-reads : (n : ℕ) (script : Script) (past : List Entry) → IsLegal script past → stands n (is_last_part 3 n) (hal script past) ≡ has_part n 3 past
last-reads n script past legal = stands-reads n (is_last_part 3 n) (is_last_of n) reads script past legal ∙ last_of script past n legal
  where
    reads : (a : Tested) → ReadsAs n (is_last_part 3 n) (is_last_of n) a
    reads (OfEvent (Results m j Entries bs input) h) = absurd (false≢true (sym h))
    reads (OfEvent _ h) = refl
    reads (OfEntry (Partial m j part)) = (refl, λ h. (and_parts (m.0 == n) (not (nat_lt 0 j && nat_lt j 3)) h).0)
    reads (OfEntry _) = (refl, λ h. absurd (false≢true h))

pub ended-reads : (n : ℕ) (script : Script) (past : List Entry) → IsLegal script past → hal_ended 3 n (hal script past) ≡ is_metadata_ended n past
ended-reads n script past legal = rw (last-reads n script past legal, result-error-reads n script past legal, request-error-reads n script past legal) refl

-- ---- requests

find-append : {X : Type 0} (p : X → Bool) (xs ys : List X) → list_any p xs ≡ false → find p (xs ++ ys) ≡ find p ys
find-append p [] ys none = refl
find-append p (x ∷ xs) ys none =
    elim (cases_Bool (p x)) [
      | inl here ↦ (let none' = rw here at none in absurd (false≢true (sym none')))
      | inr no' ↦ (let none' = rw no' at none in rw no' (find-append p xs ys none'))
    ]

abbrev pub begin_event : Entry → HalEvent
begin_event (Send n r i same targets) = RequestBegin n.0 same (map target (four_list targets)) false false
begin_event _ = RequestOk 0

pub begin-read : (script : Script) (n : ℕ) (past : List Entry) → find (begins n) (hal script past) ≡ option_map begin_event (send_of n past)
begin-read script n [] = refl
begin-read script n (Begin word ∷ past) =
    find-append (begins n) (flush_begun word past) (hal script past) (none_passes (begins n) (flush_begun word past) (of_begins n) (begun-other word past)) ∙ begin-read script n past
begin-read script n (Call i word reply ∷ past) =
    find-append (begins n) (called script past i word reply) (hal script past) (none_passes (begins n) (called script past i word reply) (of_begins n) (called-other script past i word reply)) ∙ begin-read script n past
begin-read script n (Send m r i same targets ∷ past) =
    elim (cases_Bool (m.0 == n)) [ inl here ↦ rw here refl | inr no' ↦ rw no' (begin-read script n past) ]
begin-read script n (e ∷ past) = begin-read script n past

targets_by : (n : ℕ) (o : Option Entry) → ((e : Entry) → o ≡ Some e → sends n e ≡ true) → targets_in (option_map begin_event o) ≡ map target (sent_targets_in o)
targets_by n None h = refl
targets_by n (Some (Send m r i same targets)) h = refl
targets_by n (Some _) h = absurd (false≢true (h _ refl))

pub targets-read : (script : Script) (n : ℕ) (past : List Entry) → hal_targets_of n (hal script past) ≡ map target (targets_of n past)
targets-read script n past = ap targets_in (begin-read script n past) ∙ targets_by n (send_of n past) (λ e found. found-passes (sends n) past e found)

pub begun-reads : (n : ℕ) (script : Script) (past : List Entry) → is_begun n (hal script past) ≡ is_sent n past
begun-reads n script [] = refl
begun-reads n script (Begin word ∷ past) =
    any-append (begins n) (flush_begun word past) (hal script past) (none_passes (begins n) (flush_begun word past) (of_begins n) (begun-other word past)) ∙ begun-reads n script past
begun-reads n script (Call i word reply ∷ past) =
    any-append (begins n) (called script past i word reply) (hal script past) (none_passes (begins n) (called script past i word reply) (of_begins n) (called-other script past i word reply)) ∙ begun-reads n script past
begun-reads n script (Send m r i same targets ∷ past) = rw (begun-reads n script past) refl
begun-reads n script (e ∷ past) = begun-reads n script past

-- no request is refused
of_refuses : (n : ℕ) (h : HalEvent) → is_other h ≡ true → refuses n h ≡ false
of_refuses n (RequestError m error) h = absurd (false≢true h)
of_refuses n _ h = refl

none_refused : (n : ℕ) (script : Script) (past : List Entry) → list_any (refuses n) (hal script past) ≡ false
none_refused n script [] = refl
none_refused n script (Begin word ∷ past) =
    any-append (refuses n) (flush_begun word past) (hal script past) (none_passes (refuses n) (flush_begun word past) (of_refuses n) (begun-other word past)) ∙ none_refused n script past
none_refused n script (Call i word reply ∷ past) =
    any-append (refuses n) (called script past i word reply) (hal script past) (none_passes (refuses n) (called script past i word reply) (of_refuses n) (called-other script past i word reply)) ∙ none_refused n script past
none_refused n script (Send m r i same targets ∷ past) = none_refused n script past
none_refused n script (e ∷ past) = none_refused n script past

-- what stands since a begin stands
pub since-any : (p : HalEvent → Bool) (n : ℕ) (hs : List HalEvent) → list_any p (since n hs) ≡ true → list_any p hs ≡ true
since-any p n [] h = h
since-any p n (x ∷ hs) h =
    elim (cases_Bool (begins n x)) [
      | inl here ↦ (let h' = rw here at h in absurd (false≢true h'))
      | inr no' ↦ (let h' = rw no' at h in elim (cases_Bool (p x)) [
        | inl passes ↦ rw passes refl
        | inr fails ↦ (let h'' = rw fails at h' in rw fails (since-any p n hs h''))
      ])
    ]

pub since-none : (p : HalEvent → Bool) (n : ℕ) (hs : List HalEvent) → list_any p hs ≡ false → list_any p (since n hs) ≡ false
since-none p n hs none =
    elim (cases_Bool (list_any p (since n hs))) [
      | inl here ↦ absurd (false≢true (sym none ∙ since-any p n hs here))
      | inr no' ↦ no'
    ]

pub not-refused : (n : ℕ) (script : Script) (past : List Entry) → is_refused n (hal script past) ≡ false
not-refused n script past = since-none (refuses n) n (hal script past) (none_refused n script past)

-- ---- no number is begun anew

had-append : (test : ℕ → List HalEvent → Bool) (n : ℕ) (hs p : List HalEvent) → list_any begins_request hs ≡ false → had_later test n (hs ++ p) ≡ had_later test n p
had-append test n [] p none = refl
had-append test n (RequestBegin m same ts a b ∷ hs) p none = absurd (false≢true (sym none))
had-append test n (h ∷ hs) p none = had-append test n hs p none

no_request : (h : HalEvent) → is_other h ≡ true → begins_request h ≡ false
no_request (RequestBegin m same ts a b) h = absurd (false≢true h)
no_request _ h = refl

back_no_request : (h : HalEvent) → is_callback h ≡ true → begins_request h ≡ false
back_no_request (RequestBegin m same ts a b) h = absurd (false≢true h)
back_no_request _ h = refl

none_requested : (e : Entry) (o : Option HalEvent) → callback e ≡ o → list_any begins_request (option_to_list o) ≡ false
none_requested e None at = refl
none_requested e (Some h) at = rw (back_no_request h (callback_back e h at)) refl

-- so what is later is asked of the requests as they stand
pub never-again : (test : ℕ → List HalEvent → Bool) (n : ℕ) (script : Script) (past : List Entry) → IsLegal script past → had_later test n (hal script past) ≡ false
never-again test n script [] legal = refl
never-again test n script (Begin w ∷ past) legal = had-append test n (flush_begun w past) (hal script past) (none_passes begins_request (flush_begun w past) no_request (begun-other w past)) ∙ never-again test n script past legal.1
never-again test n script (Call i w r ∷ past) legal = had-append test n (called script past i w r) (hal script past) (none_passes begins_request (called script past i w r) no_request (called-other script past i w r)) ∙ never-again test n script past legal.1
never-again test n script (Send m r i same targets ∷ past) legal =
    let unsent = unsent-next script past m.0 r.0 i same targets legal.1 legal.0 in
    let none = since-none (begins m.0) n (hal script past) (begun-reads m.0 script past ∙ unsent) in
    by (m.0 == n) (stands n (begins m.0) (hal script past)) (not (is_refused m.0 (hal script past))) (test m.0 (hal script past)) (had_later test n (hal script past)) none (never-again test n script past legal.1)
  where
    by : (a b c d e : Bool) → b ≡ false → e ≡ false → (if a then false else (((b && c) && d) || e)) ≡ false
    by true b c d e h k = refl
    by false b c d e h k = rw (h, k) refl
never-again test n script (e ∷ past) legal = had-append test n (option_to_list (callback e)) (hal script past) (none_requested e (callback e) refl) ∙ never-again test n script past legal.1
