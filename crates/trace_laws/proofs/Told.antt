-- Nothing of a frame comes before it is sent.
use Rattle.std.proofs.Common.{◌≡◌, ℕ, ◌==◌, Bool, true, false, ◌&&◌, ◌||◌, not, List, [], ◌∷◌, None, refl, sym, ◌∙◌, inl, inr}
use Rattle.std.specs.List.{list_any}
use Rattle.std.proofs.lemmas.Bool.{and_parts, cases_Bool, eqb-true, false≢true, or_parts}
use Rattle.cam_types.specs.declared.script.Script.{Script}
use Rattle.trace_model.specs.declared.entry.Entry.{Entry}
use Rattle.trace_model.specs.declared.entry.Entry.TheVariants.{Shutter, Partial, Filled, Failed, ErrorRequest, ErrorResult, ErrorBuffer, Early}
use Rattle.trace_model.specs.Allowed.{IsAllowed}
use Rattle.trace_model.specs.Entry.{is_error_buffer, is_error_of, is_error_request, is_error_result, is_part, is_partial, is_stop, returns_target, returns_of_frame, sends, is_shutter}
use Rattle.trace_model.specs.Errors.{is_cut_short, may_fail_buffer, may_fail_in_part, may_fail_request}
use Rattle.trace_model.specs.Faults.{buffer_fault, request_fault}
use Rattle.trace_model.specs.Frames.{has_error_request, has_shutter, has_target, is_sent, shutter_time}
use Rattle.trace_model.specs.Legal.{IsLegal}
use Rattle.trace_model.specs.Open.{has_error_buffer, has_something, is_open, is_returned}
use Rattle.trace_model.specs.Stopping.{is_stopped}
use Rattle.trace_laws.proofs.Returns.{early-back, failed-back, filled-back}
use Rattle.trace_laws.proofs.BufferSends.{out-sent}
use Rattle.trace_laws.proofs.Metadata.{result-fails}
use Rattle.trace_laws.proofs.Parts.{part-is}
use Rattle.trace_laws.proofs.Shutters.{exposed, shutter-sent}
use Rattle.basic_lemmas.proofs.Lists.{any-behind, any-less, any-where}
use Rattle.basic_lemmas.proofs.Tests.{passed-where}

-- the entry says something of frame n
abbrev pub tells : ℕ → Entry → Bool
tells n (Shutter m _) = m.0 == n
tells n (Partial m _ _) = m.0 == n
tells n (Filled m _ _ _ _) = m.0 == n
tells n (Failed m _ _ _) = m.0 == n
tells n (Early m _ _ _) = m.0 == n
tells n (ErrorRequest m) = m.0 == n
tells n (ErrorResult m) = m.0 == n
tells n (ErrorBuffer m _) = m.0 == n
tells n _ = false

pub buffer_exposed : (script : Script) (past : List Entry) (n s : ℕ) → may_fail_buffer script past n s ≡ true → has_shutter n past ≡ true
buffer_exposed script past n s may =
    let first = and_parts (has_target n s past && (may_fail_in_part script past n && not (has_error_request n past))) ((not (has_error_buffer n s past) && not (is_returned n s past)) && (buffer_fault script n s || is_cut_short past n)) may in
    let second = and_parts (has_target n s past) (may_fail_in_part script past n && not (has_error_request n past)) first.0 in
    let third = and_parts (may_fail_in_part script past n) (not (has_error_request n past)) second.1 in
    (and_parts (has_shutter n past) (not (request_fault script n) || is_stopped n past) third.0).0

told-sent : (script : Script) (past : List Entry) (e : Entry) (n : ℕ) → IsLegal script past → IsAllowed script past e → tells n e ≡ true → is_sent n past ≡ true
told-sent script past (Shutter m time) n legal may h = let sent = (exposed script past m time may).0 in rw (eqb-true m.0 n h) at sent
told-sent script past (Partial m k part) n legal may h = let sent = shutter-sent script past m.0 legal (part-is script past m k part may).shutter in rw (eqb-true m.0 n h) at sent
told-sent script past (Filled m s b f d) n legal may h = let sent = out-sent past m.0 s.0 b.0 (filled-back script past m s b f d may).out in rw (eqb-true m.0 n h) at sent
told-sent script past (Failed m s b f) n legal may h = let sent = out-sent past m.0 s.0 b.0 (failed-back past m s b f may).out in rw (eqb-true m.0 n h) at sent
told-sent script past (Early m s b d) n legal may h = let sent = out-sent past m.0 s.0 b.0 (early-back script past m s b d may).out in rw (eqb-true m.0 n h) at sent
told-sent script past (ErrorRequest m) n legal may h =
    let first = (and_parts (is_open m.0 past && not (has_something m.0 past)) _ (passed-where (may_fail_request script past m.0) (ErrorRequest (record { 0 = m.0 })) (ErrorRequest m) may)).0 in
    let sent = (and_parts (is_sent m.0 past) _ (and_parts (is_open m.0 past) (not (has_something m.0 past)) first).0).0 in
    rw (eqb-true m.0 n h) at sent
told-sent script past (ErrorResult m) n legal may h = let sent = shutter-sent script past m.0 legal (result-fails script past m may).shutter in rw (eqb-true m.0 n h) at sent
told-sent script past (ErrorBuffer m s) n legal may h = let sent = shutter-sent script past m.0 legal (buffer_exposed script past m.0 s.0 (passed-where _ _ _ may)) in rw (eqb-true m.0 n h) at sent
told-sent script past _ n legal may h = absurd (false≢true h)

any-told-sent : (script : Script) (past : List Entry) (n : ℕ) → IsLegal script past → list_any (tells n) past ≡ true → is_sent n past ≡ true
any-told-sent script [] n legal h = absurd (false≢true h)
any-told-sent script (e ∷ past) n legal h =
    elim (cases_Bool (tells n e)) [
      | inl here ↦ any-behind (sends n) e past (told-sent script past e n legal.1 legal.0 here)
      | inr other ↦ (let h' = rw other at h in any-behind (sends n) e past (any-told-sent script past n legal.1 h'))
    ]

pub untold : (script : Script) (past : List Entry) (n : ℕ) → IsLegal script past → is_sent n past ≡ false → list_any (tells n) past ≡ false
untold script past n legal unsent = elim (cases_Bool (list_any (tells n) past)) [
  | inl told ↦ absurd (false≢true (sym unsent ∙ any-told-sent script past n legal told))
  | inr none ↦ none
]

-- what is of the frame comes behind its send
pub sent-for : (script : Script) (past : List Entry) (n : ℕ) (p : Entry → Bool) → IsLegal script past → ((e : Entry) → p e ≡ true → tells n e ≡ true) → list_any p past ≡ true → is_sent n past ≡ true
sent-for script past n p legal of h = any-told-sent script past n legal (any-where p (tells n) past of h)

-- so each test that is of the frame passes nothing
pub none-of : (script : Script) (past : List Entry) (n : ℕ) (p : Entry → Bool) → IsLegal script past → is_sent n past ≡ false → ((e : Entry) → p e ≡ true → tells n e ≡ true) → list_any p past ≡ false
none-of script past n p legal unsent h = any-less (tells n) p past h (untold script past n legal unsent)

pub unexposed : (script : Script) (past : List Entry) (n : ℕ) → IsLegal script past → is_sent n past ≡ false → has_shutter n past ≡ false
unexposed script past n legal unsent = none-of script past n (is_shutter n) legal unsent shutter_tells
  where
    shutter_tells : (e : Entry) → is_shutter n e ≡ true → tells n e ≡ true
    shutter_tells (Shutter m time) h = h
    shutter_tells _ h = absurd (false≢true h)

pub no-time : (n : ℕ) (past : List Entry) → list_any (tells n) past ≡ false → shutter_time n past ≡ None
no-time n [] none = refl
no-time n (Shutter m time ∷ past) none =
    elim (cases_Bool (m.0 == n)) [
      | inl here ↦ (let none' = rw here at none in absurd (cc))
      | inr other ↦ (let none' = rw other at none in rw other (no-time n past none'))
    ]
no-time n (e ∷ past) none = no-time n past (rest (tells n e) (list_any (tells n) past) none)
  where
    rest : (a b : Bool) → (a || b) ≡ false → b ≡ false
    rest true b h = absurd (cc)
    rest false b h = h

pub not-stopped : (n : ℕ) (past : List Entry) → is_sent n past ≡ false → is_stopped n past ≡ false
not-stopped n [] unsent = refl
not-stopped n (e ∷ past) unsent =
    let parts = or_parts (sends n e) (is_sent n past) unsent in
    rw (parts.1, not-stopped n past parts.1) (and-false (is_stop e))
  where
    and-false : (b : Bool) → ((b && false) || false) ≡ false
    and-false true = refl
    and-false false = refl

-- ---- which tests are of a frame

pub partial-tells : (n : ℕ) (e : Entry) → is_partial n e ≡ true → tells n e ≡ true
partial-tells n (Partial m k part) h = h
partial-tells n _ h = absurd (false≢true h)

pub return-tells : (n s : ℕ) (e : Entry) → returns_target n s e ≡ true → tells n e ≡ true
return-tells n s (Filled m t b f d) h = (and_parts (m.0 == n) (t.0 == s) h).0
return-tells n s (Failed m t b f) h = (and_parts (m.0 == n) (t.0 == s) h).0
return-tells n s (Early m t b d) h = (and_parts (m.0 == n) (t.0 == s) h).0
return-tells n s _ h = absurd (false≢true h)

pub some-return-tells : (n : ℕ) (e : Entry) → returns_of_frame n e ≡ true → tells n e ≡ true
some-return-tells n (Filled m t b f d) h = h
some-return-tells n (Failed m t b f) h = h
some-return-tells n (Early m t b d) h = h
some-return-tells n _ h = absurd (false≢true h)

pub error-tells : (n : ℕ) (e : Entry) → is_error_of n e ≡ true → tells n e ≡ true
error-tells n (ErrorRequest m) h = h
error-tells n (ErrorResult m) h = h
error-tells n (ErrorBuffer m s) h = h
error-tells n _ h = absurd (false≢true h)

pub request-tells : (n : ℕ) (e : Entry) → is_error_request n e ≡ true → tells n e ≡ true
request-tells n (ErrorRequest m) h = h
request-tells n _ h = absurd (false≢true h)

pub result-tells : (n : ℕ) (e : Entry) → is_error_result n e ≡ true → tells n e ≡ true
result-tells n (ErrorResult m) h = h
result-tells n _ h = absurd (false≢true h)

pub buffer-tells : (n s : ℕ) (e : Entry) → is_error_buffer n s e ≡ true → tells n e ≡ true
buffer-tells n s (ErrorBuffer m t) h = (and_parts (m.0 == n) (t.0 == s) h).0
buffer-tells n s _ h = absurd (false≢true h)

pub part-tells : (n k : ℕ) (e : Entry) → is_part n k e ≡ true → tells n e ≡ true
part-tells n k (Partial m j part) h = (and_parts (m.0 == n) (j == k) h).0
part-tells n k _ h = absurd (false≢true h)
