-- What is said of a frame has a cause: it had its shutter or failed whole, and where it has a request fault it failed whole or
-- was stopped.
use Rattle.std.proofs.Common.{◌≡◌, ℕ, ◌==◌, ◌+◌, Bool, true, false, ◌&&◌, ◌||◌, not, List, [], ◌∷◌, Option, Some, None, refl, sym, ◌∙◌, inl, inr, nat_le}
use Rattle.std.specs.List.{list_any}
use Rattle.std.proofs.lemmas.Bool.{and_parts, cases_Bool, eqb-true, false≢true, or_left, or_right}
use Rattle.cam_types.specs.Metadata.{part_at}
use Rattle.cam_types.specs.declared.script.Script.{Script}
use Rattle.trace_model.specs.declared.entry.Entry.{Entry}
use Rattle.trace_model.specs.declared.entry.Entry.TheVariants.{Partial, Filled, Failed, ErrorRequest, ErrorResult, ErrorBuffer, Early}
use Rattle.trace_model.specs.declared.entry.Sent.{Sent}
use Rattle.trace_model.specs.Entry.{is_error_buffer, is_error_of, is_error_request, is_error_result, is_part, is_partial, is_shutter, is_stop, returns_of_frame}
use Rattle.trace_model.specs.Errors.{failed_of, fence_left, is_cut_short, may_fail_buffer, may_fail_in_part, may_fail_result}
use Rattle.trace_model.specs.Faults.{buffer_fault, request_fault, result_fault}
use Rattle.trace_model.specs.Filled.{is_sound}
use Rattle.trace_model.specs.Frames.{each_earlier, has_error, has_error_request, has_shutter, has_target, is_sent, settings_of, shutter_time, target_of}
use Rattle.trace_model.specs.Legal.{IsLegal}
use Rattle.trace_model.specs.Open.{has_error_buffer, has_error_result, has_part, has_something, is_metadata_ended, is_returned}
use Rattle.trace_model.specs.Partial.{may_have_partial, partial_count, partial_of}
use Rattle.trace_model.specs.Place.{is_at_device_by}
use Rattle.trace_model.specs.Stopping.{is_stopped}
use Rattle.trace_laws.proofs.Parts.{part-is}
use Rattle.trace_laws.proofs.Returns.{early-well, filled-well}
use Rattle.basic_lemmas.proofs.Lists.{any-where}
use Rattle.basic_lemmas.proofs.Tests.{passed-where, or-alone, or-crossed-three}
use Rattle.trace_laws.proofs.Shutters.{request_is_error}
use Rattle.trace_laws.proofs.Metadata.{result-is-error}

pub record IsCaused (script : Script) (past : List Entry) (n : ℕ) : Type 0 where
  pub began : (has_shutter n past || has_error_request n past) ≡ true
  pub fault : (not (request_fault script n) || (has_error_request n past || is_stopped n past)) ≡ true

one_more : (a x b y : Bool) → (x || y) ≡ true → ((a || x) || (b || y)) ≡ true
one_more true x b y h = refl
one_more false true b y h = refl
one_more false false b true h = or_right b true refl
one_more false false b false h = absurd (false≢true h)

more_fault : (f a x b y : Bool) → (f || (x || y)) ≡ true → (f || ((a || x) || (b || y))) ≡ true
more_fault true a x b y h = refl
more_fault false a x b y h = one_more a x b y h

still_caused : (script : Script) (past : List Entry) (e : Entry) (n : ℕ) → IsCaused script past n → IsCaused script (e ∷ past) n
still_caused script past e n c = record {
  began = one_more (is_shutter n e) (has_shutter n past) (is_error_request n e) (has_error_request n past) c.began;
  fault = more_fault (not (request_fault script n)) (is_error_request n e) (has_error_request n past) (is_stop e && is_sent n past) (is_stopped n past) c.fault;
}

-- of one entry
abbrev is_something : ℕ → Entry → Bool
is_something n e = is_partial n e || (returns_of_frame n e || is_error_of n e)

something_step : (n : ℕ) (e : Entry) (past : List Entry) → has_something n (e ∷ past) ≡ (is_something n e || has_something n past)
something_step n e past = or-crossed-three (is_partial n e) (list_any (is_partial n) past) (returns_of_frame n e) (list_any (returns_of_frame n) past) (is_error_of n e) (has_error n past)

part_given : (script : Script) (past : List Entry) (n k : ℕ) (o : Option ℕ) (e : Entry) → partial_of script past n k o ≡ Some e → may_have_partial script past n k ≡ true
part_given script past n k None e h = absurd (cc)
part_given script past n k (Some time) e h = passed-where (may_have_partial script past n k) (Partial (record { 0 = n }) k (part_at k (settings_of script past n) time)) e h

no_fault : (a b f c : Bool) → ((not a && (not b && not f)) && c) ≡ true → not f ≡ true
no_fault false false false c h = refl
no_fault _ _ _ _ h = absurd (false≢true h)

in_part : (script : Script) (past : List Entry) (n : ℕ) → may_fail_in_part script past n ≡ true → IsCaused script past n
in_part script past n h =
    let parts = and_parts (has_shutter n past) (not (request_fault script n) || is_stopped n past) h in
    record { began = or_left (has_shutter n past) (has_error_request n past) parts.0; fault = or_third (not (request_fault script n)) (has_error_request n past) (is_stopped n past) parts.1 }
  where
    or_third : (a b c : Bool) → (a || c) ≡ true → (a || (b || c)) ≡ true
    or_third true b c h = refl
    or_third false b c h = or_right b c h

pub failed_cause : (past : List Entry) (n s : ℕ) (o : Option Sent) (e : Entry) → failed_of past n s o ≡ Some e → (has_error_request n past || has_error_buffer n s past) ≡ true
failed_cause past n s None e h = absurd (cc)
failed_cause past n s (Some t) e h =
    let given = passed-where (is_at_device_by n s t.buffer.0 past && (has_error_request n past || has_error_buffer n s past)) (Failed (record { 0 = n }) (record { 0 = s }) t.buffer (fence_left t.fence past)) e h in
    (and_parts (is_at_device_by n s t.buffer.0 past) (has_error_request n past || has_error_buffer n s past) given).1

whole : (script : Script) (past : List Entry) (n : ℕ) → has_error_request n past ≡ true → IsCaused script past n
whole script past n h = record { began = or_right (has_shutter n past) (has_error_request n past) h; fault = or_right (not (request_fault script n)) (has_error_request n past || is_stopped n past) (or_left (has_error_request n past) (is_stopped n past) h) }

pub buffer_error : (n s : ℕ) (e : Entry) → is_error_buffer n s e ≡ true → is_error_of n e ≡ true
buffer_error n s (ErrorBuffer m t) h = (and_parts (m.0 == n) (t.0 == s) h).0
buffer_error n s _ h = absurd (false≢true h)

pub error-something : (n : ℕ) (past : List Entry) → has_error n past ≡ true → has_something n past ≡ true
error-something n past h = or_right (list_any (is_partial n) past) (list_any (returns_of_frame n) past || has_error n past) (or_right (list_any (returns_of_frame n) past) (has_error n past) h)

-- a good buffer comes of a frame with a shutter and no request fault
sound_cause : (script : Script) (past : List Entry) (n s : ℕ) → has_shutter n past ≡ true → is_sound script past n s ≡ true → IsCaused script past n
sound_cause script past n s shutter sound = record {
  began = or_left (has_shutter n past) (has_error_request n past) shutter;
  fault = or_left (not (request_fault script n)) (has_error_request n past || is_stopped n past) (and_parts (not (request_fault script n)) (not (buffer_fault script n s)) (and_parts (not (request_fault script n) && not (buffer_fault script n s)) (not (has_error_request n past) && not (has_error_buffer n s past)) sound).0).0;
}

cause_of : (script : Script) (past : List Entry) (e : Entry) (n : ℕ) → IsLegal script (e ∷ past) → (has_something n past ≡ true → IsCaused script past n) → is_something n e ≡ true → IsCaused script (e ∷ past) n
cause_of script past (Partial m k part) n legal before h =
    let at : m.0 ≡ n = eqb-true m.0 n (or-alone (m.0 == n) h) in
    let shutter = (part-is script past m k part legal.0).shutter in
    let may = part_given script past m.0 (partial_count m.0 past + 1) (shutter_time m.0 past) (Partial m k part) legal.0 in
    let sound = no_fault (has_error_request m.0 past) (has_error_result m.0 past) (request_fault script m.0) (nat_le (partial_count m.0 past + 1) 3 && (not (partial_count m.0 past + 1 == 3) || (not (result_fault script m.0) && each_earlier m.0 (λ j. is_metadata_ended j past) past))) may in
    still_caused script past (Partial m k part) n (rw (← at) (record { began = or_left (has_shutter m.0 past) (has_error_request m.0 past) shutter; fault = or_left (not (request_fault script m.0)) (has_error_request m.0 past || is_stopped m.0 past) sound }))
cause_of script past (Filled m s b f d) n legal before h =
    let well = filled-well script past m s b f d legal.0 in
    still_caused script past (Filled m s b f d) n (rw (← eqb-true m.0 n (or-alone (m.0 == n) h)) (sound_cause script past m.0 s.0 well.shutter well.sound))
cause_of script past (Early m s b d) n legal before h =
    let well = early-well script past m s b d legal.0 in
    still_caused script past (Early m s b d) n (rw (← eqb-true m.0 n (or-alone (m.0 == n) h)) (sound_cause script past m.0 s.0 well.shutter well.sound))
cause_of script past (Failed m s b f) n legal before h =
    let at : m.0 ≡ n = eqb-true m.0 n (or-alone (m.0 == n) h) in
    let cause = rw at at (failed_cause past m.0 s.0 (target_of m.0 s.0 past) (Failed m s b f) legal.0) in
    still_caused script past (Failed m s b f) n (elim (cases_Bool (has_error_request n past)) [
      | inl had ↦ whole script past n had
      | inr none ↦ (let named = rw none at cause in before (error-something n past (any-where (is_error_buffer n s.0) (is_error_of n) past (buffer_error n s.0) named)))
    ])
cause_of script past (ErrorRequest m) n legal before h = whole script (ErrorRequest m ∷ past) n (or_left (m.0 == n) (has_error_request n past) h)
cause_of script past (ErrorResult m) n legal before h =
    let at : m.0 ≡ n = eqb-true m.0 n h in
    let may = passed-where (may_fail_result script past m.0) (ErrorResult (record { 0 = m.0 })) (ErrorResult m) legal.0 in
    let first = and_parts (may_fail_in_part script past m.0 && not (is_metadata_ended m.0 past)) (each_earlier m.0 (λ j. is_metadata_ended j past) past && (result_fault script m.0 || is_cut_short past m.0)) may in
    let second = and_parts (may_fail_in_part script past m.0) (not (is_metadata_ended m.0 past)) first.0 in
    still_caused script past (ErrorResult m) n (rw (← at) (in_part script past m.0 second.0))
cause_of script past (ErrorBuffer m s) n legal before h =
    let at : m.0 ≡ n = eqb-true m.0 n h in
    let may = passed-where (may_fail_buffer script past m.0 s.0) (ErrorBuffer (record { 0 = m.0 }) (record { 0 = s.0 })) (ErrorBuffer m s) legal.0 in
    let first = and_parts (has_target m.0 s.0 past && (may_fail_in_part script past m.0 && not (has_error_request m.0 past))) ((not (has_error_buffer m.0 s.0 past) && not (is_returned m.0 s.0 past)) && (buffer_fault script m.0 s.0 || is_cut_short past m.0)) may in
    let second = and_parts (has_target m.0 s.0 past) (may_fail_in_part script past m.0 && not (has_error_request m.0 past)) first.0 in
    let third = and_parts (may_fail_in_part script past m.0) (not (has_error_request m.0 past)) second.1 in
    still_caused script past (ErrorBuffer m s) n (rw (← at) (in_part script past m.0 third.0))
cause_of script past _ n legal before h = absurd (false≢true h)

pub caused : (script : Script) (past : List Entry) (n : ℕ) → IsLegal script past → has_something n past ≡ true → IsCaused script past n
caused script [] n legal h = absurd (false≢true h)
caused script (e ∷ past) n legal h =
    let step : (is_something n e || has_something n past) ≡ true = sym (something_step n e past) ∙ h in
    elim (cases_Bool (is_something n e)) [
      | inl here ↦ cause_of script past e n legal (λ k. caused script past n legal.1 k) here
      | inr other ↦ (let k = rw other at step in still_caused script past e n (caused script past n legal.1 k))
    ]

-- what ended is something
part_partial : (n k : ℕ) (e : Entry) → is_part n k e ≡ true → is_partial n e ≡ true
part_partial n k (Partial m j part) h = (and_parts (m.0 == n) (j == k) h).0
part_partial n k _ h = absurd (false≢true h)

pub ended-something : (n : ℕ) (past : List Entry) → is_metadata_ended n past ≡ true → has_something n past ≡ true
ended-something n past h =
    elim (cases_Bool (has_part n 3 past)) [
      | inl last ↦ or_left (list_any (is_partial n) past) (list_any (returns_of_frame n) past || has_error n past) (any-where (is_part n 3) (is_partial n) past (part_partial n 3) last)
      | inr none ↦ (
          let h' = rw none at h in
          error-something n past (elim (cases_Bool (has_error_result n past)) [
            | inl result ↦ any-where (is_error_result n) (is_error_of n) past (result-is-error n) result
            | inr other ↦ (let h'' = rw other at h' in any-where (is_error_request n) (is_error_of n) past (request_is_error n) h'')
          ])
          )
    ]
