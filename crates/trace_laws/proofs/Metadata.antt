-- The metadata of a frame ends once, and in the order of frames: what ends it asks that it hasn't ended, and the last part or
-- a result error asks that the metadata of each earlier frame has.
use Rattle.std.proofs.Common.{◌≡◌, ℕ, ◌==◌, Bool, true, false, ◌&&◌, ◌||◌, not, List, [], ◌∷◌, Some, refl, sym, ◌∙◌, count_by, if◌then◌else◌}
use Rattle.std.specs.List.{list_any, list_all}
use Rattle.std.proofs.lemmas.Bool.{and_parts, eqb-true, false≢true, not-true, or_parts}
use Rattle.cam_types.specs.declared.number.FrameNo.{FrameNo}
use Rattle.cam_types.specs.declared.partial_result.PartialResult.{PartialResult}
use Rattle.cam_types.specs.declared.script.Script.{Script}
use Rattle.trace_model.specs.declared.entry.Entry.{Entry}
use Rattle.trace_model.specs.declared.entry.Entry.TheVariants.{Partial, ErrorRequest, ErrorResult}
use Rattle.trace_model.specs.Allowed.{IsAllowed}
use Rattle.trace_model.specs.Complete.{IsComplete}
use Rattle.trace_model.specs.Entry.{is_error_of, is_error_request, is_error_result, is_part, is_partial, returns_of_frame}
use Rattle.trace_model.specs.Errors.{error_request_due, error_result_due, is_cut_short, may_fail_in_part, may_fail_request, may_fail_result}
use Rattle.trace_model.specs.Faults.{request_fault, result_fault}
use Rattle.trace_model.specs.Frames.{each_earlier, frames, has_error, has_error_request, has_shutter, is_sent}
use Rattle.trace_model.specs.Laws.{ends_metadata}
use Rattle.trace_model.specs.Legal.{IsLegal}
use Rattle.trace_model.specs.Open.{all_settled, has_error_result, has_part, has_something, is_metadata_ended, is_open}
use Rattle.trace_model.specs.Stopping.{is_stopped}
use Rattle.trace_laws.proofs.Parts.{HaveEnded, part-first, part-is}
use Rattle.trace_laws.proofs.Shutters.{no-request}
use Rattle.basic_lemmas.proofs.Tests.{or-alone, or-crossed-three, passed-where}
use Rattle.basic_lemmas.proofs.Lists.{any-less, all-where-both}
use Rattle.basic_lemmas.proofs.Counts.{counts-once}
use Rattle.trace_laws.proofs.BufferSends.{frames-sent}

-- ---- the metadata ended where some entry ends it

pub ended-by : (n : ℕ) (past : List Entry) → list_any (ends_metadata n) past ≡ is_metadata_ended n past
ended-by n [] = refl
ended-by n (e ∷ past) =
    rw (ended-by n past) (sym (or-crossed-three (is_part n 3 e) (has_part n 3 past) (is_error_result n e) (has_error_result n past) (is_error_request n e) (has_error_request n past)))

-- ---- an error that is due

-- what a result error says of the past before it
pub record ResultFails (past : List Entry) (n : ℕ) : Type 0 where
  pub shutter : has_shutter n past ≡ true
  pub open_still : is_metadata_ended n past ≡ false
  pub earlier : HaveEnded n past

pub result-fails : (script : Script) (past : List Entry) (n : FrameNo) → error_result_due script past n.0 ≡ Some (ErrorResult n) → ResultFails past n.0
result-fails script past n h =
    let may = passed-where (may_fail_result script past n.0) (ErrorResult (record { 0 = n.0 })) (ErrorResult n) h in
    let in_part = may_fail_in_part script past n.0 in
    let ended = is_metadata_ended n.0 past in
    let earlier = each_earlier n.0 (λ m. is_metadata_ended m past) past in
    let cause = result_fault script n.0 || is_cut_short past n.0 in
    let first = and_parts (in_part && not ended) (earlier && cause) may in
    let second = and_parts in_part (not ended) first.0 in
    let third = and_parts (has_shutter n.0 past) (not (request_fault script n.0) || is_stopped n.0 past) second.0 in
    record { shutter = third.0; open_still = not-true ended second.1; earlier = (and_parts earlier cause first.1).0 }

pub result-is-error : (n : ℕ) (e : Entry) → is_error_result n e ≡ true → is_error_of n e ≡ true
result-is-error n (ErrorResult m) h = h
result-is-error n _ h = absurd (false≢true h)

part_is_partial : (n : ℕ) (e : Entry) → is_part n 3 e ≡ true → is_partial n e ≡ true
part_is_partial n (Partial m k part) h = (and_parts (m.0 == n) (k == 3) h).0
part_is_partial n _ h = absurd (false≢true h)

-- nothing of it came, so its metadata hasn't ended
not_ended : (n : ℕ) (past : List Entry) → has_something n past ≡ false → is_metadata_ended n past ≡ false
not_ended n past h =
    let first = or_parts (list_any (is_partial n) past) (list_any (returns_of_frame n) past || has_error n past) h in
    let second = or_parts (list_any (returns_of_frame n) past) (has_error n past) first.1 in
    let part = any-less (is_partial n) (is_part n 3) past (part_is_partial n) first.0 in
    let result = any-less (is_error_of n) (is_error_result n) past (result-is-error n) second.1 in
    let request = no-request n past second.1 in
    rw (part, result, request) refl

pub request-fails : (script : Script) (past : List Entry) (n : FrameNo) → error_request_due script past n.0 ≡ Some (ErrorRequest n) → is_metadata_ended n.0 past ≡ false
request-fails script past n h =
    let may = passed-where (may_fail_request script past n.0) (ErrorRequest (record { 0 = n.0 })) (ErrorRequest n) h in
    let nothing = not (has_something n.0 past) in
    let first = and_parts (is_open n.0 past && nothing) ((request_fault script n.0 && has_shutter n.0 past) || is_stopped n.0 past) may in
    let second = and_parts (is_open n.0 past) nothing first.0 in
    not_ended n.0 past (not-true (has_something n.0 past) second.1)

-- ---- it ends once

last_part_open : (script : Script) (past : List Entry) (n : FrameNo) (k : ℕ) (part : PartialResult) → IsLegal script past → IsAllowed script past (Partial n k part) → k ≡ 3 → is_metadata_ended n.0 past ≡ false
last_part_open script past n k part legal may last =
    let is = part-is script past n k part may in
    let first : has_part n.0 3 past ≡ false = rw last at (part-first script past n k part legal may) in
    rw (first, is.no_result, is.no_request) refl

-- what ends the metadata asks that it hasn't ended
pub ends-open : (script : Script) (past : List Entry) (e : Entry) (n : ℕ) → IsLegal script past → IsAllowed script past e → ends_metadata n e ≡ true → list_any (ends_metadata n) past ≡ false
ends-open script past (Partial m k part) n legal may h =
    let parts = and_parts (m.0 == n) (k == 3) (or-alone ((m.0 == n) && (k == 3)) h) in
    let still = last_part_open script past m k part legal may (eqb-true k 3 parts.1) in
    ended-by n past ∙ rw (eqb-true m.0 n parts.0) at still
ends-open script past (ErrorResult m) n legal may h =
    let still = (result-fails script past m may).open_still in
    ended-by n past ∙ rw (eqb-true m.0 n (or-alone (m.0 == n) h)) at still
ends-open script past (ErrorRequest m) n legal may h =
    let still = request-fails script past m may in
    ended-by n past ∙ rw (eqb-true m.0 n h) at still
ends-open script past _ n legal may h = absurd (false≢true h)

pub ends-counted : (script : Script) (past : List Entry) (n : ℕ) → IsLegal script past → count_by (ends_metadata n) past ≡ (if list_any (ends_metadata n) past then 1 else 0)
ends-counted script [] n legal = refl
ends-counted script (e ∷ past) n legal =
    counts-once (ends_metadata n) e past (λ h. ends-open script past e n legal.1 legal.0 h) (ends-counted script past n legal.1)

-- a sent frame that isn't open has ended its metadata
quiet_ended : (n : ℕ) (past : List Entry) → is_sent n past ≡ true → not (is_open n past) ≡ true → list_any (ends_metadata n) past ≡ true
quiet_ended n past sent quiet =
    ended-by n past ∙ closed (is_sent n past) (is_metadata_ended n past) (all_settled n past) sent quiet
  where
    closed : (sent ended back : Bool) → sent ≡ true → not (sent && not (ended && back)) ≡ true → ended ≡ true
    closed true true back h k = refl
    closed true false back h k = absurd (false≢true k)
    closed false ended back h k = absurd (false≢true h)

-- in a complete run each frame has ended its metadata
pub all-ended : (script : Script) (past : List Entry) → IsComplete script past → list_all (λ n. list_any (ends_metadata n) past) (frames past) ≡ true
all-ended script past complete =
    all-where-both (λ n. is_sent n past) (λ n. not (is_open n past)) (λ n. list_any (ends_metadata n) past) (frames past) (λ n sent quiet. quiet_ended n past sent quiet) (frames-sent past) complete.open_frames
