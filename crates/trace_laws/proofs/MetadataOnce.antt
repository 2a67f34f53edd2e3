-- In a complete run the metadata of each frame ends once, and a frame has all its parts or an error that says that some are
-- missing.
use Rattle.std.proofs.Common.{◌≡◌, ℕ, ◌==◌, Bool, true, false, ◌||◌, List, [], ◌∷◌, refl, ◌∙◌, inl, inr, count_by}
use Rattle.std.specs.List.{list_any, list_all}
use Rattle.std.proofs.lemmas.Bool.{cases_Bool, eq-eqb, false≢true, or_left, or_right, or_parts}
use Rattle.cam_types.specs.declared.script.Script.{Script}
use Rattle.trace_model.specs.declared.entry.Entry.{Entry}
use Rattle.trace_model.specs.declared.entry.Entry.TheVariants.{Partial}
use Rattle.trace_model.specs.Complete.{IsComplete}
use Rattle.trace_model.specs.Entry.{is_error_request, is_error_result, is_part}
use Rattle.trace_model.specs.Frames.{frames, has_error_request}
use Rattle.trace_model.specs.Laws.{CountsUp, ends_metadata, is_whole_or_failed}
use Rattle.trace_model.specs.Legal.{IsLegal}
use Rattle.trace_model.specs.Open.{has_error_result, has_part, is_metadata_ended}
use Rattle.trace_laws.proofs.Metadata.{all-ended, ended-by, ends-counted, ends-open}
use Rattle.trace_laws.proofs.Parts.{parts_in_order}
use Rattle.basic_lemmas.proofs.Tests.{or-alone}
use Rattle.basic_lemmas.proofs.Lists.{any-less, all-where}

counted : (script : Script) (past : List Entry) (n : ℕ) → IsLegal script past → list_any (ends_metadata n) past ≡ true → (count_by (ends_metadata n) past == 1) ≡ true
counted script past n legal ended = eq-eqb (count_by (ends_metadata n) past) 1 (ends-counted script past n legal ∙ rw ended refl)

pub metadata_once : (script : Script) (past : List Entry) → IsComplete script past → list_all (λ n. count_by (ends_metadata n) past == 1) (frames past) ≡ true
metadata_once script past complete =
    all-where (λ n. list_any (ends_metadata n) past) (λ n. count_by (ends_metadata n) past == 1) (frames past) (λ n ended. counted script past n complete.legal ended) (all-ended script past complete)

-- ---- whole or failed

-- the entry says that metadata of frame n is missing
abbrev pub fails_metadata : ℕ → Entry → Bool
fails_metadata n e = is_error_result n e || is_error_request n e

fails-by : (n : ℕ) (past : List Entry) → list_any (fails_metadata n) past ≡ (has_error_result n past || has_error_request n past)
fails-by n [] = refl
fails-by n (e ∷ past) = rw (fails-by n past) (by_entry (is_error_result n e) (has_error_result n past) (is_error_request n e) (has_error_request n past))
  where
    by_entry : (y b z c : Bool) → ((y || z) || (b || c)) ≡ ((y || b) || (z || c))
    by_entry true b z c = refl
    by_entry false true true c = refl
    by_entry false true false c = refl
    by_entry false false z c = refl

part_is_no_error : (n : ℕ) (e : Entry) → is_part n 3 e ≡ true → fails_metadata n e ≡ false
part_is_no_error n (Partial m k part) h = refl
part_is_no_error n _ h = absurd (false≢true h)

-- a frame with a last part has no error that says that it is missing
whole_without_error : (script : Script) (past : List Entry) (n : ℕ) → IsLegal script past → list_any (is_part n 3) past ≡ true → list_any (fails_metadata n) past ≡ false
whole_without_error script [] n legal h = refl
whole_without_error script (e ∷ past) n legal h =
    elim (cases_Bool (ends_metadata n e)) [
      | inl ends ↦ (
          let still = ends-open script past e n legal.1 legal.0 ends in
          let parts = any-less (ends_metadata n) (is_part n 3) past (λ x k. or_left (is_part n 3 x) (fails_metadata n x) k) still in
          let errors = any-less (ends_metadata n) (fails_metadata n) past (λ x k. or_right (is_part n 3 x) (fails_metadata n x) k) still in
          let here : is_part n 3 e ≡ true = or-alone (is_part n 3 e) (rw parts at h) in
          rw (part_is_no_error n e here, errors) refl
          )
      | inr other ↦ (
          let none = or_parts (is_part n 3 e) (fails_metadata n e) other in
          let h' = rw none.0 at h in
          rw none.1 (whole_without_error script past n legal.1 h')
          )
    ]

whole_or_failed : (script : Script) (past : List Entry) (n : ℕ) → IsLegal script past → list_any (ends_metadata n) past ≡ true → is_whole_or_failed n past ≡ true
whole_or_failed script past n legal ended =
    let ended' : is_metadata_ended n past ≡ true = rw (ended-by n past) at ended in
    elim (cases_Bool (has_part n 3 past)) [
      | inl last ↦ (
          let none = whole_without_error script past n legal last in
          let none' : (has_error_result n past || has_error_request n past) ≡ false = rw (fails-by n past) at none in
          rw (last, none') refl
          )
      | inr other ↦ (let failed = rw other at ended' in rw other failed)
    ]

pub partials_count_up : (script : Script) (past : List Entry) → IsComplete script past → CountsUp past
partials_count_up script past complete = record {
  in_order = parts_in_order script past complete.legal;
  last = all-where (λ n. list_any (ends_metadata n) past) (λ n. is_whole_or_failed n past) (frames past) (λ n ended. whole_or_failed script past n complete.legal ended) (all-ended script past complete);
}
