-- A shutter and a partial result are allowed where they meet their conditions.
use Rattle.std.proofs.Common.{◌≡◌, ◌↔◌, ℕ, ◌==◌, ◌+◌, ◌<◌, Bool, true, false, ◌&&◌, ◌||◌, not, List, [], ◌∷◌, Option, Some, None, IsTrue, if◌then◌else◌, refl, sym, ◌∙◌, ap, arith, rules, find, inl, inr}
use Rattle.std.specs.Prelude.{is_some, nat_le, nat_lt}
use Rattle.std.specs.List.{list_all}
use Rattle.std.specs.Bool.{Decides}
use Rattle.std.proofs.lemmas.Bool.{and_from, and_parts, cases_Bool, cases_eq, cases_order, false≢true, ne_eqb, or_right}
use Rattle.std.proofs.lemmas.Bool.Decides.{Decides-eqb, Decides-like, nat_tests}
use Rattle.cam_types.specs.Metadata.{part_at}
use Rattle.cam_types.specs.declared.number.FrameNo.{FrameNo}
use Rattle.cam_types.specs.declared.partial_result.PartialResult.{PartialResult}
use Rattle.cam_types.specs.declared.partial_result.PartialResult.TheVariants.{Look, Light, Time}
use Rattle.cam_types.specs.declared.script.Script.{Script}
use Rattle.trace_model.specs.declared.entry.Entry.{Entry}
use Rattle.trace_model.specs.declared.entry.Entry.TheVariants.{Shutter, Partial, ErrorRequest, ErrorResult, ErrorBuffer}
use Rattle.trace_model.specs.Faults.{device_fault, request_fault, result_fault}
use Rattle.trace_model.specs.Frames.{each_earlier, frames, has_error, has_error_request, has_shutter, is_sent, settings_of, shutter_time}
use Rattle.trace_model.specs.Open.{has_error_result, is_metadata_ended}
use Rattle.trace_model.specs.Partial.{may_have_partial, partial_count, partial_of, partial_due}
use Rattle.trace_model.specs.Shutter.{may_expose, next_time, shutter_at, shutter_due}
use Rattle.trace_model.specs.Stopping.{is_stopping}
use Rattle.rule_conditions.specs.Results.{is_part_of, is_same_partial_result, partial_conditions, partial_holds, shutter_conditions, shutter_holds}
use Rattle.rule_conditions.proofs.Tests.{at_sent, by_test, one_found, where_test}
use Rattle.basic_lemmas.proofs.Lists.{found-passes}

-- ---- shutters

error_has : (n : ℕ) (past : List Entry) → has_error_request n past ≡ true → has_error n past ≡ true
error_has n [] h = absurd (cc)
error_has n (ErrorRequest m ∷ past) h =
    elim (cases_Bool (m.0 == n)) [
      | inl yes' ↦ rw yes' refl
      | inr no' ↦ rw no' (error_has n past (rw no' at h))
    ]
error_has n (ErrorResult m ∷ past) h = or_right (m.0 == n) (has_error n past) (error_has n past h)
error_has n (ErrorBuffer m s ∷ past) h = or_right (m.0 == n) (has_error n past) (error_has n past h)
error_has n (e ∷ past) h = error_has n past h

expose_parts : (script : Script) (past : List Entry) (n : ℕ) → may_expose script past n ≡ true → (is_sent n past ≡ true) × (has_shutter n past ≡ false) × (has_error n past ≡ false) × (each_earlier n (λ m. has_shutter m past || has_error_request m past) past ≡ true)
expose_parts script past n h = (grind arith, grind arith, grind arith, grind arith)

-- of two frames that may be exposed none is the later one
not_later : (script : Script) (past : List Entry) (m n : ℕ) → may_expose script past m ≡ true → may_expose script past n ≡ true → m < n → ⊥
not_later script past m n h k l =
    let mine = expose_parts script past m h in
    let other = expose_parts script past n k in
    let earlier = at_sent (λ i. not (nat_lt i n) || (has_shutter i past || has_error_request i past)) m past other.3 mine.0 in
    let failed : has_error_request m past ≡ true = grind (arith, nat_tests) in
    let error = error_has m past failed in
    absurd (false≢true (sym mine.2 ∙ error))

one_exposed : (script : Script) (past : List Entry) (m n : ℕ) → may_expose script past m ≡ true → may_expose script past n ≡ true → m ≡ n
one_exposed script past m n h k =
    elim (cases_order m n) [
      | inl e ↦ e
      | inr o ↦ elim o [
        | inl less ↦ absurd (not_later script past m n h k less)
        | inr more ↦ absurd (not_later script past n m k h more)
      ]
    ]

shutter_same : (a t : ℕ) (n : FrameNo) (time : ℕ) → a ≡ n.0 → time ≡ t → Shutter (record { 0 = a }) t ≡ Shutter n time
shutter_same a t n time x y =
    let k : Shutter (record { 0 = a }) t ≡ Shutter (record { 0 = n.0 }) time = rw (x, y) refl in k

frame_number : (a : ℕ) (n : FrameNo) → record { 0 = a } ≡ n → a ≡ n.0
frame_number a n e = ap (λ (z : FrameNo). z.0) e

at_found : (script : Script) (past : List Entry) (o : Option ℕ) (n : FrameNo) (time : ℕ) → find (may_expose script past) (frames past) ≡ o → IsTrue (may_expose script past n.0 && (time == next_time script past)) ↔ (shutter_at script past o ≡ Some (Shutter n time))
at_found script past None n time e =
    (λ h. absurd (let yes' = (and_parts (may_expose script past n.0) (time == next_time script past) h).0 in let found = one_found (may_expose script past) n.0 past yes' (expose_parts script past n.0 yes').0 (λ m s k. one_exposed script past m n.0 k yes') in let bad : None ≡ Some n.0 = sym e ∙ found in cc), λ d. absurd (cc))
at_found script past (Some m) n time e =
    let exposed = found-passes (may_expose script past) (frames past) m e in
    (λ h. let parts = and_parts (may_expose script past n.0) (time == next_time script past) h in ap Some (shutter_same m (next_time script past) n time (one_exposed script past m n.0 exposed parts.0) ((Decides-eqb time (next_time script past)).0 parts.1)), λ d. let same : m ≡ n.0 = frame_number m n (cc) in let at : next_time script past ≡ time = cc in and_from _ _ (rw same at exposed) ((Decides-eqb time (next_time script past)).1 (sym at)))

shutter_bools : (sent fresh fresh' order stops fault time : Bool) → (sent && ((fresh && fresh') && (order && (not stops && (not fault && (time && true)))))) ≡ ((not stops && (((sent && (fresh && fresh')) && order) && not fault)) && time)
shutter_bools sent fresh fresh' order stops fault time = grind arith

pub shutter_meets : (script : Script) (past : List Entry) (n : FrameNo) (time : ℕ) → IsTrue (list_all (λ c. shutter_holds c script past n.0 time) shutter_conditions) ↔ (shutter_due script past ≡ Some (Shutter n time))
shutter_meets script past n time =
    by_test _ _ (shutter_bools (is_sent n.0 past) (not (has_shutter n.0 past)) (not (has_error n.0 past)) (each_earlier n.0 (λ m. has_shutter m past || has_error_request m past) past) (is_stopping past) (device_fault script n.0) (time == next_time script past)) (at_found script past (find (may_expose script past) (frames past)) n time refl)

-- ---- partial results

shutter_told : (n : ℕ) (past : List Entry) → has_shutter n past ≡ is_some (shutter_time n past)
shutter_told n [] = refl
shutter_told n (Shutter m time ∷ past) =
    elim (cases_Bool (m.0 == n)) [
      | inl yes' ↦ rw yes' refl
      | inr no' ↦ rw no' (shutter_told n past)
    ]
shutter_told n (e ∷ past) = shutter_told n past

pub Decides-part : (a b : PartialResult) → Decides (is_same_partial_result a b) (a ≡ b)
Decides-part (Look p l) (Look q m) = search rules
Decides-part (Light e i) (Light f j) = search rules
Decides-part (Time t) (Time u) = search rules
Decides-part _ _ = (λ h. absurd (false≢true h), λ h. absurd (cc))

part_same : (n : FrameNo) (k : ℕ) (part other : PartialResult) → IsTrue (is_same_partial_result part other) ↔ (Partial n k other ≡ Partial n k part)
part_same n k part other =
    Decides-like (is_same_partial_result part other) (λ e. ap (λ (p : PartialResult). Partial n k p) (sym e)) (λ e. let same : other ≡ part = cc in sym same) (Decides-part part other)

partial_bools : (small same request result fault late order last : Bool) → (small && (same && ((not request && not result) && (not fault && ((not last || not late) && ((not last || order) && true)))))) ≡ (((not request && (not result && not fault)) && (small && (not last || (not late && order)))) && same)
partial_bools small same request result fault late order last = grind arith

-- a result of the next number, of a frame whose shutter was at the time
next_part : (script : Script) (past : List Entry) (n : FrameNo) (k : ℕ) (part : PartialResult) (time : ℕ) → IsTrue (nat_le k 3 && (is_part_of script past n.0 k part (Some time) && ((not (has_error_request n.0 past) && not (has_error_result n.0 past)) && (not (request_fault script n.0) && ((not (k == 3) || not (result_fault script n.0)) && ((not (k == 3) || each_earlier n.0 (λ m. is_metadata_ended m past) past) && true)))))) ↔ (partial_of script past n.0 k (Some time) ≡ Some (Partial n k part))
next_part script past n k part time =
    by_test _ _ (partial_bools (nat_le k 3) (is_part_of script past n.0 k part (Some time)) (has_error_request n.0 past) (has_error_result n.0 past) (request_fault script n.0) (result_fault script n.0) (each_earlier n.0 (λ m. is_metadata_ended m past) past) (k == 3)) (where_test (may_have_partial script past n.0 k) _ _ _ (part_same n k part (part_at k (settings_of script past n.0) time)))

part_number_at : (t : Bool) (m : FrameNo) (k : ℕ) (part : PartialResult) (n : FrameNo) (j : ℕ) (other : PartialResult) → (if t then Some (Partial m k part) else None) ≡ Some (Partial n j other) → k ≡ j
part_number_at true m k part n j other e = cc
part_number_at false m k part n j other e = absurd (cc)

part_by : (script : Script) (past : List Entry) (n : FrameNo) (k next : ℕ) (part : PartialResult) (o : Option ℕ) → has_shutter n.0 past ≡ is_some o → IsTrue (has_shutter n.0 past && (((k == next) && nat_le k 3) && (is_part_of script past n.0 k part o && ((not (has_error_request n.0 past) && not (has_error_result n.0 past)) && (not (request_fault script n.0) && ((not (k == 3) || not (result_fault script n.0)) && ((not (k == 3) || each_earlier n.0 (λ m. is_metadata_ended m past) past) && true))))))) ↔ (partial_of script past n.0 next o ≡ Some (Partial n k part))
part_by script past n k next part None e = rw e (λ h. absurd (false≢true h), λ d. absurd (cc))
part_by script past n k next part (Some time) e =
    elim (cases_eq k next) [
      | inl same ↦ rw (e, ← same, (Decides-eqb k k).1 refl) (next_part script past n k part time)
      | inr other ↦ rw (e, ne_eqb k next other) (λ h. absurd (false≢true h), λ d. absurd (other (sym (part_number_at (may_have_partial script past n.0 next) n next (part_at next (settings_of script past n.0) time) n k part d))))
    ]

pub partial_meets : (script : Script) (past : List Entry) (n : FrameNo) (k : ℕ) (part : PartialResult) → IsTrue (list_all (λ c. partial_holds c script past n.0 k part) partial_conditions) ↔ (partial_due script past n.0 ≡ Some (Partial n k part))
partial_meets script past n k part =
    part_by script past n k (partial_count n.0 past + 1) part (shutter_time n.0 past) (shutter_told n.0 past)
