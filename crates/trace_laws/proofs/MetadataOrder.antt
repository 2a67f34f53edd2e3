-- The metadata of frames ends in order: below a frame that has its last part or a result error, each sent frame has ended its
-- metadata.
use Rattle.std.proofs.Common.{◌≡◌, ℕ, ◌==◌, ◌<◌, Bool, true, false, ◌&&◌, ◌||◌, List, [], ◌∷◌, refl, ◌∙◌, arith, inl, inr}
use Rattle.std.specs.List.{list_any, list_all}
use Rattle.std.proofs.lemmas.Bool.{and_parts, both_ways, cases_Bool, cases_order, eq-eqb, eqb-true, false≢true, lt-ltb}
use Rattle.cam_types.specs.declared.number.FrameNo.{FrameNo}
use Rattle.cam_types.specs.declared.partial_result.PartialResult.{PartialResult}
use Rattle.cam_types.specs.declared.script.Script.{Script}
use Rattle.trace_model.specs.declared.entry.Entry.{Entry}
use Rattle.trace_model.specs.declared.entry.Entry.TheVariants.{Send, Partial, ErrorResult}
use Rattle.trace_model.specs.Allowed.{IsAllowed}
use Rattle.trace_model.specs.Entry.{is_error_request, is_error_result, is_part, sends}
use Rattle.trace_model.specs.Frames.{is_sent}
use Rattle.trace_model.specs.Laws.{ends_below, ends_in_order, ends_metadata, ends_result_of}
use Rattle.trace_model.specs.Legal.{IsLegal}
use Rattle.trace_model.specs.Open.{is_metadata_ended}
use Rattle.trace_laws.proofs.Metadata.{ended-by, ends-open, result-fails}
use Rattle.trace_laws.proofs.Parts.{HaveEnded, part-is}
use Rattle.trace_laws.proofs.Sends.{each-at, sent-before}
use Rattle.trace_laws.proofs.Shutters.{shutter-sent}
use Rattle.basic_lemmas.proofs.Tests.{or-alone}
use Rattle.basic_lemmas.proofs.Lists.{any-behind, any-where}

-- a last part is of the frame
last_part : (m k n : ℕ) → (((m == n) && (k == 3)) || false) ≡ true → (m ≡ n) × (k ≡ 3)
last_part m k n h =
    let parts = and_parts (m == n) (k == 3) (or-alone ((m == n) && (k == 3)) h) in
    (eqb-true m n parts.0, eqb-true k 3 parts.1)

-- what has a last part or a result error was sent
pub result-sent : (script : Script) (past : List Entry) (m : ℕ) → IsLegal script past → list_any (ends_result_of m) past ≡ true → is_sent m past ≡ true
result-sent script [] m legal h = absurd (false≢true h)
result-sent script (Send n r i same targets ∷ past) m legal h = any-behind (sends m) (Send n r i same targets) past (result-sent script past m legal.1 h)
result-sent script (Partial j k part ∷ past) m legal h =
    elim (cases_Bool (ends_result_of m (Partial j k part))) [
      | inl here ↦ (
          let sent = shutter-sent script past j.0 legal.1 (part-is script past j k part legal.0).shutter in
          rw (last_part j.0 k m here).0 at sent
          )
      | inr other ↦ (let h' = rw other at h in result-sent script past m legal.1 h')
    ]
result-sent script (ErrorResult j ∷ past) m legal h =
    elim (cases_Bool (j.0 == m)) [
      | inl here ↦ (
          let sent = shutter-sent script past j.0 legal.1 (result-fails script past j legal.0).shutter in
          rw (eqb-true j.0 m here) at sent
          )
      | inr other ↦ (let h' = rw other at h in result-sent script past m legal.1 h')
    ]
result-sent script (e ∷ past) m legal h = result-sent script past m legal.1 h

-- of the earlier frames whose metadata ended, each that was sent
ended_at : (j n m : ℕ) (past : List Entry) → HaveEnded j past → j ≡ m → n < m → is_sent n past ≡ true → list_any (ends_metadata n) past ≡ true
ended_at j n m past earlier at less sent =
    let less' : n < j = omega (arith, at, less) in
    ended-by n past ∙ each-at j n (λ i. is_metadata_ended i past) past earlier sent less'

pub result-below : (script : Script) (past : List Entry) (n m : ℕ) → IsLegal script past → list_any (ends_result_of m) past ≡ true → n < m → is_sent n past ≡ true → list_any (ends_metadata n) past ≡ true
result-below script [] n m legal h less sent = absurd (false≢true h)
result-below script (Send j r i same targets ∷ past) n m legal h less sent =
    let sent' = sent-before script past n m j.0 r.0 i same targets legal.1 legal.0 (result-sent script past m legal.1 h) less sent in
    result-below script past n m legal.1 h less sent'
result-below script (Partial j k part ∷ past) n m legal h less sent =
    any-behind (ends_metadata n) (Partial j k part) past (
    elim (cases_Bool (ends_result_of m (Partial j k part))) [
      | inl here ↦ (
          let last = last_part j.0 k m here in
          ended_at j.0 n m past ((part-is script past j k part legal.0).earlier last.1) last.0 less sent
          )
      | inr other ↦ (let h' = rw other at h in result-below script past n m legal.1 h' less sent)
    ]
    )
result-below script (ErrorResult j ∷ past) n m legal h less sent =
    any-behind (ends_metadata n) (ErrorResult j) past (
    elim (cases_Bool (j.0 == m)) [
      | inl here ↦ ended_at j.0 n m past (result-fails script past j legal.0).earlier (eqb-true j.0 m here) less sent
      | inr other ↦ (let h' = rw other at h in result-below script past n m legal.1 h' less sent)
    ]
    )
result-below script (e ∷ past) n m legal h less sent = any-behind (ends_metadata n) e past (result-below script past n m legal.1 h less sent)

result_ends : (n : ℕ) (e : Entry) → ends_result_of n e ≡ true → ends_metadata n e ≡ true
result_ends n e h = more (is_part n 3 e) (is_error_result n e) (is_error_request n e) h
  where
    more : (a b c : Bool) → (a || b) ≡ true → (a || (b || c)) ≡ true
    more true b c h = refl
    more false true c h = refl
    more false false c h = absurd (false≢true h)

-- what ends by a part or a result error is above all that did
above_all : (script : Script) (past : List Entry) (e : Entry) (n m : ℕ) → IsLegal script past → IsAllowed script past e → ends_metadata n e ≡ true → is_sent n past ≡ true → list_any (ends_result_of m) past ≡ true → m < n
above_all script past e n m legal may ends sent had =
    let still = ends-open script past e n legal may ends in
    elim (cases_order m n) [
      | inl at ↦ (
          let had' = rw at at had in
          absurd (both_ways (list_any (ends_metadata n) past) still (any-where (ends_result_of n) (ends_metadata n) past (result_ends n) had'))
          )
      | inr order ↦ elim order [
        | inl less ↦ less
        | inr more ↦ absurd (both_ways (list_any (ends_metadata n) past) still (result-below script past n m legal had more sent))
      ]
    ]

all_below : (n : ℕ) (past : List Entry) → ((m : ℕ) → list_any (ends_result_of m) past ≡ true → m < n) → list_all (ends_below n) past ≡ true
all_below n [] each = refl
all_below n (Partial m k part ∷ past) each =
    let rest = all_below n past (λ i h. each i (any-behind (ends_result_of i) (Partial m k part) past h)) in
    elim (cases_Bool (k == 3)) [
      | inl last ↦ (
          let here : list_any (ends_result_of m.0) (Partial m k part ∷ past) ≡ true = rw (eq-eqb m.0 m.0 refl, last) refl in
          rw (last, lt-ltb m.0 n (each m.0 here)) rest
          )
      | inr other ↦ rw other rest
    ]
all_below n (ErrorResult m ∷ past) each =
    let here : list_any (ends_result_of m.0) (ErrorResult m ∷ past) ≡ true = rw (eq-eqb m.0 m.0 refl) refl in
    let rest = all_below n past (λ i h. each i (any-behind (ends_result_of i) (ErrorResult m) past h)) in
    rw (lt-ltb m.0 n (each m.0 here)) rest
all_below n (e ∷ past) each = all_below n past each

-- a last part is above all that ended before
last_above : (script : Script) (past : List Entry) (n : FrameNo) (k : ℕ) (part : PartialResult) → IsLegal script past → IsAllowed script past (Partial n k part) → (k == 3) ≡ true → list_all (ends_below n.0) past ≡ true
last_above script past n k part legal may last =
    let ends : ends_metadata n.0 (Partial n k part) ≡ true = rw (eq-eqb n.0 n.0 refl, last) refl in
    let sent = shutter-sent script past n.0 legal (part-is script past n k part may).shutter in
    all_below n.0 past (λ m h. above_all script past (Partial n k part) n.0 m legal may ends sent h)

pub metadata_in_order : (script : Script) (past : List Entry) → IsLegal script past → ends_in_order past ≡ true
metadata_in_order script [] legal = refl
metadata_in_order script (Partial n k part ∷ past) legal =
    let ih = metadata_in_order script past legal.1 in
    elim (cases_Bool (k == 3)) [
      | inl last ↦ rw (last, last_above script past n k part legal.1 legal.0 last) ih
      | inr other ↦ rw other ih
    ]
metadata_in_order script (ErrorResult n ∷ past) legal =
    let ends : ends_metadata n.0 (ErrorResult n) ≡ true = rw (eq-eqb n.0 n.0 refl) refl in
    let sent = shutter-sent script past n.0 legal.1 (result-fails script past n legal.0).shutter in
    let below = all_below n.0 past (λ m h. above_all script past (ErrorResult n) n.0 m legal.1 legal.0 ends sent h) in
    rw below (metadata_in_order script past legal.1)
metadata_in_order script (e ∷ past) legal = metadata_in_order script past legal.1
