-- The time of a frame's shutter and its parts, entry by entry.
use Rattle.std.proofs.Common.{◌≡◌, ℕ, ◌==◌, ◌+◌, false, List, [], ◌∷◌, Option, refl, ◌∙◌, arith, inl, inr}
use Rattle.std.specs.Prelude.{is_some}
use Rattle.std.proofs.lemmas.Bool.{cases_Bool, eqb-true}
use Rattle.cam_types.specs.declared.script.Script.{Script}
use Rattle.trace_model.specs.declared.entry.Entry.{Entry}
use Rattle.trace_model.specs.declared.entry.Entry.TheVariants.{Shutter, Partial}
use Rattle.trace_model.specs.Allowed.{IsAllowed}
use Rattle.trace_model.specs.Entry.{is_partial}
use Rattle.trace_model.specs.Frames.{has_shutter, shutter_time}
use Rattle.trace_model.specs.Partial.{partial_count}
use Rattle.trace_laws.proofs.Parts.{part-is}
use Rattle.trace_laws.specs.Times.{partials_after, note_time}
use Rattle.trace_laws.proofs.Told.{tells}
use Rattle.basic_lemmas.proofs.Counts.{count-one, count-over}

pub timed-shutter : (n : ℕ) (past : List Entry) → has_shutter n past ≡ is_some (shutter_time n past)
timed-shutter n [] = refl
timed-shutter n (Shutter m time ∷ past) = elim (cases_Bool (m.0 == n)) [ inl here ↦ rw here refl | inr other ↦ rw other (timed-shutter n past) ]
timed-shutter n (e ∷ past) = timed-shutter n past

pub time-noted : (e : Entry) (past : List Entry) (n : ℕ) → shutter_time n (e ∷ past) ≡ note_time e n (shutter_time n past)
time-noted (Shutter m time) past n = refl
time-noted _ past n = refl

-- a part is the next of its frame
pub parts-noted : (script : Script) (past : List Entry) (e : Entry) (n : ℕ) → IsAllowed script past e → partial_count n (e ∷ past) ≡ partials_after e n (partial_count n past)
parts-noted script past (Partial m k part) n may =
    elim (cases_Bool (m.0 == n)) [
      | inl here ↦ (
          let number = (part-is script past m k part may).number in
          let number' : k ≡ partial_count n past + 1 = rw (eqb-true m.0 n here) at number in
          let one = count-one (is_partial n) (Partial m k part) past here in
          let count : partial_count n (Partial m k part ∷ past) ≡ k = omega (arith, number', one) in
          let note : k ≡ partials_after (Partial m k part) n (partial_count n past) = rw here refl in
          count ∙ note
          )
      | inr other ↦ (
          let note : partial_count n past ≡ partials_after (Partial m k part) n (partial_count n past) = rw other refl in
          count-over (is_partial n) (Partial m k part) past other ∙ note
          )
    ]
parts-noted script past e n may = count-over (is_partial n) e past refl

pub time-other : (e : Entry) (n : ℕ) (old : Option ℕ) → tells n e ≡ false → note_time e n old ≡ old
time-other (Shutter m time) n old none = rw none refl
time-other _ n old none = refl

pub parts-other : (e : Entry) (n old : ℕ) → tells n e ≡ false → partials_after e n old ≡ old
parts-other (Partial m k part) n old none = rw none refl
parts-other _ n old none = refl
