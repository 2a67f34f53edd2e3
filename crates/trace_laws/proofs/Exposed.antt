-- Parts and errors of metadata come after the shutter.
use Rattle.std.proofs.Common.{◌≡◌, ℕ, ◌==◌, true, false, List, [], ◌∷◌, inl, inr}
use Rattle.std.proofs.lemmas.Bool.{and_parts, cases_Bool, eqb-true, false≢true, or_right}
use Rattle.cam_types.specs.declared.script.Script.{Script}
use Rattle.trace_model.specs.declared.entry.Entry.{Entry}
use Rattle.trace_model.specs.declared.entry.Entry.TheVariants.{Shutter, Partial, ErrorResult}
use Rattle.trace_model.specs.Entry.{is_error_of, is_error_result, is_part}
use Rattle.trace_model.specs.Frames.{has_error, has_shutter}
use Rattle.trace_model.specs.Legal.{IsLegal}
use Rattle.trace_model.specs.Open.{has_error_result, has_part}
use Rattle.trace_laws.proofs.Parts.{part-is}
use Rattle.basic_lemmas.proofs.Lists.{any-less}
use Rattle.trace_laws.proofs.Metadata.{result-fails, result-is-error}

pub part-shutter : (script : Script) (past : List Entry) (n : ℕ) → IsLegal script past → has_part n 3 past ≡ true → has_shutter n past ≡ true
part-shutter script [] n legal h = absurd (false≢true h)
part-shutter script (Partial m k part ∷ past) n legal h =
    elim (cases_Bool (is_part n 3 (Partial m k part))) [
      | inl here ↦ (let at = eqb-true m.0 n (and_parts (m.0 == n) (k == 3) here).0 in let shutter = (part-is script past m k part legal.0).shutter in rw at at shutter)
      | inr other ↦ (let h' = rw other at h in part-shutter script past n legal.1 h')
    ]
part-shutter script (Shutter m time ∷ past) n legal h = or_right (m.0 == n) (has_shutter n past) (part-shutter script past n legal.1 h)
part-shutter script (e ∷ past) n legal h = part-shutter script past n legal.1 h

pub no-result : (n : ℕ) (past : List Entry) → has_error n past ≡ false → has_error_result n past ≡ false
no-result n past h = any-less (is_error_of n) (is_error_result n) past (result-is-error n) h

pub result-shutter : (script : Script) (past : List Entry) (n : ℕ) → IsLegal script past → has_error_result n past ≡ true → has_shutter n past ≡ true
result-shutter script [] n legal h = absurd (false≢true h)
result-shutter script (ErrorResult m ∷ past) n legal h =
    elim (cases_Bool (m.0 == n)) [
      | inl here ↦ (let shutter = (result-fails script past m legal.0).shutter in rw (eqb-true m.0 n here) at shutter)
      | inr other ↦ (let h' = rw other at h in result-shutter script past n legal.1 h')
    ]
result-shutter script (Shutter m time ∷ past) n legal h = or_right (m.0 == n) (has_shutter n past) (result-shutter script past n legal.1 h)
result-shutter script (e ∷ past) n legal h = result-shutter script past n legal.1 h
