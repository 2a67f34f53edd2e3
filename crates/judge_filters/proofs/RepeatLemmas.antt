-- The repeating list, as a search in the past.
use Rattle.std.proofs.Common.{◌≡◌, List, [], ◌∷◌, refl, find, inl, inr}
use Rattle.std.proofs.lemmas.Bool.{cases_Bool}
use Rattle.cam_types.specs.declared.script.Script.{Script}
use Rattle.trace_model.specs.declared.entry.Entry.{Entry}
use Rattle.trace_model.specs.declared.entry.Entry.TheVariants.{Call}
use Rattle.trace_model.specs.Entry.{is_refusal}
use Rattle.trace_model.specs.Queue.{repeating, is_repeat_word, is_clearing_word}
use Rattle.judge_filters.specs.Turns.{repeating_in, sets_repeating}

pub repeating_found : (script : Script) (past : List Entry) → repeating script past ≡ repeating_in script (find sets_repeating past)
repeating_found script [] = refl
repeating_found script (Call i word reply ∷ past) =
    let ih = repeating_found script past in
    elim (cases_Bool (is_refusal reply)) [
      | inl refused ↦ rw refused ih
      | inr accepted ↦ elim (cases_Bool (is_repeat_word word)) [
        | inl repeats ↦ rw (accepted, repeats, repeats) refl
        | inr other ↦ elim (cases_Bool (is_clearing_word word)) [
          | inl clears ↦ rw (accepted, other, clears, other) refl
          | inr stays ↦ rw (accepted, other, stays) ih
        ]
      ]
    ]
repeating_found script (e ∷ past) = repeating_found script past
