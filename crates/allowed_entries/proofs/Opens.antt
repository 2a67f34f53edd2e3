-- A frame of which something is due is open.
use Rattle.std.proofs.Common.{◌≡◌, ◌∙◌, ℕ, ◌==◌, true, ◌&&◌, not, List, [], ◌∷◌, Option, Some, None, refl, sym, ap, inl, inr, filter, find}
use Rattle.std.specs.List.{list_any}
use Rattle.std.proofs.lemmas.Bool.{and_parts, cases_Bool, eqb-true, false≢true}
use Rattle.std.proofs.lemmas.Map.Views.{any-filter_same}
use Rattle.cam_types.specs.declared.script.Script.{Script}
use Rattle.trace_model.specs.declared.entry.Entry.{Entry}
use Rattle.trace_model.specs.declared.entry.Entry.TheVariants.{Send}
use Rattle.trace_model.specs.Faults.{device_fault}
use Rattle.trace_model.specs.Frames.{frames, is_sent}
use Rattle.trace_model.specs.Legal.{IsLegal}
use Rattle.trace_model.specs.Open.{all_settled, is_metadata_ended, is_open}
use Rattle.trace_model.specs.Shutter.{is_next_for_sensor, may_expose}
use Rattle.trace_model.specs.Stopping.{is_stopping}
use Rattle.state_facts.specs.FrameReadings.{on_row, row_at}
use Rattle.state_facts.specs.Row.{Row, open_rows}
use Rattle.state_facts.proofs.OpenRows.{row-open, row-where}
use Rattle.state_facts.proofs.Sensor.{next-is, waiting-open}
use Rattle.allowed_entries.specs.Entries.{open_frames}
use Rattle.basic_lemmas.proofs.Lists.{any-reversed, found-passes}

none-some : {X : Type 0} (x : X) → None ≡ Some x → ⊥
none-some x h = cc

-- what is read from a row is due only of an open frame
pub open-of : (script : Script) (past : List Entry) (n : ℕ) (f : Row → Option Entry) (e : Entry) → IsLegal script past → on_row f (row_at n (open_rows script past)) ≡ Some e → is_open n past ≡ true
open-of script past n f e legal due =
    elim (cases_Bool (is_open n past)) [
      | inl yes' ↦ yes'
      | inr no' ↦
          absurd
          (let at : row_at n (open_rows script past) ≡ None = row-where script past n legal ∙ rw no' refl in
          none-some e (sym (ap (on_row f) at) ∙ due))
    ]

-- ---- an open frame is among the open frames

in-frames : (n : ℕ) (past : List Entry) → is_sent n past ≡ true → list_any (λ m. m == n) (frames past) ≡ true
in-frames n [] sent = absurd (false≢true sent)
in-frames n (Send m r i same targets ∷ past) sent =
    elim (cases_Bool (m.0 == n)) [
      | inl here ↦ rw here refl
      | inr other ↦ (let sent' = rw other at sent in rw other (in-frames n past sent'))
    ]
in-frames n (e ∷ past) sent = in-frames n past sent

pub among-open : (n : ℕ) (past : List Entry) → is_open n past ≡ true → list_any (λ m. m == n) (open_frames past) ≡ true
among-open n past opened =
    let sent = (and_parts (is_sent n past) (not (is_metadata_ended n past && all_settled n past)) opened).0 in
    any-reversed (λ m. m == n) (filter (λ m. is_open m past) (frames past))
    ∙ (any-filter_same (λ m. m == n) (λ m. is_open m past) true (λ m same. ap (λ k. is_open k past) (eqb-true m n same) ∙ opened) (frames past)
    ∙ in-frames n past sent)

-- ---- the frame whose shutter is due

pub exposed-open : (script : Script) (past : List Entry) (n : ℕ) → IsLegal script past → find (may_expose script past) (frames past) ≡ Some n → is_open n past ≡ true
exposed-open script past n legal found =
    let may = found-passes (may_expose script past) (frames past) n found in
    let parts = and_parts (not (is_stopping past)) (is_next_for_sensor n past && not (device_fault script n)) may in
    let next = next-is script past n legal (and_parts (is_next_for_sensor n past) (not (device_fault script n)) parts.1).0 in
    sym (row-open script past n legal next.sent) ∙ waiting-open script past n legal next.sent next.waiting
