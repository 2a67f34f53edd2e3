-- The row at a place is the row that its frame finds: in a run, each open frame has one row.
use Rattle.std.proofs.Common.{◌≡◌, ℕ, zero, suc, Bool, true, List, [], ◌∷◌, Some, refl, sym, ap, ◌∙◌, inl, inr, filter, map, reverse, slice_get}
use Rattle.std.proofs.lemmas.Bool.{cases_Bool}
use Rattle.cam_types.specs.declared.row.RowView.{RowView}
use Rattle.cam_types.specs.declared.script.Script.{Script}
use Rattle.trace_model.specs.Frames.{frames}
use Rattle.trace_model.specs.Open.{is_open}
use Rattle.run_model.specs.declared.step.Move.{Move}
use Rattle.run_model.specs.History.{trace_of}
use Rattle.run_model.specs.Rows.{row_of, rows}
use Rattle.device_rows.specs.Rows.{row_at}
use Rattle.run_rows.proofs.Frames.{row-found}
use Rattle.service_parts.specs.Parts.{Parts}
use Rattle.service_state.specs.Serving.{IsServing, Serving}

here : (f : ℕ → RowView) (p : ℕ → Bool) (x : ℕ) (row : RowView) → (f x).frame.0 ≡ x → p x ≡ true → f x ≡ row → (p row.frame.0 ≡ true) × (f row.frame.0 ≡ row)
here f p x row own kept is =
    let number : row.frame.0 ≡ x = ap (λ (r : RowView). r.frame.0) (sym is) ∙ own in
    (rw number kept, ap f number ∙ is)

own-in : (f : ℕ → RowView) (p : ℕ → Bool) (xs : List ℕ) (place : ℕ) (row : RowView) → ((x : ℕ) → (f x).frame.0 ≡ x) → slice_get (map f (filter p xs)) place ≡ Some row → (p row.frame.0 ≡ true) × (f row.frame.0 ≡ row)
own-in f p [] place row own is = absurd (cc)
own-in f p (x ∷ xs) zero row own is = elim (cases_Bool (p x)) [
  | inl yes' ↦ (let is' = rw yes' at is in let same : f x ≡ row = cc in here f p x row (own x) yes' same)
  | inr no' ↦ own-in f p xs zero row own (rw no' at is)
]
own-in f p (x ∷ xs) (suc place) row own is = elim (cases_Bool (p x)) [
  | inl yes' ↦ own-in f p xs place row own (rw yes' at is)
  | inr no' ↦ own-in f p xs (suc place) row own (rw no' at is)
]

own-row : (script : Script) (h : List Move) (place : ℕ) (row : RowView) → slice_get (rows script h) place ≡ Some row → row_at row.frame.0 (rows script h) ≡ Some row
own-row script h place row is =
    let past = trace_of h in
    let parts = own-in (row_of script h) (λ n. is_open n past) (reverse (frames past)) place row (λ n. refl) is in
    row-found script h row.frame.0 ∙ rw parts.0 (ap (λ (r : RowView). Some r) parts.1)

pub own_row : (s : Serving) (place : ℕ) (row : RowView) → IsServing s → slice_get s.parts.rows place ≡ Some row → row_at row.frame.0 s.parts.rows ≡ Some row
own_row s place row serving is =
    let run = serving.run in
    let left : s.parts.rows ≡ rows s.script run.history = ap (λ (p : Parts). p.rows) run.left in
    rw left (own-row s.script run.history place row (rw left at is))
