-- Whose turn it is among the rows: those of earlier frames, and the first that the sensor takes.
use Rattle.std.specs.Prelude.{IfSome}
use Rattle.std.proofs.Common.{◌≡◌, ℕ, ◌+◌, Bool, true, false, ◌&&◌, not, is_some, List, [], ◌∷◌, drop, nat_lt, Option, Some, None, slice_get, refl, ◌∙◌, arith}
use Rattle.std.specs.List.{list_all}
use Rattle.std.specs.Option.{option_map}
use Rattle.std.proofs.lemmas.Bool.{and_parts}
use Rattle.std.proofs.lemmas.Bool.Decides.{nat_tests}
use Rattle.std.proofs.lemmas.Option.{slice_get-map}
use Rattle.basic_lemmas.proofs.Tests.{or-true}
use Rattle.cam_types.specs.declared.row.RowView.{RowView}
use Rattle.device_rows.specs.Order.{each_below}
use Rattle.device_rows.specs.Ready.{next_exposure}
use Rattle.device_rows.specs.Rows.{row_at}
use Rattle.device_rows.specs.declared.table_row.Row.{Row}
use Rattle.device_rows.specs.TableRows.{view_of}
use Rattle.device_core.specs.Stored.{find_view, frame_number, rises, views}
use Rattle.device_core.proofs.General.{drop-here, rises-drop}
use Rattle.device_core.proofs.Views.{find-views}

-- ---- a place of the rows

pub view-at : {B : Type 0} (rows : List (Row B)) (i : ℕ) (o : Option RowView) → option_map view_of (slice_get rows i) ≡ o → slice_get (views rows) i ≡ o
view-at rows i o at = slice_get-map view_of rows i ∙ at

-- ---- the rows of earlier frames, from a place on

above-first : (frame k : ℕ) (test : RowView → Bool) (rows : List RowView) → nat_lt k frame ≡ false → list_all (λ row. nat_lt k (frame_number row)) rows ≡ true → each_below frame test rows ≡ true
above-first frame k test [] past above = refl
above-first frame k test (row ∷ rows) past above =
    let parts = and_parts (nat_lt k (frame_number row)) (list_all (λ row. nat_lt k (frame_number row)) rows) above in
    let over : nat_lt row.frame.0 frame ≡ false = grind (arith, nat_tests, past, parts.0) in
    rw (over, above-first frame k test rows past parts.1) refl

-- a row that isn't below ends them
pub below-over : (rows : List RowView) (i : ℕ) (row : RowView) (frame : ℕ) (test : RowView → Bool) → rises frame_number rows ≡ true → slice_get rows i ≡ Some row → nat_lt row.frame.0 frame ≡ false → each_below frame test (drop i rows) ≡ true
below-over rows i row frame test order at past =
    let order' = rises-drop frame_number rows i order in
    let rest = rw (drop-here rows i row at) at order' in
    let parts = and_parts (list_all (λ other. nat_lt (frame_number row) (frame_number other)) (drop (i + 1) rows)) (rises frame_number (drop (i + 1) rows)) rest in
    rw (drop-here rows i row at, past, above-first frame row.frame.0 test (drop (i + 1) rows) past parts.0) refl

-- one below that doesn't pass decides
pub below-fails : (rows : List RowView) (i : ℕ) (row : RowView) (frame : ℕ) (test : RowView → Bool) → slice_get rows i ≡ Some row → nat_lt row.frame.0 frame ≡ true → test row ≡ false → each_below frame test (drop i rows) ≡ false
below-fails rows i row frame test at low fails = rw (drop-here rows i row at, low, fails) refl

-- and one that passes leaves those behind it
pub below-passes : (rows : List RowView) (i : ℕ) (row : RowView) (frame : ℕ) (test : RowView → Bool) → slice_get rows i ≡ Some row → test row ≡ true → each_below frame test (drop i rows) ≡ each_below frame test (drop (i + 1) rows)
below-passes rows i row frame test at passes = rw (drop-here rows i row at, passes, or-true (not (nat_lt row.frame.0 frame))) refl

-- ---- the frame that the sensor takes next

pub exposure-here : (rows : List RowView) (i : ℕ) (row : RowView) → slice_get rows i ≡ Some row → (not (is_some row.shutter) && not row.request_error) ≡ true → next_exposure (drop i rows) ≡ Some row
exposure-here rows i row at is = rw (drop-here rows i row at, is) refl

pub exposure-later : (rows : List RowView) (i : ℕ) (row : RowView) → slice_get rows i ≡ Some row → (not (is_some row.shutter) && not row.request_error) ≡ false → next_exposure (drop i rows) ≡ next_exposure (drop (i + 1) rows)
exposure-later rows i row at is = rw (drop-here rows i row at, is) refl

pub found-views : {B : Type 0} (o : Option RowView) (rows : List (Row B)) → IfSome o (λ row. find_view row.frame.0 rows ≡ Some row) → IfSome o (λ row. row_at row.frame.0 (views rows) ≡ Some row)
found-views None rows h = h
found-views (Some row) rows h = find-views row.frame.0 rows ∙ h
