-- The rows with what is parked for them, and the rows alone.
use Rattle.std.proofs.Common.{◌≡◌, ℕ, ◌==◌, true, false, if◌then◌else◌, List, [], ◌∷◌, map, Some, refl, sym, ◌∙◌}
use Rattle.std.specs.Option.{option_map}
use Rattle.basic_lemmas.proofs.Lists.{find-mapped, map-map, found-passes}
use Rattle.cam_types.specs.declared.row.RowView.{RowView}
use Rattle.cam_types.specs.declared.stream.StreamSpec.{StreamSpec}
use Rattle.device_rows.specs.Rows.{row_at, with_row as with_view}
use Rattle.device_core.specs.declared.buffers.Held.{Held}
use Rattle.device_core.specs.Kept.{full}
use Rattle.device_core.specs.Stored.{find_view, frame_number, rises, views}
use Rattle.device_rows.specs.declared.table_row.Row.{Row}
use Rattle.device_rows.specs.TableRows.{is_of, row_of, view_of}
use Rattle.device_core.proofs.General.{map-at}

pub views-full : (specs : List StreamSpec) (rows : List RowView) → views (map (full specs) rows) ≡ rows
views-full specs [] = refl
views-full specs (r ∷ rows) = rw (views-full specs rows) refl

pub find-full : (specs : List StreamSpec) (n : ℕ) (rows : List RowView) → row_of n (map (full specs) rows) ≡ option_map (full specs) (row_at n rows)
find-full specs n rows = find-mapped (is_of n) (full specs) rows

pub find-views : {B : Type 0} (n : ℕ) (rows : List (Row B)) → row_at n (views rows) ≡ find_view n rows
find-views n rows = find-mapped (λ row. row.frame.0 == n) view_of rows

pub found-own : (n : ℕ) (rows : List RowView) (row : RowView) → row_at n rows ≡ Some row → (row.frame.0 == n) ≡ true
found-own n rows row found = found-passes (λ v. v.frame.0 == n) rows row found

-- one row changed: what is held for it follows
pub step-full : (specs : List StreamSpec) (n : ℕ) (g : Row Held → Row Held) (change : RowView → RowView) (rows : List RowView) (row : RowView) → rises frame_number rows ≡ true → row_at n rows ≡ Some row → g (full specs row) ≡ full specs (change row) → ((v : RowView) → (v.frame.0 == n) ≡ false → g (full specs v) ≡ full specs v) → map g (map (full specs) rows) ≡ map (full specs) (with_view n change rows)
step-full specs n g change rows row order found here other =
    let whole = map-at frame_number (λ v. g (full specs v)) (λ v. full specs (if v.frame.0 == n then change v else v)) n rows row order found in
    let own : (row.frame.0 == n) ≡ true = found-own n rows row found in
    map-map g (full specs) rows ∙ (whole (rw own here) (λ v no'. rw no' (other v no')) ∙ sym (map-map (full specs) (λ v. if v.frame.0 == n then change v else v) rows))
