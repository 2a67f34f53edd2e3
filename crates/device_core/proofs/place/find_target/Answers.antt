use Rattle.std.proofs.Common.{◌≡◌, ℕ, true, Option, None, Some, refl, sym, ◌∙◌}
use Rattle.std.proofs.lemmas.Bool.{false≢true}
use Rattle.std.specs.Prelude.{is_some}
use Rattle.std.specs.Option.{option_and_then}
use Rattle.cam_types.specs.declared.row.RowView.{RowView}
use Rattle.device_rows.specs.Rows.{row_at, target_at}
use Rattle.device_core.specs.Stored.{views}
use Rattle.device_core.proofs.place.find_target.Goals as goal

-- a frame that has a target stands
stands : (o : Option RowView) (s : ℕ) → is_some (option_and_then (target_at s) o) ≡ true → is_some o ≡ true
stands (Some row) s h = refl
stands None s h = absurd (false≢true h)

pub find_row-place-requires : goal.find_row-place-requires
find_row-place-requires c = stands (row_at c.args.frame.0 (views c.args.table.now.rows)) c.args.stream.0 c.requires

pub unreachable-requires : goal.unreachable-requires
unreachable-requires c =
    let none = sym c.target_at.ensures ∙ c.in-None.is in
    false≢true (rw (c.find_row-place.ensures.found, none) at c.requires)
