use Rattle.std.specs.Prelude.{◌≡◌, ◌≤◌, ℕ, true, List, length}
use Rattle.std.specs.List.{list_all}
use Rattle.device_rows.specs.declared.table_row.Row.{Row}
use Rattle.device_rows.specs.TableRows.{are_in_order, is_sound}

-- as many rows as may stand have room, and are at most 16, no more stand, they are in order of frames, and what is
-- parked is in reach
pub record IsKept {B : Type 0} (rows : List (Row B)) (capacity memory : ℕ) : Type 0 where
  pub few : capacity ≤ 16
  pub room : capacity ≤ memory
  pub within : length rows ≤ capacity
  pub ordered : are_in_order rows ≡ true
  pub sound : list_all is_sound rows ≡ true
