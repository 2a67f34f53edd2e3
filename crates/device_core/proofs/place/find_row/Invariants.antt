use Rattle.std.proofs.Common.{◌≡◌, drop}
use Rattle.device_rows.specs.TableRows.{row_of}
use Rattle.device_core.proofs.place.find_row.Given as goal

abbrev pub invariant-loop-place : goal.invariant-loop-place
invariant-loop-place l = row_of l.frame.0 l.table.rows ≡ row_of l.frame.0 (drop l.place l.table.rows)
