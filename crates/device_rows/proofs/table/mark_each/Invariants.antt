use Rattle.std.proofs.Common.{◌≡◌, ◌++◌, map, take, drop}
use Rattle.device_rows.specs.TableRows.{with_mark}
use Rattle.device_rows.proofs.table.mark_each.Given as goal

-- the rows so far are marked, and the others as they were
abbrev pub invariant-loop-row : goal.invariant-loop-row
invariant-loop-row g l = l.rows ≡ map (with_mark l.mark) (take l.row-index l.initial.rows) ++ drop l.row-index l.initial.rows
