use Rattle.std.proofs.Common.{◌≡◌, ◌++◌, filter}
use Rattle.std.specs.Map.{values_of}
use Rattle.hal_rows.specs.Judged.{is_row_silent, row_silences}
use Rattle.hal_judge.proofs.fault.rows_silent.Given as goal

-- what is told of the rows so far, and of those that are left
abbrev pub invariant-loop-row : goal.invariant-loop-row
invariant-loop-row l =
    l.faults.items ++ row_silences (filter (is_row_silent l.event) (values_of l.row-iterator))
    ≡ row_silences (filter (is_row_silent l.event) l.table.rows)
