use Rattle.std.proofs.Common.{◌≡◌, ◌++◌, drop, filter}
use Rattle.hal_rows.specs.Judged.{at_target_rows}
use Rattle.hal_rows.specs.Row.{is_row_unannounced_at}
use Rattle.hal_judge.proofs.fault.targets_silent.Given as goal

-- what is told and what is left are all that are in error without a notice
abbrev pub invariant-loop-target : goal.invariant-loop-target
invariant-loop-target l =
    at_target_rows l.row.frame (filter (is_row_unannounced_at l.row) l.targets)
    ≡ l.faults.items
    ++ at_target_rows l.row.frame (filter (is_row_unannounced_at l.row) (drop l.target-index l.targets))
