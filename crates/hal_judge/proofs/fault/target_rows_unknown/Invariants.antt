use Rattle.std.proofs.Common.{◌≡◌, ◌++◌, drop, filter}
use Rattle.hal_rows.specs.Judged.{at_target_rows, is_target_unknown_in}
use Rattle.hal_judge.proofs.fault.target_rows_unknown.Given as goal

-- what is told and what is left are all that are of an unknown stream
abbrev pub invariant-loop-target : goal.invariant-loop-target
invariant-loop-target l =
    at_target_rows l.frame (filter (is_target_unknown_in l.streams) l.targets)
    ≡ l.faults.items
    ++ at_target_rows l.frame (filter (is_target_unknown_in l.streams) (drop l.target-index l.targets))
