use Rattle.std.proofs.Common.{◌≡◌, ◌++◌, drop, filter}
use Rattle.hal_model.specs.Rules.{at_targets}
use Rattle.hal_table.specs.State.{state_of}
use Rattle.hal_checks.specs.Targets.{is_target_wrong}
use Rattle.hal_judge.proofs.fault.targets_wrong.Given as goal

-- what is told and what is left are all that are at fault
abbrev pub invariant-loop-target : goal.invariant-loop-target
invariant-loop-target l =
    at_targets l.frame (filter (is_target_wrong l.fault l.targets (state_of l.table)) l.targets)
    ≡ l.faults.items
    ++ at_targets l.frame (filter (is_target_wrong l.fault l.targets (state_of l.table)) (drop l.target-index l.targets))
