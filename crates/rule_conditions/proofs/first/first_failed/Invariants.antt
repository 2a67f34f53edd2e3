use Rattle.std.proofs.Common.{◌≡◌, true, reverse, take}
use Rattle.std.specs.List.{list_all}
use Rattle.rule_conditions.specs.Conditions.{holds}
use Rattle.rule_conditions.proofs.first.first_failed.Given as goal

abbrev pub invariant-loop-condition : goal.invariant-loop-condition
invariant-loop-condition l =
    list_all (holds l.script (reverse l.entries) l.entry) (take l.condition-index l.conditions) ≡ true
