use Rattle.std.proofs.Common.{◌≡◌, ◌++◌}
use Rattle.std.specs.List.{flat_map, range_with_len}
use Rattle.state_facts.specs.States.{late_in}
use Rattle.allowed_entries.specs.Known.{shown}
use Rattle.allowed_entries.proofs.fences.add_lates.Given as goal

abbrev pub invariant-loop-number : goal.invariant-loop-number
invariant-loop-number l =
    l.list.items ≡ l.initial.list.items ++ flat_map (λ d. shown (late_in l.tables.state d)) (range_with_len 0 l.number)
