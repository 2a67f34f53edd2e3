use Rattle.std.proofs.Common.{◌≡◌, ◌++◌, ◌-◌}
use Rattle.std.specs.List.{flat_map, range_with_len}
use Rattle.state_facts.specs.Homes.{release_in}
use Rattle.allowed_entries.specs.Known.{shown}
use Rattle.allowed_entries.proofs.releases.add_made.Given as goal

abbrev pub invariant-loop-number : goal.invariant-loop-number
invariant-loop-number l =
    l.list.items ≡ l.initial.list.items ++ flat_map (λ b. shown (release_in l.tables.state.buffers b)) (range_with_len l.first (l.number - l.first))
