use Rattle.std.proofs.Common.{◌≡◌, reverse, take}
use Rattle.trace_model.specs.Numbers.{next_early}
use Rattle.judge_entries.proofs.number.next_early.Given as goal

abbrev pub invariant-loop-entry : goal.invariant-loop-entry
invariant-loop-entry l = l.count ≡ next_early (reverse (take l.entry-index l.entries))
