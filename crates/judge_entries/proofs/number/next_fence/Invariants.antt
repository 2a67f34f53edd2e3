use Rattle.std.proofs.Common.{◌≡◌, reverse, take}
use Rattle.trace_model.specs.Numbers.{next_fence}
use Rattle.judge_entries.proofs.number.next_fence.Given as goal

abbrev pub invariant-loop-entry : goal.invariant-loop-entry
invariant-loop-entry l = l.count ≡ next_fence (reverse (take l.entry-index l.entries))
