use Rattle.std.proofs.Common.{◌≡◌, reverse, take}
use Rattle.trace_model.specs.Partial.{partial_count}
use Rattle.judge_entries.proofs.number.partial_count.Given as goal

abbrev pub invariant-loop-entry : goal.invariant-loop-entry
invariant-loop-entry l = l.count ≡ partial_count l.frame.0 (reverse (take l.entry-index l.entries))
