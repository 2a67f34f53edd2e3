use Rattle.std.proofs.Common.{◌≡◌, reverse, take}
use Rattle.trace_model.specs.Calls.{request_count}
use Rattle.judge_entries.proofs.number.request_count.Given as goal

abbrev pub invariant-loop-entry : goal.invariant-loop-entry
invariant-loop-entry l = l.count ≡ request_count (reverse (take l.entry-index l.entries))
