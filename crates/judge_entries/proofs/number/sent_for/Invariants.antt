use Rattle.std.proofs.Common.{◌≡◌, reverse, take}
use Rattle.trace_model.specs.Queue.{sent_for}
use Rattle.judge_entries.proofs.number.sent_for.Given as goal

abbrev pub invariant-loop-entry : goal.invariant-loop-entry
invariant-loop-entry l = l.count ≡ sent_for l.request.0 (reverse (take l.entry-index l.entries))
