use Rattle.std.proofs.Common.{◌≡◌, ◌≤◌, reverse, take}
use Rattle.trace_model.specs.Send.{repeated_since_call}
use Rattle.judge_rules.proofs.ahead.repeated_since_call.Given as goal

abbrev pub invariant-loop-index : goal.invariant-loop-index
invariant-loop-index l = record {
  value : l.count ≡ repeated_since_call l.script (reverse (take l.index l.entries));
  small : l.count ≤ l.index;
}
