use Rattle.std.proofs.Common.{◌≡◌, ◌≤◌, ◌*◌, reverse, take}
use Rattle.trace_model.specs.Configuration.{made_count}
use Rattle.judge_rules.proofs.acceptance.made_count.Given as goal

abbrev pub invariant-loop-entry : goal.invariant-loop-entry
invariant-loop-entry l = record {
  value : l.count ≡ made_count (reverse (take l.entry-index l.entries));
  few : l.count ≤ 17179869184 * l.entry-index;
}
